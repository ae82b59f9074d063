-- What was read for a rendering.
use Rattle.std.specs.Prelude.{◌≡◌, ℕ, List, [], Option, Some, None}
use Rattle.vh_journal.specs.declared.entry.Entry.{Entry}
use Rattle.vh_meaning.specs.Rendering.{stops}
use Rattle.vh_session.specs.Content.{Content}
use Rattle.vh_answers.specs.Outside.{Store}
use Rattle.vh_answers.specs.Steps.{Gives}
use Rattle.vh_host.specs.declared.material.Material.{Material}
use Rattle.vh_host.specs.Words.{Render}
use Rattle.vh_host.specs.Input.{Heard, IsHeard}
use Rattle.vh_host.specs.Commands.{input_step, journal_step}

-- entries of a journal, or none
abbrev pub AreGiven : Store → Content → Option (List ℕ) → List Entry → Type 0
AreGiven old content None entries = entries ≡ []
AreGiven old content (Some name) entries = Gives old (journal_step content.nodes content.length name) entries

-- the files of a rendering gave what is heard and the entries, and this is what they gave
pub record IsGathered (old : Store) (render : Render) (content : Content) (heard : Heard) (material : Material) : Type 0 where
  pub input : Gives old (input_step render.input content.channels) heard
  pub sound : IsHeard content.channels content.length heard material.input.rate material.input.sound
  pub entries : AreGiven old content render.journal material.entries.items
  pub stops_are : material.stops.items ≡ stops material.entries.items

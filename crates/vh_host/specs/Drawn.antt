-- What was drawn from a number.
use Rattle.std.specs.Prelude.{◌≡◌, ℕ, List}
use Rattle.vh_params.specs.declared.class.ClassInfo.{ClassInfo}
use Rattle.vh_params.specs.Nodes.{nodes_of}
use Rattle.vh_session.specs.Names.{content_of}
use Rattle.vh_journal_text.specs.Items.{items_of}
use Rattle.vh_journal_text.specs.Keeps.{AreEntries, AreThere}
use Rattle.vh_gen.specs.declared.generator.Generated.{Generated}
use Rattle.vh_gen.specs.Generated.{session_of, journal_of, before_input}
use Rattle.vh_gen.specs.Sound.{HasDrawn}

-- its session under these classes, a journal of it, and its input
pub record IsDrawn (infos : List ClassInfo) (number : ℕ) (drawn : Generated) : Type 0 where
  pub session : content_of drawn.session ≡ session_of infos number
  pub entries : drawn.entries.items ≡ journal_of infos number
  pub journal : AreEntries (nodes_of drawn.session.nodes) drawn.session.length (items_of drawn.entries.items)
  pub there : AreThere (nodes_of drawn.session.nodes) drawn.entries.items
  pub sound : HasDrawn (before_input infos number) drawn.sound

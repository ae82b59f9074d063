-- A session that was read, with its presets.
use Rattle.std.specs.Prelude.{ℕ, List, length, Option}
use Rattle.vh_preset.specs.Contents.{Contents}
use Rattle.vh_session.specs.Content.{Content}
use Rattle.vh_instance.specs.Presets.{AreAccepted}
use Rattle.vh_answers.specs.Outside.{Store}
use Rattle.vh_answers.specs.Each.{AllGive}
use Rattle.vh_answers.specs.Steps.{Gives}
use Rattle.vh_reading.specs.Reading.{node_step}
use Rattle.vh_host.specs.Known.{Known, plan_of}
use Rattle.vh_host.specs.Commands.{session_step}

-- the file of this name gave a session, and the files of its presets gave presets of their nodes' classes
pub record IsOpened (old : Store) (known : Known) (name : List ℕ) (content : Content) (presets : List (Option Contents)) : Type 0 where
  pub session : Gives old (session_step known.infos name) content
  pub given : AllGive old (node_step content) (length content.nodes) presets
  pub accepted : AreAccepted (plan_of known content presets 0) (length content.nodes)

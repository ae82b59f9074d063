-- What the numbers of a table stand for.
use Rattle.std.specs.Prelude.{◌≡◌, ℕ, List, All}
use Rattle.vh_params.specs.Nodes.{Node}
use Rattle.vh_params.specs.declared.command.Word.{Word}
use Rattle.vh_gesture.specs.Rules.{Counts, NamesNode}
use Rattle.vh_gesture.specs.Scripts.{accepted, edits, commands, counts_after}
use Rattle.vh_gesture.specs.Tables.{counts_in, fresh, accepted_by, table_after}

-- two say the same of what the editor has
pub record AreSame (one other : Counts) : Type 0 where
  pub holds : (node : ℕ) → one.holds node ≡ other.holds node
  pub held : (node : ℕ) → one.held node ≡ other.held node
  pub opened : (node id : ℕ) → one.opened node id ≡ other.opened node id

-- one word after another, a table accepts what is accepted of the script
abbrev pub TableAcceptsScript : Type 0
TableAcceptsScript = (nodes : List Node) (script : List Word) → All (NamesNode nodes) script → accepted_by nodes (fresh nodes) script ≡ accepted nodes script

-- so the commands that it lets through are the script's edits
abbrev pub TableGivesEdits : Type 0
TableGivesEdits = (nodes : List Node) (script : List Word) → All (NamesNode nodes) script → commands (accepted_by nodes (fresh nodes) script) ≡ edits nodes script

-- and its numbers are the counts over the accepted words
abbrev pub TableCounts : Type 0
TableCounts = (nodes : List Node) (script : List Word) → All (NamesNode nodes) script
    → AreSame (counts_in (table_after nodes (fresh nodes) script)) (counts_after (accepted nodes script))

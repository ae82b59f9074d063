-- What a rendering of a session may carry, from the session's own parameters.
use Rattle.std.specs.Prelude.{◌≡◌, ◌<◌, ◌≤◌, ◌^◌, true, List, length, All}
use Rattle.vh_journal.specs.declared.entry.Entry.{Entry}
use Rattle.vh_params.specs.declared.command.Command.{Command}
use Rattle.vh_params.specs.declared.command.Command.TheVariants.{Begin, Perform, End, Tell}
use Rattle.vh_params.specs.Nodes.{Node}
use Rattle.vh_session.specs.Keeps.{can_set}

-- a command on a node that is there, and on a parameter that can be set
abbrev pub IsOn : List Node → Command → Type 0
IsOn nodes (Begin node id) = can_set nodes node id ≡ true
IsOn nodes (Perform node id value) = (can_set nodes node id ≡ true) × (value ≤ 2 ^ 24)
IsOn nodes (End node id) = can_set nodes node id ≡ true
IsOn nodes (Tell node words) = node < length nodes

abbrev pub AreOn : List Node → List Entry → Type 0
AreOn nodes entries = All (λ entry. IsOn nodes entry.command) entries

-- An editor's table as it hears what is put.
use Rattle.std.specs.Prelude.{ℕ, List, Bool, ◌==◌, ◌&&◌, is_none, if◌then◌else◌}
use Rattle.vh_params.specs.declared.command.Word.{Word}
use Rattle.vh_params.specs.declared.command.Word.TheVariants.{Edit, Hold, Unhold, Wait}
use Rattle.vh_params.specs.Nodes.{Node}
use Rattle.vh_gesture.specs.Tables.{Table, fault_at, after}
use Rattle.vh_core.specs.Accepting.{names_node}

-- a word is let through: its node is there, and the table has no fault of it
abbrev pub is_heard : List Node → Table → Word → Bool
is_heard nodes table word = names_node nodes word && is_none (fault_at nodes table word)

-- the put is an editor's, and is let through
abbrev pub is_own : List Node → ℕ → Table → ℕ × Word → Bool
is_own nodes editor table put = (put.0 == editor) && is_heard nodes table put.1

-- the table behind a put
abbrev pub table_with : List Node → ℕ → Table → ℕ × Word → Table
table_with nodes editor table put = if is_own nodes editor table put then after table put.1 else table

abbrev pub edit_count : Word → ℕ
edit_count (Edit command) = 1
edit_count (Hold node) = 0
edit_count (Unhold node) = 0
edit_count (Wait block) = 0

-- how many edits it adds
abbrev pub edits_with : List Node → ℕ → Table → ℕ × Word → ℕ
edits_with nodes editor table put = if is_own nodes editor table put then edit_count put.1 else 0

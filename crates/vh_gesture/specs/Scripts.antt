-- What is accepted of an editor's script.
use Rattle.std.specs.Prelude.{ℕ, ◌+◌, ◌-◌, Bool, true, false, not, ◌&&◌, ◌==◌, is_none, List, [], ◌∷◌, ◌++◌, length, filter, if◌then◌else◌}
use Rattle.vh_params.specs.Nodes.{Node}
use Rattle.vh_params.specs.declared.command.Command.{Command}
use Rattle.vh_params.specs.declared.command.Command.TheVariants.{Begin, End}
use Rattle.vh_params.specs.declared.command.Word.{Word}
use Rattle.vh_params.specs.declared.command.Word.TheVariants.{Edit, Hold, Unhold, Wait}
use Rattle.vh_gesture.specs.Rules.{Counts, fault}

abbrev pub is_hold : ℕ → Word → Bool
is_hold node (Hold other) = other == node
is_hold node _ = false

abbrev pub is_drop : ℕ → Word → Bool
is_drop node (Unhold other) = other == node
is_drop node _ = false

abbrev pub is_begin : ℕ → ℕ → Word → Bool
is_begin node id (Edit (Begin other key)) = (other == node) && (key == id)
is_begin node id _ = false

abbrev pub is_end : ℕ → ℕ → Word → Bool
is_end node id (Edit (End other key)) = (other == node) && (key == id)
is_end node id _ = false

abbrev pub is_wait : Word → Bool
is_wait (Wait block) = true
is_wait _ = false

-- how many of these words are so
abbrev pub count : (Word → Bool) → List Word → ℕ
count is words = length (filter is words)

-- what an editor has after these accepted words: it begins with one reference to each node, a hold adds one
-- and a drop gives one back; a gesture is open from its begin to its end
abbrev pub counts_after : List Word → Counts
counts_after words = record {
  holds = λ node. count (is_hold node) words;
  held = λ node. 1 + count (is_hold node) words - count (is_drop node) words;
  opened = λ node id. count (is_begin node id) words - count (is_end node id) words;
}

-- a word is accepted after these accepted words. A wait is no word of the editor's own
abbrev pub is_accepted : List Node → List Word → Word → Bool
is_accepted nodes before word = not (is_wait word) && is_none (fault nodes (counts_after before) word)

-- what is accepted of these words, behind those that were accepted before
abbrev pub accepted_behind : List Node → List Word → List Word → List Word
accepted_behind nodes before [] = []
accepted_behind nodes before (word ∷ words) =
    if is_accepted nodes before word then word ∷ accepted_behind nodes (before ++ word ∷ []) words else accepted_behind nodes before words

-- what is accepted of a script
abbrev pub accepted : List Node → List Word → List Word
accepted nodes script = accepted_behind nodes [] script

-- the edits and messages among these words
abbrev pub commands : List Word → List Command
commands [] = []
commands (Edit command ∷ words) = command ∷ commands words
commands (_ ∷ words) = commands words

-- what a script does: the commands that stand in the journal, in order
abbrev pub edits : List Node → List Word → List Command
edits nodes script = commands (accepted nodes script)

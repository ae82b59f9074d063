-- What the reader keeps of the entries so far.
use Rattle.std.specs.Prelude.{◌≡◌, ℕ, ◌+◌, ◌<◌, Bool, true, false, ◌&&◌, ◌==◌, slice_index, if◌then◌else◌}
use Rattle.std.specs.HashSet.{HashSet, contains_by}
use Rattle.std.specs.declared.hash.BuildHasherDefault.{BuildHasherDefault}
use Rattle.std.specs.declared.hash.FoldHasher.{FoldHasher}
use Rattle.vh_params.specs.declared.command.Command.{Command}
use Rattle.vh_params.specs.declared.command.Command.TheVariants.{Begin, Perform, End, Tell}
use Rattle.vh_journal_text.specs.declared.standing.Standing.{Standing}
use Rattle.vh_journal_text.specs.declared.standing.Gesture.{Gesture}
use Rattle.vh_journal_text.specs.Rules.{count_of, begins_of, ends_of}
use Rattle.vh_journal_text.specs.View.{so_far}

abbrev pub Gestures : Type 0
Gestures = HashSet Gesture (BuildHasherDefault FoldHasher)

-- two gestures are one editor's on one parameter
abbrev pub same_key : ℕ → ℕ → ℕ → ℕ → ℕ → ℕ → Bool
same_key editor node id e n i = (editor == e) && ((node == n) && (id == i))

-- an editor's gesture on a parameter is among these
abbrev pub has_gesture : Gestures → ℕ → ℕ → ℕ → Bool
has_gesture gestures editor node id = contains_by (λ gesture. same_key editor node id gesture.editor gesture.node gesture.id) gestures

-- what a command of an editor does to the gestures that are open
abbrev pub IsKept : Gestures → Gestures → ℕ → Command → Type 0
IsKept before after editor (Begin node id) = (e n i : ℕ) → has_gesture after e n i ≡ (if same_key editor node id e n i then true else has_gesture before e n i)
IsKept before after editor (Perform node id value) = (e n i : ℕ) → has_gesture after e n i ≡ has_gesture before e n i
IsKept before after editor (End node id) = (e n i : ℕ) → has_gesture after e n i ≡ (if same_key editor node id e n i then false else has_gesture before e n i)
IsKept before after editor (Tell node words) = (e n i : ℕ) → has_gesture after e n i ≡ has_gesture before e n i

-- the counts of the editors, and the open gestures, are those of the entries
pub record StandsFor (standing : Standing) : Type 0 where
  pub counts : (editor : ℕ) → editor < 8 → slice_index standing.counts editor ≡ count_of (so_far standing) editor
  pub gestures : (editor node id : ℕ) → begins_of (so_far standing) editor node id ≡ ends_of (so_far standing) editor node id + (if has_gesture standing.open editor node id then 1 else 0)

-- Which frames have a loud key.
use Rattle.std.specs.Prelude.{◌≡◌, ◌≤◌, ◌<◌, ℕ, ℤ, pos, Bool, List, [], ◌∷◌, slice_index_or, if◌then◌else◌}
use Rattle.vh_builtin.specs.Gate.{is_loud}

-- 1 for yes, 0 for no
abbrev pub mark_of : Bool → ℤ
mark_of loud = pos (if loud then 1 else 0)

-- each frame's mark is in its place, from the first of these places up to another
abbrev pub AreMarked : (ℕ → Bool) → ℕ → ℕ → List ℤ → Type 0
AreMarked loud first end marks = (place : ℕ) → first ≤ place → place < end → slice_index_or marks place (pos 0) ≡ mark_of (loud place)

-- which frames of two channels are loud
abbrev pub loud_at : ℕ → List ℤ → List ℤ → ℕ → Bool
loud_at threshold key key_right place = is_loud threshold (slice_index_or key place (pos 0) ∷ slice_index_or key_right place (pos 0) ∷ [])

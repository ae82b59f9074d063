-- What a store of files holds, and what its calls do to it.
use Rattle.std.specs.Prelude.{◌≡◌, ◌≢◌, ℕ, ◌<◌, ◌≤◌, min, Bool, true, false, List, ◌++◌, length, take, drop, Option, Some, None, ◌⊎◌}
use Rattle.std.specs.Ordering.{nat_cmp}
use Rattle.std.specs.Cmp.Lexicographic.{slice_cmp}
use Rattle.std.specs.FinMap.{FinMap, get}

-- the files that a store tells, by name, with their bytes
abbrev pub Held : Type 0
Held = FinMap {K = List ℕ} (slice_cmp nat_cmp) (List ℕ)

-- the bytes of a name, where they are told
abbrev pub told : Held → List ℕ → Option (List ℕ)
told held name = get held name

-- a store that tells every file has none of this name
abbrev pub Lacks : Bool → Held → List ℕ → Type 0
Lacks complete held name = (complete ≡ true) × (told held name ≡ None)

-- the buffer begins with n of the bytes from this place on, at least one where there are any and the
-- buffer has room
pub record ReadsAt (bytes : List ℕ) (at n : ℕ) (buf : List ℕ) : Type 0 where
  pub bytes_are : take n buf ≡ take n (drop at bytes)
  pub within : n ≤ length (drop at bytes)
  pub moves : at < length bytes → 0 < length buf → 0 < n

-- of a name that was created or grew: it has these bytes, or, in a store that isn't complete, is no
-- longer told
abbrev pub HasNow : Bool → Option (List ℕ) → List ℕ → Type 0
HasNow complete now bytes = (now ≡ Some bytes) ⊎ ((complete ≡ false) × (now ≡ None))

-- n of these bytes were taken, at least one where there are any
pub record TakesPart (bytes : List ℕ) (n : ℕ) : Type 0 where
  pub within : n ≤ length bytes
  pub moves : 0 < length bytes → 0 < n

-- every other name has what it had
abbrev pub SameElsewhere : List ℕ → Held → Held → Type 0
SameElsewhere name old new = (other : List ℕ) → other ≢ name → told new other ≡ told old other

-- a name's bytes grew by these; a name that isn't told stays so
abbrev pub Grows : Bool → Option (List ℕ) → Option (List ℕ) → List ℕ → Type 0
Grows complete None after bytes = after ≡ None
Grows complete (Some had) after bytes = HasNow complete after (had ++ bytes)

-- a name's bytes grew by some of these, but not all
abbrev pub GrowsInPart : Bool → Option (List ℕ) → Option (List ℕ) → List ℕ → Type 0
GrowsInPart complete before after bytes = (n : ℕ) × (n < length bytes) × Grows complete before after (take n bytes)

-- what was said grew by these bytes; where it isn't told it stays so
abbrev pub SaysMore : Option (List ℕ) → Option (List ℕ) → List ℕ → Type 0
SaysMore None after bytes = after ≡ None
SaysMore (Some had) after bytes = after ≡ Some (had ++ bytes)

-- what was said grew by some of these bytes, but not all
abbrev pub SaysInPart : Option (List ℕ) → Option (List ℕ) → List ℕ → Type 0
SaysInPart before after bytes = (n : ℕ) × (n < length bytes) × SaysMore before after (take n bytes)

-- the buffer begins with n of the bytes from this place on: as many as it has room for, or all
pub record FillsFrom (bytes : List ℕ) (at n : ℕ) (buf : List ℕ) : Type 0 where
  pub bytes_are : take n buf ≡ take n (drop at bytes)
  pub all : n ≡ min (length buf) (length (drop at bytes))

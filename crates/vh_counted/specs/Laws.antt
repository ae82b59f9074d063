-- Laws of an object's holders: what each step keeps, and what it does to the count.
use Rattle.std.specs.Prelude.{◌≡◌, ℕ, ◌+◌, ◌<◌, ◌≤◌, List, [], ◌∷◌}
use Rattle.std.specs.List.Sorted.{IsPermutation}
use Rattle.vh_counted.specs.declared.numbers.Numbers.{Numbers}
use Rattle.vh_counted.specs.Steps.{at_interface, first_numbers, added, released, split_off, split_part, joined}
use Rattle.vh_counted.specs.Objects.{count, rooms, IsObject, IsWhole}

-- an object begins with one holder, one reference and all room
abbrev pub BeginsWithOne : Type 0
BeginsWithOne = (cap : ℕ) → IsObject cap (first_numbers cap ∷ []) × (count (first_numbers cap ∷ []) ≡ 1)

-- an add by one of the holders keeps the two sums, and the count is one more
abbrev pub AddCounts : Type 0
AddCounts = (cap iface seen : ℕ) (h : Numbers) (others : List Numbers) → iface < 16 → 0 < h.room → IsObject cap (h ∷ others)
    → IsObject cap (added iface seen h ∷ others) × (count (added iface seen h ∷ others) ≡ count (h ∷ others) + 1)

-- a release keeps the two sums, and the count is one less
abbrev pub ReleaseCounts : Type 0
ReleaseCounts = (cap iface seen : ℕ) (h : Numbers) (others : List Numbers) → iface < 16 → 1 ≤ at_interface h iface → IsObject cap (h ∷ others)
    → IsObject cap (released iface seen h ∷ others) × (count (released iface seen h ∷ others) + 1 ≡ count (h ∷ others))

-- a split keeps the two sums and the count
abbrev pub SplitKeeps : Type 0
SplitKeeps = (cap iface n room : ℕ) (h : Numbers) (others : List Numbers) → iface < 16 → n ≤ at_interface h iface → room ≤ h.room → IsObject cap (h ∷ others)
    → IsObject cap (split_off iface n room h ∷ split_part iface n room ∷ others) × (count (split_off iface n room h ∷ split_part iface n room ∷ others) ≡ count (h ∷ others))

-- and so does a join
abbrev pub JoinKeeps : Type 0
JoinKeeps = (cap : ℕ) (h other : Numbers) (others : List Numbers) → IsObject cap (h ∷ other ∷ others)
    → IsObject cap (joined h other ∷ others) × (count (joined h other ∷ others) ≡ count (h ∷ other ∷ others))

-- the order of the holders is of no account
abbrev pub AnyHolderFirst : Type 0
AnyHolderFirst = (cap : ℕ) (holders others : List Numbers) → IsPermutation holders others → IsObject cap holders → IsObject cap others × (count others ≡ count holders)

-- beside a whole holder the others have nothing
abbrev pub WholeHasAll : Type 0
WholeHasAll = (cap : ℕ) (h : Numbers) (others : List Numbers) → IsObject cap (h ∷ others) → IsWhole cap h → (count others ≡ 0) × (rooms others ≡ 0)

-- What the steps do to the numbers of holders.
use Rattle.std.specs.Prelude.{◌≡◌, ℕ, ◌+◌, ◌-◌, ◌≤◌, false, ◌||◌, ◌==◌, List, [], ◌∷◌, length, sum, replicate, slice_index, slice_set}
use Rattle.vh_counted.specs.declared.numbers.Numbers.{Numbers}

-- the references that a holder has, and those at one interface
abbrev pub total : Numbers → ℕ
total n = sum n.references

abbrev pub at_interface : Numbers → ℕ → ℕ
at_interface n iface = slice_index n.references iface

-- a holder of an object of so many interfaces has no reference beyond them
pub record IsWithinInterfaces (interfaces : ℕ) (n : Numbers) : Type 0 where
  pub beyond : (iface : ℕ) → interfaces ≤ iface → at_interface n iface ≡ 0

-- two lists of references, position by position
abbrev pub both : List ℕ → List ℕ → List ℕ
both [] ys = []
both (x ∷ xs) [] = x ∷ xs
both (x ∷ xs) (y ∷ ys) = (x + y) ∷ both xs ys

-- the holder that an object begins with
abbrev pub first_numbers : ℕ → Numbers
first_numbers room = record { references = 1 ∷ replicate 15 0; room = room; adds = 0; releases = 0; seen = 0; ender = false }

-- an add at an interface, after which the count is `seen`
abbrev pub added : ℕ → ℕ → Numbers → Numbers
added iface seen n = record n { references = slice_set n.references iface (at_interface n iface + 1); room = n.room - 1; adds = n.adds + 1; seen = seen }

-- a release; the one after which the count is 0 ends the object
abbrev pub released : ℕ → ℕ → Numbers → Numbers
released iface seen n = record n { references = slice_set n.references iface (at_interface n iface - 1); releases = n.releases + 1; seen = seen; ender = n.ender || (seen == 0) }

-- a split moves so many references, and room, to a new holder
abbrev pub split_off : ℕ → ℕ → ℕ → Numbers → Numbers
split_off iface k room n = record n { references = slice_set n.references iface (at_interface n iface - k); room = n.room - room }

abbrev pub split_part : ℕ → ℕ → ℕ → Numbers
split_part iface k room = record { references = slice_set (replicate 16 0) iface k; room = room; adds = 0; releases = 0; seen = 0; ender = false }

-- a join moves all that another holder has and did; what this one saw last stays
abbrev pub joined : Numbers → Numbers → Numbers
joined n other = record n { references = both n.references other.references; room = n.room + other.room; adds = n.adds + other.adds; releases = n.releases + other.releases; ender = n.ender || other.ender }

-- numbers that a holder may have: there are at most 65,535 adds, and one reference more
pub record IsWithin (n : Numbers) : Type 0 where
  pub positions : length n.references ≡ 16
  pub references : total n ≤ 65536
  pub adds : n.room + n.adds ≤ 65535
  pub releases : n.releases ≤ 65536

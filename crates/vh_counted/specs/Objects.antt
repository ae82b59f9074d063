-- An object as the list of its holders.
use Rattle.std.specs.Prelude.{◌≡◌, ℕ, ◌+◌, ◌≤◌, List, [], ◌∷◌, ◌++◌, length, All}
use Rattle.std.specs.List.{sum_by}
use Rattle.vh_counted.specs.declared.numbers.Numbers.{Numbers}
use Rattle.vh_counted.specs.Steps.{total}

-- what an object may be: it has 1 to 16 interfaces, and at most 65,535 adds
pub record HasObject (interfaces cap : ℕ) : Type 0 where
  pub some : 1 ≤ interfaces
  pub most : interfaces ≤ 16
  pub adds : cap ≤ 65535

-- the count of an object: all references of its holders
abbrev pub count : List Numbers → ℕ
count holders = sum_by total holders

abbrev pub rooms : List Numbers → ℕ
rooms holders = sum_by (λ h. h.room) holders

abbrev pub adds : List Numbers → ℕ
adds holders = sum_by (λ h. h.adds) holders

abbrev pub releases : List Numbers → ℕ
releases holders = sum_by (λ h. h.releases) holders

-- these are all holders of an object: rooms and adds together are its cap, and the references are one and
-- all adds, less all releases
pub record IsObject (cap : ℕ) (holders : List Numbers) : Type 0 where
  pub room : rooms holders + adds holders ≡ cap
  pub references : count holders + releases holders ≡ 1 + adds holders
  pub positions : All (λ h. length h.references ≡ 16) holders

-- a holder that is all there is of its object
abbrev pub IsWhole : ℕ → Numbers → Type 0
IsWhole cap h = IsObject cap (h ∷ [])

-- these are some of an object's holders
abbrev pub AreSome : ℕ → List Numbers → Type 0
AreSome cap holders = (others : List Numbers) × IsObject cap (holders ++ others)

-- a count that a holder may find: its own references are in it, its room is beside it, and for a whole holder
-- it is these
pub record CountsFor (cap : ℕ) (h : Numbers) (n : ℕ) : Type 0 where
  pub own : total h ≤ n
  pub most : n + h.room ≤ 1 + cap
  pub whole : IsWhole cap h → n ≡ total h

-- with whatever others these are all holders of an object, those are too
abbrev pub Keeps : ℕ → List Numbers → List Numbers → Type 0
Keeps cap old new = (others : List Numbers) → IsObject cap (old ++ others) → IsObject cap (new ++ others)

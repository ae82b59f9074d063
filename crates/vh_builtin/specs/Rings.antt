-- The numbers that a delay keeps, in a ring of 4,096 places.
use Rattle.std.specs.Prelude.{◌≡◌, ℕ, zero, suc, ◌+◌, ◌-◌, ◌%◌, ◌<◌, List, [], ◌∷◌, slice_index_or, ℤ, pos}
use Rattle.vh_builtin.specs.Delay.{kept_of, delayed_of, ago}

-- the values of a function from 0 on
unfoldable pub listed : (ℕ → ℤ) → ℕ → List ℤ
listed f zero = []
listed f (suc n) = f 0 ∷ listed (λ i. f (suc i)) n

-- the number of so many places before the next one to be written, the newest being 0
abbrev pub before : List ℤ → ℕ → ℕ → ℤ
before ring at i = slice_index_or ring ((at + 4095 - i) % 4096) (pos 0)

-- a channel's numbers, the newest first
unfoldable pub history : List ℤ → ℕ → List ℤ
history ring at = listed (before ring at) 4095

-- a channel's numbers after so many samples
abbrev pub kept_after : ℕ → ℕ → List ℤ → List ℤ → ℕ → List ℤ
kept_after time feedback us samples zero = us
kept_after time feedback us samples (suc k) = kept_of time feedback (kept_after time feedback us samples k) (slice_index_or samples k (pos 0))

-- so many samples of a channel were run: the numbers that it kept, and what it gave out
pub record IsEcho (time mix feedback : ℕ) (us main : List ℤ) (size : ℕ) (kept out : List ℤ) : Type 0 where
  pub kept_are : kept ≡ kept_after time feedback us main size
  pub given : (place : ℕ) → place < size
      → slice_index_or out place (pos 0) ≡ delayed_of mix (slice_index_or main place (pos 0)) (ago time (kept_after time feedback us main place) (slice_index_or main place (pos 0)))

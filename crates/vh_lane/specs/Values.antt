-- The value of a lane at a sample.
use Rattle.std.specs.Prelude.{ℕ, ◌+◌, ◌-◌, ◌*◌, ◌/◌, ◌^◌, ◌<◌, ◌≤◌, nat_lt, List, [], ◌∷◌, length, slice_index_or, if◌then◌else◌}
use Rattle.vh_num.specs.Values.{quant_of}

-- breakpoints (sample, value), 1 to 4096: the samples rise, and no value is above 1.0
pub record AreBreaks (breaks : List (ℕ × ℕ)) : Type 0 where
  pub some : 1 ≤ length breaks
  pub most : length breaks ≤ 4096
  pub rise : (i j : ℕ) (d : ℕ × ℕ) → i < j → j < length breaks → (slice_index_or breaks i d).0 < (slice_index_or breaks j d).0
  pub within : (i : ℕ) (d : ℕ × ℕ) → i < length breaks → (slice_index_or breaks i d).1 ≤ 2 ^ 24

-- the breakpoints up to sample s are this many
pub record ArePassed (breaks : List (ℕ × ℕ)) (passed s : ℕ) : Type 0 where
  pub most : passed ≤ length breaks
  pub before : (i : ℕ) (d : ℕ × ℕ) → i < passed → (slice_index_or breaks i d).0 ≤ s
  pub after : (i : ℕ) (d : ℕ × ℕ) → passed ≤ i → i < length breaks → s < (slice_index_or breaks i d).0

-- the same for the sample before s, where there is one, or for s
pub record AreReached (breaks : List (ℕ × ℕ)) (passed s : ℕ) : Type 0 where
  pub most : passed ≤ length breaks
  pub before : (i : ℕ) (d : ℕ × ℕ) → i < passed → (slice_index_or breaks i d).0 ≤ s
  pub after : (i : ℕ) (d : ℕ × ℕ) → passed ≤ i → i < length breaks → s ≤ (slice_index_or breaks i d).0

-- the straight line from (p, a) to (q, b) at s, rounded down: a + floor((b - a) * (s - p) / (q - p))
abbrev pub on_line : ℕ × ℕ → ℕ × ℕ → ℕ → ℕ
on_line from to s = (from.1 * (to.0 - s) + to.1 * (s - from.0)) / (to.0 - from.0)

-- the first value up to the first breakpoint, the last from the last on, and straight lines between
abbrev pub line_at : List (ℕ × ℕ) → ℕ → ℕ
line_at [] s = 0
line_at (last ∷ []) s = last.1
line_at (from ∷ to ∷ more) s =
    if nat_lt s from.0 then from.1
    else if nat_lt s to.0 then on_line from to s
    else line_at (to ∷ more) s

-- rounded down to a multiple of 2^grain
abbrev pub grained : ℕ → ℕ → ℕ
grained grain v = v / 2 ^ grain * 2 ^ grain

-- then quantised
abbrev pub lane_at : ℕ → ℕ → List (ℕ × ℕ) → ℕ → ℕ
lane_at steps grain breaks s = quant_of (grained grain (line_at breaks s)) steps

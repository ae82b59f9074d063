-- Laws of lanes.
use Rattle.std.specs.Prelude.{◌≡◌, ◌≢◌, ◌≤◌, ◌<◌, ℕ, ◌+◌, ◌-◌, ◌*◌, ◌^◌, List, ◌++◌, length, map, slice_index_or, ℤ, pos, ◌+ℤ◌, ◌-ℤ◌, ◌*ℤ◌}
use Rattle.vh_num.specs.Values.{quant_of}
use Rattle.vh_num.specs.Samples.{floor_div}
use Rattle.vh_points.specs.Values.{value_at, value_behind}
use Rattle.vh_lane.specs.Values.{AreBreaks, line_at, lane_at}
use Rattle.vh_lane.specs.Changes.{before, changes_of}

-- points that stand so many samples later
abbrev pub later_by : ℕ → List (ℕ × ℕ) → List (ℕ × ℕ)
later_by offset points = map (λ point. (offset + point.0, point.1)) points

-- the points of a range that is cut in two are those of the first part, and those of the second at its place
abbrev pub CutInTwo : Type 0
CutInTwo = (value : ℕ → ℕ) (from last m n : ℕ)
    → changes_of value from last (m + n) ≡ changes_of value from last m ++ later_by m (changes_of value (from + m) (before value from last m) n)

-- the points of n samples, over the value before them: at each offset they give the value there, and behind
-- them the one of the last offset stays; there is at most one for each sample, and each is a change
pub record AreMeant (value : ℕ → ℕ) (from last n : ℕ) (points : List (ℕ × ℕ)) : Type 0 where
  pub at : (offset : ℕ) → offset < n → value_at last points offset ≡ value (from + offset)
  pub after : (offset : ℕ) → n ≤ offset → value_at last points offset ≡ before value from last n
  pub behind : value_behind last points ≡ before value from last n
  pub few : length points ≤ n
  pub changes : (j : ℕ) (d : ℕ × ℕ) → j < length points → ((slice_index_or points j d).0 < n) × (value (from + (slice_index_or points j d).0) ≢ before value from last (slice_index_or points j d).0)

abbrev pub PointsMeanValues : Type 0
PointsMeanValues = (value : ℕ → ℕ) (from last n : ℕ) → AreMeant value from last n (changes_of value from last n)

-- a lane's value is a multiple of its grain, quantised; quantised again it stays
abbrev pub IsGrained : Type 0
IsGrained = (steps grain : ℕ) (breaks : List (ℕ × ℕ)) (s : ℕ) → steps ≤ 4095
    → ((k : ℕ) × (lane_at steps grain breaks s ≡ quant_of (k * 2 ^ grain) steps)) × (quant_of (lane_at steps grain breaks s) steps ≡ lane_at steps grain breaks s)

-- a + floor((b - a) * (s - p) / (q - p)), from (p, a) to (q, b) at s, in whole numbers with sign
abbrev pub slope : ℕ × ℕ → ℕ × ℕ → ℕ → ℤ
slope from to s = pos from.1 +ℤ floor_div ((pos to.1 -ℤ pos from.1) *ℤ (pos s -ℤ pos from.0)) (to.0 - from.0)

abbrev pub break_at : List (ℕ × ℕ) → ℕ → ℕ × ℕ
break_at breaks i = slice_index_or breaks i (0, 0)

-- at a sample: before the first breakpoint its value, from the last one on that one's, and the slope between two
pub record IsFollowed (breaks : List (ℕ × ℕ)) (s : ℕ) : Type 0 where
  pub first : s < (break_at breaks 0).0 → line_at breaks s ≡ (break_at breaks 0).1
  pub last : (i : ℕ) → i + 1 ≡ length breaks → (break_at breaks i).0 ≤ s → line_at breaks s ≡ (break_at breaks i).1
  pub between : (i : ℕ) → i + 1 < length breaks → (break_at breaks i).0 ≤ s → s < (break_at breaks (i + 1)).0 → pos (line_at breaks s) ≡ slope (break_at breaks i) (break_at breaks (i + 1)) s

abbrev pub FollowsLines : Type 0
FollowsLines = (breaks : List (ℕ × ℕ)) (s : ℕ) → AreBreaks breaks → IsFollowed breaks s

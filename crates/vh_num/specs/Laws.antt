-- Laws of the definitions.
use Rattle.std.specs.Prelude.{◌≡◌, ℕ, ◌+◌, ◌*◌, ◌≤◌, ◌<◌, ◌^◌, List, [], ◌∷◌, length, replicate, map, slice_index_or, All, ℤ, pos, neg_ℤ, ◌+ℤ◌, ◌*ℤ◌, ◌≤ℤ◌, ◌<ℤ◌, ◌-◌, ◌⊎◌}
use Rattle.std.specs.List.Sorted.{IsPermutation}
use Rattle.vh_num.specs.Values.{index_of, norm_of, quant_of}
use Rattle.vh_num.specs.Samples.{IsWithin, clamp_of, added, floor_div}
use Rattle.vh_num.specs.Frames.{frame_at, frames_of}

-- the step of a step's value is that step
abbrev pub IndexOfNorm : Type 0
IndexOfNorm = (i n : ℕ) → 1 ≤ n → n ≤ 4095 → i ≤ n → index_of (norm_of i n) n ≡ i

-- to quantise twice is to quantise once
abbrev pub QuantTwice : Type 0
QuantTwice = (v n : ℕ) → n ≤ 4095 → quant_of (quant_of v n) n ≡ quant_of v n

-- a quantised value is no more than 1.0
abbrev pub QuantWithin : Type 0
QuantWithin = (v n : ℕ) → v ≤ 2 ^ 24 → quant_of v n ≤ 2 ^ 24

-- a number of 32 bits with sign
pub record IsSample (x : ℤ) : Type 0 where
  pub low : neg_ℤ (pos (2 ^ 31)) ≤ℤ x
  pub high : x ≤ℤ pos (2 ^ 31 - 1)

-- y lies between x and z
abbrev pub IsBetween : ℤ → ℤ → ℤ → Type 0
IsBetween x y z = ((x ≤ℤ y) × (y ≤ℤ z)) ⊎ ((z ≤ℤ y) × (y ≤ℤ x))

-- the clamp of a number is a sample, and lies between the number and each sample: none is nearer
abbrev pub ClampIsNearest : Type 0
ClampIsNearest = (x : ℤ) → IsSample (clamp_of x) × ((y : ℤ) → IsSample y → IsBetween x (clamp_of x) y)

-- the sum of these sources, one after the other
abbrev pub summed : List ℤ → List (List ℤ) → List ℤ
summed acc [] = acc
summed acc (source ∷ sources) = summed (added acc source) sources

-- each source has so many lanes
abbrev pub HasLanes : ℕ → List (List ℤ) → Type 0
HasLanes n sources = All (λ source. length source ≡ n) sources

-- the exact sum of numbers
abbrev pub sum_of : List ℤ → ℤ
sum_of [] = pos 0
sum_of (x ∷ xs) = x +ℤ sum_of xs

-- what each source has in this lane
abbrev pub in_lane : ℕ → List (List ℤ) → List ℤ
in_lane lane sources = map (λ source. slice_index_or source lane (pos 0)) sources

-- sources that are added to silence one after the other, and then settled
abbrev pub mixed : ℕ → List (List ℤ) → List ℤ
mixed n sources = map clamp_of (summed (replicate n (pos 0)) sources)

-- each lane of a mix is the clamp of the exact sum of what the sources have in it
abbrev pub MixIsClampedSum : Type 0
MixIsClampedSum = (n lane : ℕ) (sources : List (List ℤ)) → HasLanes n sources → lane < n
    → slice_index_or (mixed n sources) lane (pos 0) ≡ clamp_of (sum_of (in_lane lane sources))

-- sources in another order make the same mix
abbrev pub AnyOrder : Type 0
AnyOrder = (n : ℕ) (sources others : List (List ℤ)) → HasLanes n sources → IsPermutation sources others → mixed n others ≡ mixed n sources

-- a sum of 255 sources has room for one more
abbrev pub HasRoom : Type 0
HasRoom = (n : ℕ) (sources : List (List ℤ)) → All (All (IsWithin (2 ^ 31))) sources → length sources ≤ 255 → All (IsWithin (255 * 2 ^ 31)) (summed (replicate n (pos 0)) sources)

-- the quotient rounded down is the whole number q of q d ≤ x < (q + 1) d, also below zero
abbrev pub FloorDivRoundsDown : Type 0
FloorDivRoundsDown = (x : ℤ) (d : ℕ) → 1 ≤ d → ((floor_div x d *ℤ pos d) ≤ℤ x) × (x <ℤ ((floor_div x d +ℤ pos 1) *ℤ pos d))

-- a frame has one sample of each channel: that of its place among the n samples of the channel
abbrev pub FrameHasSamples : Type 0
FrameHasSamples = (channels n place : ℕ) (samples : List ℤ)
    → (length (frame_at channels n samples place) ≡ channels)
    × ((channel : ℕ) → channel < channels → slice_index_or (frame_at channels n samples place) channel (pos 0) ≡ slice_index_or samples (channel * n + place) (pos 0))

-- samples that stand channel after channel, n of each, have n frames, and each frame is that of its place
abbrev pub FramesAreInPlace : Type 0
FramesAreInPlace = (channels n : ℕ) (samples : List ℤ) → (channels ≡ 1) ⊎ (channels ≡ 2) → length samples ≡ channels * n
    → (length (frames_of channels samples) ≡ n)
    × ((place : ℕ) → place < n → slice_index_or (frames_of channels samples) place [] ≡ frame_at channels n samples place)

-- Frames: one sample of each channel, at one moment.
use Rattle.std.specs.Prelude.{ℕ, zero, suc, ◌/◌, List, [], ◌∷◌, length, map, take, drop, slice_index_or, ℤ, pos}
use Rattle.std.specs.List.{zip}

-- one sample of each channel
abbrev pub Frame : Type 0
Frame = List ℤ

-- the frame of a place, in samples that stand channel after channel, n of each
abbrev pub frame_at : ℕ → ℕ → List ℤ → ℕ → Frame
frame_at zero n samples place = []
frame_at (suc channels) n samples place = slice_index_or samples place (pos 0) ∷ frame_at channels n (drop n samples) place

-- the frames of a list that has the samples channel after channel, of one channel or two
abbrev pub frames_of : ℕ → List ℤ → List Frame
frames_of zero xs = []
frames_of (suc zero) xs = map (λ x. x ∷ []) xs
frames_of (suc (suc _)) xs = map (λ p. p.0 ∷ p.1 ∷ []) (zip (take (length xs / 2) xs) (drop (length xs / 2) xs))

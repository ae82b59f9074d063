-- Frames in memory: interleaved, the samples of a frame one after another.
use Rattle.std.specs.Prelude.{◌≡◌, ◌≤◌, ℕ, zero, suc, ◌*◌, ◌⊎◌, List, [], ◌∷◌, length, map, drop, ℤ, vec_capacity}
use Rattle.vh_num.specs.Frames.{Frame}
use Rattle.vh_wav.specs.declared.list_frames.ListFrames.TheInside.{Inside}

-- the frames of interleaved samples, of one channel or two
abbrev pub pairs : List ℤ → List Frame
pairs [] = []
pairs (left ∷ []) = []
pairs (left ∷ right ∷ samples) = (left ∷ right ∷ []) ∷ pairs samples

abbrev pub interleaved : ℕ → List ℤ → List Frame
interleaved zero samples = []
interleaved (suc zero) samples = map (λ sample. sample ∷ []) samples
interleaved (suc (suc _)) samples = pairs samples

-- what is seen of frames in memory: the channels, how many frames may be added, the frames that are left to read, and
-- those that were added
pub record AtListFrames : Type 0 where
  pub channels : ℕ
  pub room : ℕ
  pub left : List Frame
  pub added : List Frame

abbrev pub at_list_frames : Inside → AtListFrames
at_list_frames frames = record {
  channels = frames.channels;
  room = frames.room;
  left = drop frames.at (interleaved frames.channels frames.ins.items);
  added = interleaved frames.channels frames.outs.items;
}

-- whole frames were handed in and were added, and there is memory for so many
pub record AreWhole (frames : Inside) : Type 0 where
  pub channels : (frames.channels ≡ 1) ⊎ (frames.channels ≡ 2)
  pub total : length frames.ins.items ≡ frames.channels * frames.total
  pub at : frames.at ≤ frames.total
  pub added : length frames.outs.items ≡ frames.channels * frames.count
  pub few : frames.count ≤ frames.room
  pub space : frames.channels * frames.room ≤ vec_capacity frames.outs

-- the samples of two channels, in turn
abbrev pub woven : List ℤ → List ℤ → List ℤ
woven [] right = []
woven (l ∷ left) [] = []
woven (l ∷ left) (r ∷ right) = l ∷ r ∷ woven left right

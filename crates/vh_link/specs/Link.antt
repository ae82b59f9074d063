-- What is seen of a link.
use Rattle.std.specs.Prelude.{◌≡◌, ◌≢◌, ◌≤◌, ◌*◌, ◌^◌, ◌<◌, ◌⊎◌, ℕ, Bool, true, false, List, [], ◌++◌, length, drop, Some, ℤ}
use Rattle.std.specs.FinMap.{remove}
use base.Fml.{GName}
use Rattle.vh_files.specs.Store.{Held, told, Lacks}
use Rattle.vh_num.specs.Frames.{Frame}
use Rattle.vh_wav.specs.declared.head.Head.{Head}
use Rattle.vh_wav.specs.Frames.{frames_in}
use Rattle.vh_wav.specs.Heads.{IsHead, frames_end}
use Rattle.vh_wav.specs.Laws.{HasChannels}
use Rattle.vh_wav.specs.Text.{head_text, frames_text}
use Rattle.vh_link.specs.Outputs.{HasCut}

pub record Link (F : Type 0) : Type 0 where
  -- the store, and the loan of it
  pub store : F
  pub loan : GName
  pub input : List ℕ
  pub head : Head
  pub output : List ℕ
  pub bits : ℕ
  pub max : ℕ
  -- how many of the input's frames were taken
  pub at : ℕ
  pub started : Bool
  pub room : ℕ
  pub pushed : ℕ
  pub cut : List Frame

-- the input is told, is another file than the output, and has these frames left
pub record HasLeft (held : Held) (input output : List ℕ) (head : Head) (at : ℕ) (frames : List Frame) : Type 0 where
  pub apart : input ≢ output
  pub bytes : List ℕ
  pub has : told held input ≡ Some bytes
  pub left : drop at (frames_in bytes head) ≡ frames

abbrev pub Reads : {F : Type 0} → (F → Held) → Link F → List Frame → Type 0
Reads held link frames = HasLeft (held link.store) link.input link.output link.head link.at frames

-- so many frames, whose bytes stand in the output behind its head, and behind them some of the bytes of those that
-- were cut, but not all
pub record AreIn (complete : Bool) (held : Held) (output : List ℕ) (head : Head) (bits room pushed : ℕ) (cut frames : List Frame) : Type 0 where
  pub count : length frames ≡ pushed
  pub wide : HasChannels head.channels frames
  pub text : HasCut complete (told held output) bits (head_text head.channels head.rate bits room ++ frames_text bits frames) cut

-- before a start none are written
abbrev pub AreWritten : Bool → Type 0 → List Frame → Type 0
AreWritten false inside frames = frames ≡ []
AreWritten true inside frames = inside

abbrev pub Wrote : {F : Type 0} → (F → Bool) → (F → Held) → Link F → List Frame → Type 0
Wrote complete held link frames = AreWritten link.started (AreIn (complete link.store) (held link.store) link.output link.head link.bits link.room link.pushed link.cut frames) frames

-- what neither reading nor writing frames changes; `others` are the files but the output
pub record Fixed : Type 0 where
  pub head : Head
  pub bits : ℕ
  pub input : List ℕ
  pub output : List ℕ
  pub loan : GName
  pub started : Bool
  pub complete : Bool
  pub others : Held

abbrev pub fixed_of : {F : Type 0} → (F → Bool) → (F → Held) → Link F → Fixed
fixed_of complete held link = record {
  head = link.head;
  bits = link.bits;
  input = link.input;
  output = link.output;
  loan = link.loan;
  started = link.started;
  complete = complete link.store;
  others = remove (held link.store) link.output;
}

-- what a link keeps to
pub record IsLink (complete : Bool) (held : Held) (input output : List ℕ) (head : Head) (bits max at : ℕ) (started : Bool) (room pushed : ℕ) : Type 0 where
  pub lawful : IsHead head
  pub fits : frames_end head < 2 ^ 64
  pub width : (bits ≡ 16) ⊎ (bits ≡ 24)
  pub most : max ≤ 8192
  pub within : at ≤ head.frames
  pub few : room ≤ 2 ^ 24
  pub pushed_most : pushed ≤ room
  pub input_there : ¬ Lacks complete held input
  pub output_there : started ≡ true → ¬ Lacks complete held output
  pub none_before : started ≡ false → room ≡ 0

-- its memory: bytes for so many frames, and room for those that are cut
pub record HasSpace (channels max kept : ℕ) (bytes : List ℕ) (samples : List ℤ) : Type 0 where
  pub bytes_room : 6 * max ≤ length bytes
  pub cut_room : channels * max ≤ length samples
  pub kept_most : kept ≤ length samples

-- A file that is written front to back.
use Rattle.std.specs.Prelude.{◌≡◌, ◌≤◌, ◌<◌, ◌-◌, ℕ, Bool, List, ◌++◌, length, take, replicate, ◌%◌, Option}
use Rattle.vh_files.specs.Store.{Held, HasNow, Lacks}
use Rattle.vh_num.specs.Frames.{Frame}
use Rattle.vh_wav.specs.Text.{frames_text, data_size}

-- a file has a front part of this text, and not all of it
abbrev pub HasPart : Bool → Option (List ℕ) → List ℕ → Type 0
HasPart complete now text = (n : ℕ) × (n < length text) × HasNow complete now (take n text)

-- a file has these bytes, and behind them some of the bytes of the frames that were cut, but not all
abbrev pub HasCut : Bool → Option (List ℕ) → ℕ → List ℕ → List Frame → Type 0
HasCut complete now bits text cut = (n : ℕ) × (n ≤ length (frames_text bits cut) - 1) × HasNow complete now (text ++ take n (frames_text bits cut))

-- no name went missing in a complete store
abbrev pub NoneLost : Bool → Held → Bool → Held → Type 0
NoneLost complete old still new = (other : List ℕ) → ¬ Lacks complete old other → ¬ Lacks still new other

-- the byte that makes the bytes of so many frames even, where they are odd
abbrev pub pad_text : ℕ → ℕ → ℕ → List ℕ
pad_text channels bits count = replicate (data_size channels bits count % 2) 0

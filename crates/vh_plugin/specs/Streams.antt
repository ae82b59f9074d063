-- A class over a stream of samples, however it is cut into blocks.
use Rattle.std.specs.Prelude.{◌≡◌, ℕ, zero, suc, ◌+◌, ◌<◌, List, Option}
use Rattle.vh_num.specs.Frames.{Frame}
use Rattle.vh_plugin.specs.Class.{Param, Class, State}
use Rattle.vh_plugin.specs.Blocks.{Block, values_at, main_at, aux_at}

-- what a class is given, sample by sample: each parameter's value, the main frame, and the aux frame where there is one
pub record Stream : Type 0 where
  pub channels : ℕ
  pub values : ℕ → List ℕ
  pub main : ℕ → Frame
  pub aux : ℕ → Option Frame

-- the state after so many samples
abbrev pub state_over : Class → State → Stream → ℕ → State
state_over class start stream zero = start
state_over class start stream (suc n) = class.next stream.channels (state_over class start stream n) (stream.values n) (stream.main n) (stream.aux n)

-- the output frame at a sample
abbrev pub output_over : Class → State → Stream → ℕ → Frame
output_over class start stream n = class.output stream.channels (state_over class start stream n) (stream.values n) (stream.main n) (stream.aux n)

-- a block has the samples of a stream from this one on
pub record IsBlockOf (params : List Param) (stream : Stream) (from : ℕ) (block : Block) : Type 0 where
  pub channels : block.channels ≡ stream.channels
  pub values : (place : ℕ) → place < block.size → values_at params block.queues block.values place ≡ stream.values (from + place)
  pub main : (place : ℕ) → place < block.size → main_at block place ≡ stream.main (from + place)
  pub aux : (place : ℕ) → place < block.size → aux_at block place ≡ stream.aux (from + place)

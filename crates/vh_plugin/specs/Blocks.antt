-- What a block comes to: the fold of a class's step over its samples.
use Rattle.std.specs.Prelude.{◌≡◌, ℕ, zero, suc, ◌*◌, ◌<◌, true, List, [], ◌∷◌, length, Option, Some, None, All, ◌⊎◌, ℤ, if◌then◌else◌, ◌==◌}
use Rattle.vh_num.specs.Frames.{Frame, frame_at}
use Rattle.vh_points.specs.Queues.{Queue}
use Rattle.vh_points.specs.Values.{value_at, value_behind, points_of}
use Rattle.vh_plugin.specs.Class.{Param, Class, State, has_writable}

-- what a processor is handed: samples channel after channel, no aux samples where there is no aux frame
pub record Block : Type 0 where
  pub channels : ℕ
  pub size : ℕ
  pub queues : List Queue
  pub values : List ℕ
  pub main : List ℤ
  pub aux : List ℤ

abbrev pub block_of : ℕ → ℕ → List Queue → List ℕ → List ℤ → List ℤ → Block
block_of channels size queues values main aux = record { channels = channels; size = size; queues = queues; values = values; main = main; aux = aux }

-- each parameter's value at an offset: its points of offset at most it are applied
abbrev pub values_at : List Param → List Queue → List ℕ → ℕ → List ℕ
values_at [] queues values offset = []
values_at (param ∷ params) queues [] offset = []
values_at (param ∷ params) queues (value ∷ values) offset = value_at value (points_of queues param.id) offset ∷ values_at params queues values offset

-- and behind the block, where all are
abbrev pub values_behind : List Param → List Queue → List ℕ → List ℕ
values_behind [] queues values = []
values_behind (param ∷ params) queues [] = []
values_behind (param ∷ params) queues (value ∷ values) = value_behind value (points_of queues param.id) ∷ values_behind params queues values

abbrev pub main_at : Block → ℕ → Frame
main_at block place = frame_at block.channels block.size block.main place

abbrev pub aux_at : Block → ℕ → Option Frame
aux_at block place = if length block.aux == 0 then None else Some (frame_at block.channels block.size block.aux place)

-- the state after so many samples of a block
abbrev pub state_in : Class → State → Block → ℕ → State
state_in class state block zero = state
state_in class state block (suc place) =
    class.next block.channels (state_in class state block place) (values_at class.params block.queues block.values place) (main_at block place) (aux_at block place)

-- the output frame at a place of a block
abbrev pub output_in : Class → State → Block → ℕ → Frame
output_in class state block place =
    class.output block.channels (state_in class state block place) (values_at class.params block.queues block.values place) (main_at block place) (aux_at block place)

-- the output holds these frames
abbrev pub IsOutput : Class → State → Block → List ℤ → Type 0
IsOutput class state block samples =
    (length samples ≡ block.channels * block.size)
    × ((place : ℕ) → place < block.size → frame_at block.channels block.size samples place ≡ output_in class state block place)

-- the samples of a main or an aux frame of this block, and of an aux frame or of none
abbrev pub AreAux : Class → ℕ → ℕ → List ℤ → Type 0
AreAux class channels size samples = (length samples ≡ 0) ⊎ ((length samples ≡ channels * size) × (class.aux ≡ true))

-- queues of writable parameters, whose offsets fall into the block; where it has no samples any offset may stand
pub record AreFor (class : Class) (size : ℕ) (queues : List Queue) : Type 0 where
  pub writable : All (λ queue. has_writable class.params queue.id ≡ true) queues
  pub offsets : All (λ queue. All (λ point. (point.0 < size) ⊎ (size ≡ 0)) queue.points) queues

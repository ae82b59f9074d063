-- A stretch of a block, which a kernel ran.
use Rattle.std.specs.Prelude.{◌≡◌, ℕ, ◌+◌, ◌-◌, ◌<◌, ◌≤◌, ◌⊎◌, List, length, take, drop, ℤ}
use Rattle.vh_num.specs.Frames.{frame_at}
use Rattle.vh_plugin.specs.Class.{Class, State}
use Rattle.vh_plugin.specs.Blocks.{Block, main_at, aux_at}
use Rattle.vh_plugin.specs.Runs.{run_state, run_output}

-- the aux samples of a stretch, none where there are none
abbrev pub IsPart : ℕ → ℕ → List ℤ → List ℤ → Type 0
IsPart from to aux part = ((length aux ≡ 0) × (length part ≡ 0)) ⊎ ((to ≤ length aux) × (part ≡ take (to - from) (drop from aux)))

-- the state after so many samples of a block from `from` on, with these values
abbrev pub stretch_state : Class → State → List ℕ → Block → ℕ → ℕ → State
stretch_state class state values block from place = run_state class block.channels state values (λ i. main_at block (from + i)) (λ i. aux_at block (from + i)) place

-- the output frames of the stretch, and all others as they were
pub record IsStretch (class : Class) (state : State) (values : List ℕ) (block : Block) (from to : ℕ) (old new : List ℤ) : Type 0 where
  pub long : length new ≡ length old
  pub frames : (place : ℕ) → from + place < to
      → frame_at block.channels block.size new (from + place) ≡ run_output class block.channels state values (λ i. main_at block (from + i)) (λ i. aux_at block (from + i)) place
  pub others : (place : ℕ) → place < block.size → (place < from) ⊎ (to ≤ place) → frame_at block.channels block.size new place ≡ frame_at block.channels block.size old place

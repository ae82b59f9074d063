-- Two blocks in a row.
use Rattle.std.specs.Prelude.{◌≡◌, ℕ, ◌+◌, ◌<◌, List, [], ℤ}
use Rattle.vh_num.specs.Frames.{frame_at}
use Rattle.vh_points.specs.Queues.{Queue}
use Rattle.vh_plugin.specs.Class.{Class, State}
use Rattle.vh_plugin.specs.Blocks.{block_of, values_behind}
use Rattle.vh_plugin.specs.Streams.{Stream, IsBlockOf, state_over, output_over}

-- in each stream that the first block goes on in, and the second one behind it, the outputs are the stream's frames, and
-- the state is the stream's
abbrev pub AreRow : Class → ℕ → State → List ℕ → ℕ → List Queue → List ℤ → List ℤ → ℕ → List Queue → List ℤ → List ℤ → State → Type 0
AreRow class channels state values n queues main out m later_queues later_main later_out later_state =
    (start : State) (stream : Stream) (from : ℕ) → state ≡ state_over class start stream from
    → IsBlockOf class.params stream from (block_of channels n queues values main [])
    → IsBlockOf class.params stream (from + n) (block_of channels m later_queues (values_behind class.params queues values) later_main [])
    → ((place : ℕ) → place < n → frame_at channels n out place ≡ output_over class start stream (from + place))
    × ((place : ℕ) → place < m → frame_at channels m later_out place ≡ output_over class start stream (from + n + place))
    × (later_state ≡ state_over class start stream (from + n + m))

-- Laws of what classes, blocks and values mean.
use Rattle.std.specs.Prelude.{◌≡◌, ◌≢◌, ℕ, ◌+◌, ◌<◌, ◌≤◌, ◌^◌, Bool, true, List, length, slice_index_or, if◌then◌else◌}
use Rattle.vh_points.specs.Queues.{Queue}
use Rattle.vh_points.specs.Values.{value_at, value_behind, points_of}
use Rattle.vh_params.specs.Flags.{is_writable}
use Rattle.vh_plugin.specs.Class.{Param, Class, State, AreValues, IsLawful, IsSet, writable_of, with_writable}
use Rattle.vh_plugin.specs.Blocks.{Block, values_at, values_behind, state_in, output_in}
use Rattle.vh_plugin.specs.Controls.{has_id, value_in, with_value}
use Rattle.vh_plugin.specs.Streams.{Stream, IsBlockOf, state_over, output_over}

-- a block that begins where the samples before it ended goes on in their stream: its frames are the stream's, and so is
-- the state behind it
abbrev pub BlockGoesOn : Type 0
BlockGoesOn = (class : Class) (start : State) (stream : Stream) (from : ℕ) (block : Block) → IsBlockOf class.params stream from block
    → ((place : ℕ) → place < block.size → output_in class (state_over class start stream from) block place ≡ output_over class start stream (from + place))
    × (state_in class (state_over class start stream from) block block.size ≡ state_over class start stream (from + block.size))

-- what a parameter was set to is what is read of it
abbrev pub SetIsRead : Type 0
SetIsRead = (params : List Param) (values : List ℕ) (id value : ℕ) → length values ≡ length params → has_id params id ≡ true → value_in params (with_value params values id value) id ≡ value

-- and every other parameter keeps its value
abbrev pub OthersStay : Type 0
OthersStay = (params : List Param) (values : List ℕ) (id other value : ℕ) → other ≢ id → value_in params (with_value params values id value) other ≡ value_in params values other

-- values stay one for each parameter and at most 1.0
abbrev pub SetStaysWithin : Type 0
SetStaysWithin = (params : List Param) (values : List ℕ) (id value : ℕ) → AreValues params values → value ≤ 2 ^ 24 → AreValues params (with_value params values id value)

-- in a block each parameter's value is changed by the points of its own queue, and by no others
abbrev pub PointsSetTheirOwn : Type 0
PointsSetTheirOwn = (params : List Param) (queues : List Queue) (values : List ℕ) (offset k : ℕ) (d : Param) → length values ≡ length params → k < length params
    → (slice_index_or (values_at params queues values offset) k 0 ≡ value_at (slice_index_or values k 0) (points_of queues (slice_index_or params k d).id) offset)
    × (slice_index_or (values_behind params queues values) k 0 ≡ value_behind (slice_index_or values k 0) (points_of queues (slice_index_or params k d).id))

-- and there is one for each parameter
abbrev pub ValuesStayEach : Type 0
ValuesStayEach = (params : List Param) (queues : List Queue) (values : List ℕ) (offset : ℕ) → length values ≡ length params
    → (length (values_at params queues values offset) ≡ length params) × (length (values_behind params queues values) ≡ length params)

-- what the writable parameters were given is what they have
abbrev pub GivenIsHad : Type 0
GivenIsHad = (params : List Param) (old others : List ℕ) → length old ≡ length params → length others ≡ length (writable_of params old) → writable_of params (with_writable params old others) ≡ others

-- state bytes that are taken back are never refused: each writable parameter has the value that they were made of, and each
-- other one keeps its own
abbrev pub BytesAreTakenBack : Type 0
BytesAreTakenBack = (class : Class) (old values new : List ℕ) (taken : Bool) → IsLawful class → AreValues class.params old → AreValues class.params values → IsSet class (class.state_text values) old new taken
    → (taken ≡ true) × ((k : ℕ) (d : Param) → k < length class.params → slice_index_or new k 0 ≡ (if is_writable (slice_index_or class.params k d).flags then slice_index_or values k 0 else slice_index_or old k 0))

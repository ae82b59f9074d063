-- What callers see of a lane.
use Rattle.std.specs.Prelude.{ℕ, List}
use Rattle.vh_lane.specs.declared.lane.Lane.{Lane}
use Rattle.vh_lane.specs.Values.{lane_at}

abbrev pub steps_of : Lane → ℕ
steps_of lane = lane.steps

abbrev pub grain_of : Lane → ℕ
grain_of lane = lane.grain

abbrev pub breaks_of : Lane → List (ℕ × ℕ)
breaks_of lane = lane.breaks.items

-- its value at a sample
abbrev pub value_of : Lane → ℕ → ℕ
value_of lane s = lane_at lane.steps lane.grain lane.breaks.items s

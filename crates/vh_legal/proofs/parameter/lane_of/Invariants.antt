use Rattle.std.proofs.Common.{◌≡◌, ℕ, ◌<◌, false, get_or}
use Rattle.vh_lane.specs.declared.lane.Lane.{Lane}
use Rattle.vh_legal.proofs.Found.{is_lane}
use Rattle.vh_legal.proofs.parameter.lane_of.Given as goal

abbrev pub invariant-loop-lane : goal.invariant-loop-lane
invariant-loop-lane l = (k : ℕ) (d : ℕ × ℕ × Lane) → k < l.lane-index → is_lane l.node l.id (get_or l.session.lanes.items k d) ≡ false

use Rattle.std.proofs.Common.{◌≡◌, ◌==◌, ◌&&◌, take, false}
use Rattle.std.specs.List.{list_any}
use Rattle.vh_session.proofs.draft.Draft.has_lane.Given as goal

abbrev pub invariant-loop-lane : goal.invariant-loop-lane
invariant-loop-lane l = list_any (λ lane. (lane.node == l.node) && (lane.id == l.id)) (take l.lane-index l.self.lanes.items) ≡ false

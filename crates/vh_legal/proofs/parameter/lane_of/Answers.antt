use Rattle.std.proofs.Common.{◌≡◌, ◌∙◌, ℕ, ◌<◌, true, List, length, get_or, Some, ap, subst, arith, ◌==◌}
use Rattle.std.proofs.lemmas.Bool.{eq-eqb, and_from}
use Rattle.vh_lane.specs.declared.lane.Lane.{Lane}
use Rattle.vh_legal.specs.Values.{line_in}
use Rattle.vh_legal.proofs.Found.{is_lane, lane_found, lane_nowhere}
use Rattle.vh_legal.proofs.parameter.lane_of.Goals as goal

pub returns-then-lane-id : goal.returns-then-lane-id
returns-then-lane-id c =
    let session = c.args.session.now in
    let node = c.args.node in
    let id = c.args.id in
    let i = c.loop-lane.lane-index in
    let lane = c.lane-item.result in
    let all = c.deref-lane-items.ensures.value in
    let within : i < length session.lanes.items = omega (arith, c.loop-lane-test.true, ap length all) in
    let is : lane ≡ get_or session.lanes.items i lane = c.lane-item.is ∙ ap (λ (ls : List (ℕ × ℕ × Lane)). get_or ls i lane) all in
    let here : is_lane node id lane ≡ true = and_from (lane.0 == node) (lane.1 == id) (eq-eqb lane.0 node c.if-lane-node.true) (eq-eqb lane.1 id c.if-lane-id.true) in
    ap (λ (l : ℕ × ℕ × Lane). line_in (Some l.2)) is
    ∙ lane_found session node id i lane within (λ k lt. c.loop-lane.invariant k lane lt) (subst (λ (l : ℕ × ℕ × Lane). is_lane node id l ≡ true) is here)

pub returns : goal.returns
returns c = lane_nowhere c.args.session.now c.args.node c.args.id (λ k d lt. c.loop-lane.invariant k d (omega (arith, lt, c.loop-lane-test.false, ap length c.deref-lane-items.ensures.value)))

use Rattle.std.proofs.Common.{rules, ◌≡◌, ◌∙◌, ◌<◌, ◌++◌, map, length, get_or, sym, ap, arith}
use Rattle.std.proofs.lemmas.List.{get_or-map, length-map}
use Rattle.vh_params.specs.Nodes.{nodes_of}
use Rattle.vh_session.specs.Parts.{laned}
use Rattle.vh_session.specs.Text.{lane_words, lanes_words}
use Rattle.vh_text.specs.Written.{lines_text}
use Rattle.vh_session.proofs.Written.{next_lane}
use Rattle.vh_session.proofs.print.write_lanes.Goals as goal

pub loop-lane-preserved : goal.loop-lane-preserved
loop-lane-preserved c =
    let nodes = nodes_of c.args.nodes.now in
    let lanes = c.args.lanes.now in
    let i = c.loop-lane.lane-index in
    let d = c.lane-item.result in
    let texts = map laned lanes in
    let long = length-map lanes laned in
    let lt = c.loop-lane-test.true in
    let within : i < length texts = omega (arith, lt, long) in
    let here : get_or texts i (laned d) ≡ laned d = get_or-map laned lanes i d (laned d) lt ∙ ap laned (sym c.lane-item.is) in
    let wrote : c.write_lane.new.text.bytes.items ≡ c.loop-lane.text.bytes.items ++ lines_text (lane_words nodes (laned d)) = search rules in
    next_lane nodes texts i (laned d) c.loop-lane.text.bytes.items c.write_lane.new.text.bytes.items (c.args.text.now.bytes.items ++ lines_text (lanes_words nodes texts)) within c.loop-lane.invariant
    (wrote ∙ ap (λ l. c.loop-lane.text.bytes.items ++ lines_text (lane_words nodes l)) (sym here))

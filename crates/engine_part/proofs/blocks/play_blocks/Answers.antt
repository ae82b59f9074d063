use Rattle.std.proofs.Common.{◌≡◌, ◌≤◌, ◌+◌, ◌-◌, ℕ, length, take, drop, sym, ap, subst, arith}
use Rattle.std.proofs.lemmas.List.{length-take-le, length-drop}
use Rattle.vh_params.specs.Nodes.{nodes_of}
use Rattle.vh_session.specs.Content.{Content}
use Rattle.vh_engine.specs.Kept.{scene_in, MayCarry}
use Rattle.engine_part.proofs.Carrying.{may_carry}
use Rattle.engine_part.proofs.Parted.{same_classes}
use Rattle.engine_part.proofs.blocks.play_blocks.Goals as goal

pub flush-requires-clause-entries : goal.flush-requires-clause-entries
flush-requires-clause-entries g c =
    let kept = c.loop-at.engine in
    let class_of = g.P.Processor.class_of in
    let all = c.args.score.now.entries.now in
    let is = c.loop-at.invariant in
    let last = take (length all - c.loop-at.taken) (drop c.loop-at.taken all) in
    let dropped = length-drop c.loop-at.taken all in
    let long : length last ≡ length all - c.loop-at.taken = length-take-le (length all - c.loop-at.taken) (drop c.loop-at.taken all) (omega (arith, dropped)) in
    let few : length last ≤ kept.room = let room = is.room in omega (arith, long, room) in
    let nodes : kept.session.nodes ≡ nodes_of c.session.result.now.nodes = sym (ap (λ (content : Content). content.nodes) c.session.ensures) in
    subst (λ (at : ℕ). MayCarry (scene_in class_of kept) at (at + 1) kept.room last) (sym is.at)
    (may_carry class_of kept (nodes_of c.session.result.now.nodes) c.loop-at.at (c.loop-at.at + 1) kept.room last (same_classes class_of c.args.engine.now kept is.same c.requires.classes) nodes (c.are_carried.ensures c.if-not-are_carried.false) few)

use Rattle.std.proofs.Common.{◌≡◌, ◌+◌, ℕ, length, sym, ap, subst, arith}
use Rattle.vh_params.specs.Nodes.{nodes_of}
use Rattle.vh_session.specs.Content.{Content}
use Rattle.vh_engine.specs.Kept.{scene_in, MayCarry}
use Rattle.engine_part.proofs.Carrying.{may_carry, few_stops}
use Rattle.engine_part.proofs.blocks.play_block.Goals as goal

pub block-requires-clause-entries : goal.block-requires-clause-entries
block-requires-clause-entries g c =
    let kept = c.args.engine.now in
    let class_of = g.P.Processor.class_of in
    let nodes : kept.session.nodes ≡ nodes_of c.session.result.now.nodes = sym (ap (λ (content : Content). content.nodes) c.session.ensures) in
    subst (λ (at : ℕ). MayCarry (scene_in class_of kept) at (at + c.args.n) kept.room c.args.entries.now) (sym c.requires.at)
    (may_carry class_of kept (nodes_of c.session.result.now.nodes) c.args.at (c.args.at + c.args.n) kept.room c.args.entries.now c.requires.classes nodes (c.are_carried.ensures c.if-not-are_carried.false) c.requires.room)

pub returns-clause-room : goal.returns-clause-room
returns-clause-room g c = let few = few_stops c.args.entries.now in omega (arith, few, c.block.ensures.room)

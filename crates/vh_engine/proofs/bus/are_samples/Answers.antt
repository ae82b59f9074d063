use Rattle.std.proofs.Common.{rules, ℤ, pos, get_or, w32, subst, arith}
use mir.Val.{SFits}
use Rattle.std.proofs.lemmas.Int.{to_z-of_z}
use Rattle.std.proofs.lemmas.List.Elements.{All-more}
use Rattle.vh_num.specs.Laws.{IsSample}
use Rattle.vh_engine.proofs.bus.are_samples.Goals as goal

pub loop-sample-preserved : goal.loop-sample-preserved
loop-sample-preserved c =
    let i = c.loop-sample.sample-index in
    let source = c.args.source.now in
    let fits : SFits w32 (get_or source i (pos 0)) = search rules in
    All-more IsSample source i (pos 0) (omega arith) c.loop-sample.invariant (subst IsSample (to_z-of_z w32 (get_or source i (pos 0)) fits) c.is_sample.ensures)

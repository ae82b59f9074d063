use Rattle.std.proofs.Common.{◌≤◌, All, slice_index_or, subst, arith}
use Rattle.std.proofs.lemmas.List.{take_all}
use Rattle.vh_live.proofs.Sizes.{longer}
use Rattle.vh_live.proofs.run.longest.Goals as goal

pub loop-size-preserved : goal.loop-size-preserved
loop-size-preserved c =
    let old : c.loop-size.longest ≤ c.max-longest.result = grind (arith, c.max-longest.ensures) in
    let here : slice_index_or c.args.sizes.now c.loop-size.size-index 0 ≤ c.max-longest.result = grind (arith, c.max-longest.ensures) in (
      omega (arith, old, c.loop-size.invariant.0),
      λ most one all.
          let size = all c.loop-size.size-index 0 c.loop-size-test.true in
          let before = c.loop-size.invariant.1 most one all in
          grind (arith, c.max-longest.ensures, size, before),
      longer c.args.sizes.now c.loop-size.size-index c.loop-size.longest c.max-longest.result c.loop-size-test.true old here c.loop-size.invariant.2,
    )

pub returns-clause-each : goal.returns-clause-each
returns-clause-each c = subst (All (λ size. size ≤ c.loop-size.longest)) (take_all c.loop-size.size-index c.args.sizes.now (omega (arith, c.loop-size-test.false))) c.loop-size.invariant.2

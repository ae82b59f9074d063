use Rattle.std.proofs.Common.{◌≤◌, All, slice_index_or, subst, arith}
use Rattle.std.proofs.lemmas.List.{take_all}
use Rattle.vh_host.proofs.Sizes.{longer}
use Rattle.vh_host.proofs.blocks.longest.Goals as goal

-- src/blocks.rt:27:5
pub loop-size-preserved : goal.loop-size-preserved
loop-size-preserved c =
    let size = c.requires.sizes c.loop-size.size-index 0 c.loop-size-test.true in
    let old : c.loop-size.longest ≤ c.max-longest.result = grind (arith, c.max-longest.ensures) in
    let here : slice_index_or c.args.sizes.now c.loop-size.size-index 0 ≤ c.max-longest.result = grind (arith, c.max-longest.ensures) in
    let most : c.max-longest.result ≤ 8192 = grind (arith, c.max-longest.ensures, size, c.loop-size.invariant.1) in
    (omega (arith, old, c.loop-size.invariant.0), most, longer c.args.sizes.now c.loop-size.size-index c.loop-size.longest c.max-longest.result c.loop-size-test.true old here c.loop-size.invariant.2)

-- src/blocks.rt:20:1
pub returns-clause-each : goal.returns-clause-each
returns-clause-each c = subst (All (λ size. size ≤ c.loop-size.longest)) (take_all c.loop-size.size-index c.args.sizes.now (omega (arith, c.loop-size-test.false))) c.loop-size.invariant.2

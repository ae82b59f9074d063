use Rattle.std.proofs.Common.{◌≡◌, [], ap, ◌∙◌, ℕ, arith}
use Rattle.vh_counted.specs.declared.numbers.Numbers.{Numbers}
use Rattle.vh_counted.proofs.Sums.{total_of_whole}
use Rattle.vh_counted.proofs.object.Counted.end_whole.Goals as goal

pub loop-preserved : goal.loop-preserved
loop-preserved g c =
    let cap = c.args.self.now.object.cap in
    let invariant = c.loop.invariant in
    let released = c.release_open.ensures in
    let whole = released.kept [] invariant.whole in
    let releases = ap (λ (n : Numbers). n.releases) released.step.2.2 in
    let adds = ap (λ (n : Numbers). n.adds) released.step.2.2 in
    record {
      object = released.object ∙ invariant.object;
      value = released.value ∙ invariant.value;
      whole = whole;
      left = omega (arith, invariant.left, releases, adds, total_of_whole cap c.loop.o.numbers invariant.whole, total_of_whole cap c.release_open.new.o.numbers whole);
    }

use Rattle.std.proofs.Common.{◌≡◌, List, sym, ap, subst, arith}
use Rattle.circular_buffer.specs.Buffer.{Buffer}
use Rattle.vh_back.specs.declared.item.Item.{Item}
use Rattle.vh_back.specs.Inner.{IsKept}
use Rattle.vh_back.proofs.Keeping.{nothing_kept}
use Rattle.vh_back.proofs.ring.link.Goals as goal

pub invariant_of-result : goal.invariant_of-result
invariant_of-result c =
    let made = c.in_ok-kept.ensures in
    let sum = c.in-Some.ensures in
    let size : c.in_ok-kept.kept.capacity ≡ c.in-Some.most = ap (λ (b : Buffer Item). b.capacity) made in
    record {
      kept = subst (λ (items : List Item). IsKept c.args.params c.args.tells items) (sym (ap (λ (b : Buffer Item). b.items) made)) (nothing_kept c.args.params c.args.tells);
      room = omega (arith, sum);
    }

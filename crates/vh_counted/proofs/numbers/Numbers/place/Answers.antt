use Rattle.std.proofs.Common.{◌≡◌, ◌≤◌, ℕ, get_or, subst, arith}
use Rattle.vh_counted.proofs.Beyond.{last_held}
use Rattle.vh_counted.proofs.numbers.Numbers.place.Goals as goal

pub returns : goal.returns
returns c =
    let references = c.args.self.now.references in
    let last : c.loop-i.i ≡ 15 = omega arith in
    subst (λ (i : ℕ). 1 ≤ get_or references i 0) last (last_held references c.loop-i.i c.loop-i.invariant (omega arith) c.requires)

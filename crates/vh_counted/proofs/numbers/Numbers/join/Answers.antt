use Rattle.std.proofs.Common.{◌≡◌, List, ℕ, length, ap, arith}
use Rattle.vh_counted.specs.Steps.{joined}
use Rattle.vh_counted.proofs.References.{length_both, both_at, at_most_sum, joined_all}
use Rattle.vh_counted.proofs.numbers.Numbers.join.Goals as goal

pub overflow_add-references : goal.overflow_add-references
overflow_add-references c =
    let mine = c.args.self.now.references in
    let theirs = c.args.other.now.references in
    let size : length mine ≡ 16 = omega (arith, length_both mine theirs, c.requires.within.positions) in
    let here = c.loop-i.invariant.above c.loop-i.i (omega arith) in
    let sum_here = both_at mine theirs c.loop-i.i (omega arith) (omega (arith, c.requires.other.positions)) in
    let most = at_most_sum (Rattle.vh_counted.specs.Steps.both mine theirs) c.loop-i.i (omega (arith, length_both mine theirs)) in
    omega (arith, here, sum_here, most, c.requires.within.references)

pub returns : goal.returns
returns c =
    let mine = c.args.self.now.references in
    let theirs = c.args.other.now.references in
    let size : length mine ≡ 16 = omega (arith, length_both mine theirs, c.requires.within.positions) in
    ap (λ (references : List ℕ). record (joined c.args.self.now c.args.other.now) { references = references }) (joined_all c.loop-i.references mine theirs c.loop-i.i c.loop-i.invariant (omega (arith, c.requires.other.positions)) (omega arith))

use Rattle.std.proofs.Common.{◌<◌, sym, subst, arith}
use Rattle.vh_counted.specs.declared.numbers.Numbers.{Numbers}
use Rattle.vh_counted.specs.declared.object.Object.{Object}
use Rattle.vh_counted.specs.Steps.{IsWithinInterfaces}
use Rattle.vh_counted.proofs.Beyond.{beyond_part}
use Rattle.vh_counted.proofs.Sums.{keeps_split}
use Rattle.vh_counted.proofs.object.Counted.split.Goals as goal

pub returns-clause-kept : goal.returns-clause-kept
returns-clause-kept g c = λ others is.
    let within : c.args.iface < 16 = omega (arith, c.requires.iface, c.args.self.now.is.most) in
    let kept = keeps_split c.args.self.now.object.cap c.args.iface c.args.n c.args.room c.args.h.now.numbers within c.requires.held c.requires.room others is in
    rw (c.split.ensures.rest, c.split.ensures.part) kept

pub invariant_of-result : goal.invariant_of-result
invariant_of-result g c =
    let interfaces = c.args.h.now.object.interfaces in
    let within = subst (λ (object : Object). c.args.iface < object.interfaces) (sym c.requires.of_this) c.requires.iface in
    record { within = subst (λ (n : Numbers). IsWithinInterfaces interfaces n) (sym c.split.ensures.part) (beyond_part interfaces c.args.iface c.args.n c.args.room within) }

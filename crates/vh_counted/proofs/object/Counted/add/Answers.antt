use Rattle.std.proofs.Common.{◌<◌, ◌∷◌, sym, subst, arith}
use Rattle.vh_counted.specs.declared.numbers.Numbers.{Numbers}
use Rattle.vh_counted.specs.Objects.{IsObject}
use Rattle.vh_counted.proofs.Sums.{keeps_add}
use Rattle.vh_counted.proofs.object.Counted.add.Goals as goal

pub returns-clause-kept : goal.returns-clause-kept
returns-clause-kept g c = λ others is.
    let within : c.args.iface < 16 = omega (arith, c.requires.iface, c.args.self.now.is.most) in
    let room : 0 < c.args.numbers.now.room = omega arith in
    subst (λ (n : Numbers). IsObject c.args.self.now.object.cap (n ∷ others)) (sym c.add.ensures) (keeps_add c.args.self.now.object.cap c.args.iface _ c.args.numbers.now within room others is)

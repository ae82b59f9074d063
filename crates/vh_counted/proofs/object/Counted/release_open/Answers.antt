use Rattle.std.proofs.Common.{◌<◌, ◌∷◌, sym, subst, arith}
use Rattle.vh_counted.specs.declared.numbers.Numbers.{Numbers}
use Rattle.vh_counted.specs.Objects.{IsObject}
use Rattle.vh_counted.proofs.Sums.{keeps_release}
use Rattle.vh_counted.proofs.object.Counted.release_open.Goals as goal

pub returns-clause-kept : goal.returns-clause-kept
returns-clause-kept g c = λ others is.
    let within : c.args.iface < 16 = omega (arith, c.requires.iface, c.args.self.now.is.most) in
    subst (λ (n : Numbers). IsObject c.args.self.now.object.cap (n ∷ others)) (sym c.release.ensures) (keeps_release c.args.self.now.object.cap c.args.iface _ c.args.o.now.numbers within c.requires.held others is)

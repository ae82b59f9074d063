use Rattle.std.proofs.Common.{◌∷◌, sym, subst}
use Rattle.vh_counted.specs.declared.numbers.Numbers.{Numbers}
use Rattle.vh_counted.specs.Objects.{IsObject}
use Rattle.vh_counted.proofs.Sums.{within_joined, keeps_join}
use Rattle.vh_counted.proofs.object.Counted.join.Goals as goal

pub join-requires-clause-within : goal.join-requires-clause-within
join-requires-clause-within g c = within_joined c.args.self.now.object.cap c.args.h.now.numbers c.args.other.numbers c.args.self.now.is.adds c.requires.some

pub returns-then-is_some-clause-kept : goal.returns-then-is_some-clause-kept
returns-then-is_some-clause-kept g c = λ others is.
    subst (λ (n : Numbers). IsObject c.args.self.now.object.cap (n ∷ others)) (sym c.join.ensures) (keeps_join c.args.self.now.object.cap c.args.h.now.numbers c.args.other.numbers others is)

pub returns-else-is_some-clause-kept : goal.returns-else-is_some-clause-kept
returns-else-is_some-clause-kept g c = λ others is.
    subst (λ (n : Numbers). IsObject c.args.self.now.object.cap (n ∷ others)) (sym c.join.ensures) (keeps_join c.args.self.now.object.cap c.args.h.now.numbers c.args.other.numbers others is)

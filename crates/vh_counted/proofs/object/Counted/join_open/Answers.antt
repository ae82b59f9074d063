use Rattle.std.proofs.Common.{ℕ, ◌≤◌, ◌∷◌, sym, subst, ap, ◌∙◌}
use Rattle.vh_counted.specs.declared.numbers.Numbers.{Numbers}
use Rattle.vh_counted.specs.declared.object.Object.{Object}
use Rattle.vh_counted.specs.Steps.{IsWithinInterfaces, total}
use Rattle.vh_counted.specs.Objects.{IsObject}
use Rattle.vh_counted.proofs.Beyond.{beyond_joined, some_joined}
use Rattle.vh_counted.proofs.Sums.{within_joined, keeps_join}
use Rattle.vh_counted.proofs.object.Counted.join_open.Goals as goal

pub join-requires-clause-within : goal.join-requires-clause-within
join-requires-clause-within g c = within_joined c.args.self.now.object.cap c.args.o.now.numbers c.args.other.numbers c.args.self.now.is.adds c.requires.some

pub returns-clause-kept : goal.returns-clause-kept
returns-clause-kept g c = λ others is.
    subst (λ (n : Numbers). IsObject c.args.self.now.object.cap (n ∷ others)) (sym c.join.ensures) (keeps_join c.args.self.now.object.cap c.args.o.now.numbers c.args.other.numbers others is)

pub invariant_of-o : goal.invariant_of-o
invariant_of-o g c =
    let same = ap (λ (object : Object). object.interfaces) (c.requires.other_too ∙ sym c.requires.of_this) in
    let theirs = subst (λ (n : ℕ). IsWithinInterfaces n c.args.other.numbers) same c.args.other.within in
    record {
      within = subst (λ (n : Numbers). IsWithinInterfaces c.args.o.now.object.interfaces n) (sym c.join.ensures) (beyond_joined c.args.o.now.object.interfaces c.args.o.now.numbers c.args.other.numbers c.args.o.now.within theirs);
      some = subst (λ (n : Numbers). 1 ≤ total n) (sym c.join.ensures) (some_joined c.args.o.now.numbers c.args.other.numbers c.args.o.now.some);
    }

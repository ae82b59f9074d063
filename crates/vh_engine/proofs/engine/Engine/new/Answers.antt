use Rattle.std.proofs.Common.{ℕ, List, subst}
use Rattle.vh_engine.specs.Fresh.{IsFreshWork}
use Rattle.vh_engine.proofs.Started.{engine_at_first, stands_first}
use Rattle.vh_engine.proofs.engine.Engine.new.Goals as goal

pub invariant_of-result : goal.invariant_of-result
invariant_of-result g c =
    let fresh = subst (λ (firsts : List ℕ). IsFreshWork c.args.parts.session firsts c.args.max c.args.tells c.in-Ok.work) c.deref.ensures.value c.in-Ok.ensures in
    engine_at_first g.P.Processor.class_of g.P.Processor.code g.P.Processor.state g.P.Processor.values g.P.Life.phase g.P.Life.last_setup c.args.parts c.args.max c.requires.parts c.in-Ok.work c.args.tells fresh
    c.order_exactly_without_cycle.ensures g.met.P.Processor.lawful g.met.P.Processor.valued c.requires.some c.requires.most

pub returns-in-Ok-clause-stands : goal.returns-in-Ok-clause-stands
returns-in-Ok-clause-stands g c = λ input.
    let fresh = subst (λ (firsts : List ℕ). IsFreshWork c.args.parts.session firsts c.args.max c.args.tells c.in-Ok.work) c.deref.ensures.value c.in-Ok.ensures in
    stands_first g.P.Processor.class_of g.P.Processor.code g.P.Processor.state g.P.Processor.values g.P.Life.phase g.P.Life.last_setup c.args.parts c.args.max c.requires.parts c.in-Ok.work c.args.tells fresh
    c.stands_at_first.ensures g.P.Processor.calls input

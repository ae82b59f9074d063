use Rattle.vh_session.specs.Names.{content_of}
use Rattle.vh_core.proofs.Begun.{few_channels, machine_begun, run_begun}
use Rattle.vh_core.proofs.machine.Machine.new.Goals as goal

pub invariant_of-result : goal.invariant_of-result
invariant_of-result g c =
    machine_begun g.P.Processor.class_of g.P.Processor.code g.P.Processor.state g.P.Processor.values g.P.Life.phase g.P.Life.last_setup (content_of c.args.session.now) (few_channels c.args.session.now) c.args.first.now c.args.processors.items
    c.requires c.in-Ok.plan c.in-Ok.room c.in-Ok.kept c.in-Ok.ensures.plan c.in-Ok.ensures.firsts c.in-Ok.ensures.room c.in-Ok.ensures.values c.in-Ok.ensures.controllers c.in-Ok.ensures.nothing

pub returns-in-Ok-clause-begins : goal.returns-in-Ok-clause-begins
returns-in-Ok-clause-begins g c =
    run_begun g.P.Processor.class_of g.P.Processor.code g.P.Processor.state g.P.Processor.values g.P.Life.phase g.P.Life.last_setup (content_of c.args.session.now) (few_channels c.args.session.now) c.args.first.now c.args.processors.items
    c.requires c.in-Ok.plan c.in-Ok.room c.in-Ok.kept c.in-Ok.ensures.plan c.in-Ok.ensures.firsts c.in-Ok.ensures.room c.in-Ok.ensures.values c.in-Ok.ensures.controllers c.in-Ok.ensures.nothing

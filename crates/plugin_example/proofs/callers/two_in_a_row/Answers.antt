use Rattle.std.proofs.Common.{ap}
use Rattle.vh_component.specs.declared.setup.Setup.{Setup}
use Rattle.vh_points.specs.Model.{queues_of}
use Rattle.plugin_example.proofs.Rows.{row_goes_on_as_left}
use Rattle.plugin_example.proofs.callers.two_in_a_row.Goals as goal

pub returns-clause-stream : goal.returns-clause-stream
returns-clause-stream g c =
    let old = c.args.processor.now in
    let mid = c.process.new.self in
    let first = c.process.ensures in
    let second = c.process-2.ensures in
    row_goes_on_as_left
    (g.P.Processor.class_of (g.P.Processor.code old)) (g.P.Life.last_setup old).channels (g.P.Processor.state old) (g.P.Processor.values old)
    c.args.n (queues_of c.args.points.now) c.args.main.now c.process.new.out
    c.args.m (queues_of c.args.later_points.now) c.args.later_main.now c.process-2.new.out
    (g.P.Processor.state mid) (g.P.Processor.state c.process-2.new.self)
    (g.P.Processor.class_of (g.P.Processor.code mid)) (g.P.Life.last_setup mid).channels (g.P.Processor.values mid)
    c.block_goes_on.ensures
    (ap g.P.Processor.class_of first.code) (ap (λ (s : Setup). s.channels) first.setup) first.values
    first.out first.state second.out second.state

use Rattle.std.proofs.Common.{◌∙◌}
use Rattle.vh_points.specs.Model.{queues_of}
use Rattle.vh_component.specs.States.{of_processing}
use Rattle.vh_counted.specs.Held.{value_of_opened}
use Rattle.vh_engine.proofs.Running.{sent_for, values_sent, is_run}
use Rattle.vh_engine.proofs.node.run_node.Goals as goal

pub process-requires-clause-points : goal.process-requires-clause-points
process-requires-clause-points g c =
    rw c.value_mut.ensures.value (sent_for (g.P.Processor.class_of (g.P.Processor.code (value_of_opened (of_processing c.args.processor.now)))) c.args.span.now c.args.node c.args.controls.now (queues_of c.send_all.new.points) c.requires.params c.send_all.ensures.points)

pub returns-clause-run : goal.returns-clause-run
returns-clause-run g c =
    let value = value_of_opened (of_processing c.args.processor.now) in
    let output = rw (c.value_mut.ensures.value, c.requires.sent) at c.process.ensures.out in
    let state = rw (c.value_mut.ensures.value, c.requires.sent) at c.process.ensures.state in
    is_run (g.P.Processor.class_of (g.P.Processor.code value)) c.args.span.now c.args.node (g.P.Life.last_setup value).channels c.args.controls.now (queues_of c.send_all.new.points) c.args.main.now c.args.aux.now
    (g.P.Processor.state value) (g.P.Processor.state c.process.new.self) c.process.new.out c.block_goes_on.ensures c.points_mean_values.ensures c.requires.params c.send_all.ensures.points output state

pub returns-clause-sent : goal.returns-clause-sent
returns-clause-sent g c =
    let value = value_of_opened (of_processing c.args.processor.now) in
    let values = rw (c.value_mut.ensures.value, c.requires.sent) at c.process.ensures.values in
    values ∙ values_sent c.args.span.now c.args.node (g.P.Processor.class_of (g.P.Processor.code value)).params c.args.controls.now c.send_all.new.controls (queues_of c.send_all.new.points) c.points_mean_values.ensures c.requires.params c.send_all.ensures.points c.send_all.ensures.behind

use Rattle.std.proofs.Common.{◌≡◌, ◌∙◌, ◌<◌, ◌≤◌, List, length, get_or, refl, sym, ap, subst, arith}
use Rattle.std.specs.Vec.{with_items}
use Rattle.vh_component.specs.States.{of_processing}
use Rattle.vh_counted.specs.Held.{value_of_opened}
use Rattle.vh_engine.specs.declared.control.Control.{Control}
use Rattle.vh_engine.specs.Nodes.{sent_of, AreBehind}
use Rattle.vh_engine.specs.Runs.{IsFlushReady}
use Rattle.vh_engine.proofs.Called.{read_again}
use Rattle.vh_engine.proofs.Rows.{written}
use Rattle.vh_engine.proofs.Settled.{HasSettled, settled_none, first_settled, settle_ready, settled_more, settled_calls}
use Rattle.vh_engine.proofs.nodes.flush_nodes.Goals as goal

pub loop-node-init : goal.loop-node-init
loop-node-init g c = (
  settled_none g.P.Processor.class_of g.P.Processor.code g.P.Processor.state g.P.Processor.values g.P.Processor.calls g.P.Life.phase g.P.Life.last_setup c.args.span.now c.args.processors.now c.args.boards.now c.requires.boards
      (first_settled g.P.Processor.class_of g.P.Processor.code g.P.Processor.state g.P.Processor.values g.P.Processor.calls g.P.Life.phase g.P.Life.last_setup c.args.span.now c.requires.ready.0 c.args.processors.now c.args.boards.now c.requires.boards c.requires.ready.3),
  refl,
  refl,
)

pub flush_at-requires-clause-ready : goal.flush_at-requires-clause-ready
flush_at-requires-clause-ready g c =
    let node = c.loop-node.node in
    let processors = c.loop-node.processors in
    let boards = c.loop-node.boards in
    let processor = get_or processors node c.index-processors-node.result in
    let board = get_or boards node c.index-boards-node.result in
    let nodes = c.loop-node.auto.processors in
    let inside : node < length processors = let lt = c.loop-node-test.true in omega (arith, lt, nodes) in
    let queues = c.loop-node.invariant.1 in
    let points = c.loop-node.invariant.2 in
    let some_queues = c.requires.ready.1 in
    let some_points = c.requires.ready.2 in
    let lt = c.loop-node-test.true in (
      c.requires.ready.0,
      omega (arith, queues, some_queues),
      omega (arith, points, some_points),
      subst (λ (l : List Control). IsFlushReady (g.P.Processor.class_of (g.P.Processor.code (value_of_opened (of_processing processor)))) (g.P.Life.phase (value_of_opened (of_processing processor))) (g.P.Processor.values (value_of_opened (of_processing processor)))
          c.requires.ready.0 c.args.span.now node l) (sym c.deref_mut.ensures.value)
          (settle_ready g.P.Processor.class_of g.P.Processor.code g.P.Processor.state g.P.Processor.values g.P.Processor.calls g.P.Life.phase g.P.Life.last_setup c.args.span.now node c.args.processors.now processors c.args.boards.now boards c.loop-node.invariant.0 inside processor board (read_again processors node c.index-processors-node.result c.index-processors-node.is) (read_again boards node c.index-boards-node.result c.index-boards-node.is) c.requires.ready.0 (λ k p. c.requires.ready.3 node k p lt)),
    )

pub loop-node-preserved : goal.loop-node-preserved
loop-node-preserved g c =
    let node = c.loop-node.node in
    let processors = c.loop-node.processors in
    let boards = c.loop-node.boards in
    let processor = get_or processors node c.index-processors-node.result in
    let board = get_or boards node c.index-boards-node.result in
    let nodes = c.loop-node.auto.processors in
    let inside : node < length processors = let lt = c.loop-node-test.true in omega (arith, lt, nodes) in
    let after = with_items board c.flush_at.new.controls in
    let held : after.items ≡ c.flush_at.new.controls = written board c.deref_mut.result.now c.flush_at.new.controls c.deref_mut.ensures.value c.flush_at.auto.controls in
    let settled : HasSettled g.P.Processor.class_of g.P.Processor.code g.P.Processor.state g.P.Processor.values g.P.Processor.calls g.P.Life.phase g.P.Life.last_setup c.args.span.now node processor c.flush_at.new.processor board after = record {
      behind = subst (λ (l : List Control). AreBehind c.args.span.now node board.items l) (sym held) (subst (λ (l : List Control). AreBehind c.args.span.now node l c.flush_at.new.controls) c.deref_mut.ensures.value c.flush_at.ensures.behind);
      state_is = c.flush_at.ensures.state;
      sent = c.flush_at.ensures.sent ∙ sym (ap (λ (l : List Control). sent_of l) held);
      called = c.flush_at.ensures.calls;
      code_is = c.flush_at.ensures.code;
      phase_is = c.flush_at.ensures.phase;
      setup_is = c.flush_at.ensures.setup;
      object = c.flush_at.ensures.object;
      numbers = c.flush_at.ensures.numbers;
    } in (
      settled_more g.P.Processor.class_of g.P.Processor.code g.P.Processor.state g.P.Processor.values g.P.Processor.calls g.P.Life.phase g.P.Life.last_setup c.args.span.now node c.args.processors.now processors c.args.boards.now boards c.loop-node.invariant.0 inside processor board (read_again processors node c.index-processors-node.result c.index-processors-node.is) (read_again boards node c.index-boards-node.result c.index-boards-node.is) c.flush_at.new.processor after settled,
      c.flush_at.ensures.queues ∙ c.loop-node.invariant.1,
      c.flush_at.ensures.points ∙ c.loop-node.invariant.2,
    )

pub returns-clause-behind : goal.returns-clause-behind
returns-clause-behind g c =
    λ node within.
    let end = c.loop-node-test.false in
    c.loop-node.invariant.0.behind node (omega (arith, within, end)) within

pub returns-clause-calls : goal.returns-clause-calls
returns-clause-calls g c =
    settled_calls g.P.Processor.class_of g.P.Processor.code g.P.Processor.state g.P.Processor.values g.P.Processor.calls g.P.Life.phase g.P.Life.last_setup c.args.span.now c.loop-node.node c.args.processors.now c.loop-node.processors c.args.boards.now c.loop-node.boards c.loop-node.invariant.0 (let end = c.loop-node-test.false in omega (arith, end))

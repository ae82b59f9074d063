use Rattle.std.proofs.Common.{rules, ◌≡◌, ◌∙◌, ◌<◌, List, length, get_or, sym, ap, subst, arith}
use Rattle.std.specs.Vec.{with_items}
use Rattle.std.proofs.lemmas.List.{get_or_default}
use Rattle.vh_component.specs.States.{of_processing}
use Rattle.vh_counted.specs.Held.{value_of_opened}
use Rattle.vh_engine.specs.declared.control.Control.{Control}
use Rattle.vh_engine.specs.Buses.{rows_of, row_at}
use Rattle.vh_engine.specs.Nodes.{sent_of}
use Rattle.vh_engine.specs.Runs.{HasRun, IsNodeReady}
use Rattle.vh_engine.proofs.Called.{read_again}
use Rattle.vh_engine.proofs.Rows.{written}
use Rattle.vh_engine.proofs.Turns.{AreAtFirst, AreHere, HasTurned, first_sent, in_turn_none, stands_next, may_turn, turn_channels, in_turn_more, in_turn_run, in_turn_calls}
use Rattle.vh_engine.proofs.nodes.run_nodes.Goals as goal

pub loop-node-init : goal.loop-node-init
loop-node-init g c =
    let first : AreAtFirst g.P.Processor.class_of g.P.Processor.code g.P.Processor.state g.P.Processor.values g.P.Processor.calls g.P.Life.phase g.P.Life.last_setup c.args.order.now c.args.seats.now c.args.span.now c.args.ins.now c.requires.ready.0 c.requires.ready.1 c.args.processors.now c.args.boards.now c.args.rows.now c.args.space.now =
    record { sized = c.requires.ready.2; some = c.requires.ready.3; spacious = c.requires.ready.4; has_room = c.requires.room; nodes = c.requires.ready.5 } in
    in_turn_none g.P.Processor.class_of g.P.Processor.code g.P.Processor.state g.P.Processor.values g.P.Processor.calls g.P.Life.phase g.P.Life.last_setup c.args.order.now c.args.seats.now c.args.span.now c.args.ins.now
    c.args.processors.now c.args.boards.now c.args.rows.now c.args.space.now c.requires.order c.requires.processors c.requires.boards c.requires.rows
    (first_sent g.P.Processor.class_of g.P.Processor.code g.P.Processor.state g.P.Processor.values g.P.Processor.calls g.P.Life.phase g.P.Life.last_setup c.args.order.now c.args.seats.now c.args.span.now c.args.ins.now c.requires.ready.0 c.requires.ready.1 c.args.processors.now c.args.boards.now c.args.rows.now c.args.space.now first c.requires.processors c.requires.boards)

pub offset_bounds-processors-k : goal.offset_bounds-processors-k
offset_bounds-processors-k g c =
    let place = c.loop-node.node-index in
    let order = c.args.order.now in
    let node = get_or order place 0 in
    let next = stands_next (length c.args.seats.now) c.args.seats.now order place node c.loop-node-test.true (get_or_default order place 0 node c.loop-node-test.true) c.loop-node.invariant.order_is in
    let seated = next.within in
    let nodes = c.loop-node.invariant.nodes in
    let inside : node < length c.loop-node.processors = omega (arith, seated, nodes) in
    search rules

pub run_at-requires : goal.run_at-requires
run_at-requires g c =
    let first : AreAtFirst g.P.Processor.class_of g.P.Processor.code g.P.Processor.state g.P.Processor.values g.P.Processor.calls g.P.Life.phase g.P.Life.last_setup c.args.order.now c.args.seats.now c.args.span.now c.args.ins.now c.requires.ready.0 c.requires.ready.1 c.args.processors.now c.args.boards.now c.args.rows.now c.args.space.now =
    record { sized = c.requires.ready.2; some = c.requires.ready.3; spacious = c.requires.ready.4; has_room = c.requires.room; nodes = c.requires.ready.5 } in
    let place = c.loop-node.node-index in
    let order = c.args.order.now in
    let node = get_or order place 0 in
    let processors = c.loop-node.processors in
    let boards = c.loop-node.boards in
    let processor = get_or processors node c.index-processors-k.result in
    let board = get_or boards node c.index-boards-k.result in
    let placed : node ≡ get_or order place node = get_or_default order place 0 node c.loop-node-test.true in
    let here : AreHere g.P.Processor.class_of g.P.Processor.code g.P.Processor.state g.P.Processor.values g.P.Processor.calls g.P.Life.phase g.P.Life.last_setup c.args.order.now c.args.seats.now c.args.span.now c.args.ins.now node processors boards c.index-seats-k.result processor board =
    record { seat_is = c.index-seats-k.is; processor_is = read_again processors node c.index-processors-k.result c.index-processors-k.is; board_is = read_again boards node c.index-boards-k.result c.index-boards-k.is } in
    let may = may_turn g.P.Processor.class_of g.P.Processor.code g.P.Processor.state g.P.Processor.values g.P.Processor.calls g.P.Life.phase g.P.Life.last_setup c.args.order.now c.args.seats.now c.args.span.now c.args.ins.now place c.args.processors.now processors c.args.boards.now boards c.args.rows.now c.loop-node.rows c.args.space.now c.loop-node.space c.loop-node.invariant node c.loop-node-test.true placed c.index-seats-k.result processor board here c.requires.ready.0 c.requires.ready.1 first in
    record {
      node = may.within;
      channels = may.channels;
      size = may.size;
      ready = (
        may.ready.0,
        may.ready.1,
        subst (λ (l : List Control). IsNodeReady (g.P.Processor.class_of (g.P.Processor.code (value_of_opened (of_processing processor)))) (g.P.Life.phase (value_of_opened (of_processing processor))) (g.P.Life.last_setup (value_of_opened (of_processing processor)))
            (g.P.Processor.values (value_of_opened (of_processing processor))) (g.P.Life.last_setup (value_of_opened (of_processing processor))).channels may.ready.0 c.args.span.now node c.index-seats-k.result l) (sym c.deref_mut.ensures.value) may.ready.2,
      );
      main = may.main;
      aux = may.aux;
      room = may.room;
    }

pub loop-node-preserved : goal.loop-node-preserved
loop-node-preserved g c =
    let first : AreAtFirst g.P.Processor.class_of g.P.Processor.code g.P.Processor.state g.P.Processor.values g.P.Processor.calls g.P.Life.phase g.P.Life.last_setup c.args.order.now c.args.seats.now c.args.span.now c.args.ins.now c.requires.ready.0 c.requires.ready.1 c.args.processors.now c.args.boards.now c.args.rows.now c.args.space.now =
    record { sized = c.requires.ready.2; some = c.requires.ready.3; spacious = c.requires.ready.4; has_room = c.requires.room; nodes = c.requires.ready.5 } in
    let place = c.loop-node.node-index in
    let order = c.args.order.now in
    let node = get_or order place 0 in
    let processors = c.loop-node.processors in
    let boards = c.loop-node.boards in
    let processor = get_or processors node c.index-processors-k.result in
    let board = get_or boards node c.index-boards-k.result in
    let placed : node ≡ get_or order place node = get_or_default order place 0 node c.loop-node-test.true in
    let here : AreHere g.P.Processor.class_of g.P.Processor.code g.P.Processor.state g.P.Processor.values g.P.Processor.calls g.P.Life.phase g.P.Life.last_setup c.args.order.now c.args.seats.now c.args.span.now c.args.ins.now node processors boards c.index-seats-k.result processor board =
    record { seat_is = c.index-seats-k.is; processor_is = read_again processors node c.index-processors-k.result c.index-processors-k.is; board_is = read_again boards node c.index-boards-k.result c.index-boards-k.is } in
    let old = value_of_opened (of_processing processor) in
    let new = value_of_opened (of_processing c.run_at.new.processor) in
    let after = with_items board c.run_at.new.controls in
    let held : after.items ≡ c.run_at.new.controls = written board c.deref_mut.result.now c.run_at.new.controls c.deref_mut.ensures.value c.run_at.auto.controls in
    let turned : HasTurned g.P.Processor.class_of g.P.Processor.code g.P.Processor.state g.P.Processor.values g.P.Processor.calls g.P.Life.phase g.P.Life.last_setup c.args.order.now c.args.seats.now c.args.span.now c.args.ins.now node c.index-seats-k.result processor c.run_at.new.processor board after c.loop-node.rows c.run_at.new.rows = record {
      run = subst (λ (l : List Control). HasRun (g.P.Processor.class_of (g.P.Processor.code old)) (g.P.Life.last_setup old).channels c.args.span.now c.args.ins.now (rows_of c.loop-node.rows) c.index-seats-k.result node board.items l
          (g.P.Processor.state old) (g.P.Processor.state new) (row_at (rows_of c.run_at.new.rows) node)) (sym held)
          (subst (λ (l : List Control). HasRun (g.P.Processor.class_of (g.P.Processor.code old)) (g.P.Life.last_setup old).channels c.args.span.now c.args.ins.now (rows_of c.loop-node.rows) c.index-seats-k.result node l c.run_at.new.controls
          (g.P.Processor.state old) (g.P.Processor.state new) (row_at (rows_of c.run_at.new.rows) node)) c.deref_mut.ensures.value c.run_at.ensures.run);
      rows_stay = c.run_at.ensures.others;
      rows_long = c.run_at.ensures.long;
      sent = c.run_at.ensures.sent ∙ sym (ap (λ (l : List Control). sent_of l) held);
      called = c.run_at.ensures.calls;
      code_is = c.run_at.ensures.code;
      phase_is = c.run_at.ensures.phase;
      setup_is = c.run_at.ensures.setup;
      object = c.run_at.ensures.object;
      numbers = c.run_at.ensures.numbers;
    } in
    in_turn_more g.P.Processor.class_of g.P.Processor.code g.P.Processor.state g.P.Processor.values g.P.Processor.calls g.P.Life.phase g.P.Life.last_setup c.args.order.now c.args.seats.now c.args.span.now c.args.ins.now place c.args.processors.now processors c.args.boards.now boards c.args.rows.now c.loop-node.rows c.args.space.now c.loop-node.space c.loop-node.invariant node c.loop-node-test.true placed c.index-seats-k.result processor board here c.run_at.new.processor after c.run_at.new.rows c.run_at.new.space turned c.run_at.ensures.room
    (turn_channels g.P.Processor.class_of g.P.Processor.code g.P.Processor.state g.P.Processor.values g.P.Processor.calls g.P.Life.phase g.P.Life.last_setup c.args.order.now c.args.seats.now c.args.span.now c.args.ins.now place c.args.processors.now processors c.args.boards.now boards c.args.rows.now c.loop-node.rows c.args.space.now c.loop-node.space c.loop-node.invariant node c.loop-node-test.true placed c.index-seats-k.result processor board here c.requires.ready.0 c.requires.ready.1 first)

pub returns-clause-run : goal.returns-clause-run
returns-clause-run g c =
    λ channels node k d sized within.
    in_turn_run g.P.Processor.class_of g.P.Processor.code g.P.Processor.state g.P.Processor.values g.P.Processor.calls g.P.Life.phase g.P.Life.last_setup c.args.order.now c.args.seats.now c.args.span.now c.args.ins.now
    c.loop-node.node-index c.args.processors.now c.loop-node.processors c.args.boards.now c.loop-node.boards c.args.rows.now c.loop-node.rows c.args.space.now c.loop-node.space c.loop-node.invariant c.loop-node-test.false channels node k d sized within

pub returns-clause-calls : goal.returns-clause-calls
returns-clause-calls g c =
    in_turn_calls g.P.Processor.class_of g.P.Processor.code g.P.Processor.state g.P.Processor.values g.P.Processor.calls g.P.Life.phase g.P.Life.last_setup c.args.order.now c.args.seats.now c.args.span.now c.args.ins.now
    c.loop-node.node-index c.args.processors.now c.loop-node.processors c.args.boards.now c.loop-node.boards c.args.rows.now c.loop-node.rows c.args.space.now c.loop-node.space c.loop-node.invariant c.loop-node-test.false c.requires.processors

use Rattle.std.proofs.Common.{◌≡◌, ◌+◌, ℕ, length, refl, sym, subst, arith}
use Rattle.std.specs.Vec.{with_items}
use Rattle.vh_engine.specs.Engine.{IsReadyFor}
use Rattle.vh_engine.proofs.Gone.{all_run_of, spacious, nodes_in_words, ready_left, gone_over_block, current_left}
use Rattle.vh_engine.proofs.Rows.{written}
use Rattle.vh_engine.proofs.block.run.Goals as goal

pub run_nodes-requires-clause-ready : goal.run_nodes-requires-clause-ready
run_nodes-requires-clause-ready g c =
    let parts = c.args.parts.now in
    let work = c.args.work.now in (
      parts.session.channels,
      64,
      c.requires.ins,
      c.requires.ready.channels,
      spacious work.space parts.session.channels 64 work.max c.args.n (length c.args.ins.now) c.requires.most c.requires.ins c.requires.ready.space,
      nodes_in_words g.P.Processor.class_of g.P.Processor.code g.P.Processor.state g.P.Processor.values g.P.Processor.calls g.P.Life.phase g.P.Life.last_setup g.met.P.Processor.lawful parts work c.args.entries.now _ c.args.n (record { lanes = c.deref.ensures.value; entries_are = refl; from = refl; frames = refl; most = c.requires.most; for = c.requires.commands }) c.requires.ready c.deref-3.result.now c.deref_mut.result.now c.deref_mut-2.result.now c.deref-3.ensures.value c.deref_mut.ensures.value c.deref_mut-2.ensures.value,
    )

pub returns-clause-ready : goal.returns-clause-ready
returns-clause-ready g c =
    λ room ready.
    let parts = c.args.parts.now in
    let work = c.args.work.now in
    let ins = c.args.ins.now in
    let procs = with_items parts.processors c.run_nodes.new.processors in
    let boards = with_items work.boards c.run_nodes.new.boards in
    let rows = with_items work.rows c.run_nodes.new.rows in
    ready_left g.P.Processor.class_of g.P.Processor.code g.P.Processor.state g.P.Processor.values g.P.Processor.calls g.P.Life.phase g.P.Life.last_setup g.met.P.Processor.lawful parts work c.args.entries.now _ ins procs boards rows c.run_nodes.new.space
    (all_run_of g.P.Processor.class_of g.P.Processor.code g.P.Processor.state g.P.Processor.values g.P.Life.phase g.P.Life.last_setup (record { lanes = c.deref.result; entries = c.args.entries; from = c.args.work.now.pos; frames = c.args.n; some = _; end = _; between = _; within = _ }) ins c.deref-3.result.now work.seats.items c.deref_mut.result.now parts.processors.items c.run_nodes.new.processors procs.items c.deref_mut-2.result.now work.boards.items c.run_nodes.new.boards boards.items
    c.deref_mut-3.result.now work.rows.items c.run_nodes.new.rows rows.items work.space c.run_nodes.new.space
    c.deref-3.ensures.value c.deref_mut.ensures.value (sym (written parts.processors c.deref_mut.result.now c.run_nodes.new.processors c.deref_mut.ensures.value c.run_nodes.auto.processors))
    c.deref_mut-2.ensures.value (sym (written work.boards c.deref_mut-2.result.now c.run_nodes.new.boards c.deref_mut-2.ensures.value c.run_nodes.auto.boards))
    c.deref_mut-3.ensures.value (sym (written work.rows c.deref_mut-3.result.now c.run_nodes.new.rows c.deref_mut-3.ensures.value c.run_nodes.auto.rows))
    (record {
      run = c.run_nodes.ensures.run;
      sent = c.run_nodes.ensures.sent;
      codes = c.run_nodes.ensures.codes;
      phases = c.run_nodes.ensures.phases;
      setups = c.run_nodes.ensures.setups;
      boards_long = c.run_nodes.ensures.boards;
      rows_long = c.run_nodes.ensures.rows;
      room = c.run_nodes.ensures.room;
    }))
    c.args.n (record { lanes = c.deref.ensures.value; entries_are = refl; from = refl; frames = refl; most = c.requires.most; for = c.requires.commands }) c.requires.ins room ready

pub returns-clause-over : goal.returns-clause-over
returns-clause-over g c =
    λ input coming.
    let parts = c.args.parts.now in
    let work = c.args.work.now in
    let ins = c.args.ins.now in
    let procs = with_items parts.processors c.run_nodes.new.processors in
    let boards = with_items work.boards c.run_nodes.new.boards in
    let rows = with_items work.rows c.run_nodes.new.rows in
    let none : length c.args.entries.now ≡ length c.args.entries.now + 0 = omega arith in
    let ready = subst (λ (m : ℕ). IsReadyFor g.P.Processor.class_of g.P.Processor.code g.P.Processor.values g.P.Life.phase g.P.Life.last_setup parts work m) none c.requires.ready in
    gone_over_block g.P.Processor.class_of g.P.Processor.code g.P.Processor.state g.P.Processor.values g.P.Processor.calls g.P.Life.phase g.P.Life.last_setup g.met.P.Processor.lawful parts work c.args.entries.now _ ins procs boards rows c.run_nodes.new.space
    (all_run_of g.P.Processor.class_of g.P.Processor.code g.P.Processor.state g.P.Processor.values g.P.Life.phase g.P.Life.last_setup (record { lanes = c.deref.result; entries = c.args.entries; from = c.args.work.now.pos; frames = c.args.n; some = _; end = _; between = _; within = _ }) ins c.deref-3.result.now work.seats.items c.deref_mut.result.now parts.processors.items c.run_nodes.new.processors procs.items c.deref_mut-2.result.now work.boards.items c.run_nodes.new.boards boards.items
    c.deref_mut-3.result.now work.rows.items c.run_nodes.new.rows rows.items work.space c.run_nodes.new.space
    c.deref-3.ensures.value c.deref_mut.ensures.value (sym (written parts.processors c.deref_mut.result.now c.run_nodes.new.processors c.deref_mut.ensures.value c.run_nodes.auto.processors))
    c.deref_mut-2.ensures.value (sym (written work.boards c.deref_mut-2.result.now c.run_nodes.new.boards c.deref_mut-2.ensures.value c.run_nodes.auto.boards))
    c.deref_mut-3.ensures.value (sym (written work.rows c.deref_mut-3.result.now c.run_nodes.new.rows c.deref_mut-3.ensures.value c.run_nodes.auto.rows))
    (record {
      run = c.run_nodes.ensures.run;
      sent = c.run_nodes.ensures.sent;
      codes = c.run_nodes.ensures.codes;
      phases = c.run_nodes.ensures.phases;
      setups = c.run_nodes.ensures.setups;
      boards_long = c.run_nodes.ensures.boards;
      rows_long = c.run_nodes.ensures.rows;
      room = c.run_nodes.ensures.room;
    }))
    c.args.n (record { lanes = c.deref.ensures.value; entries_are = refl; from = refl; frames = refl; most = c.requires.most; for = c.requires.commands }) c.requires.ins 0 ready input coming

pub returns-clause-current : goal.returns-clause-current
returns-clause-current g c =
    λ s last.
    let parts = c.args.parts.now in
    let work = c.args.work.now in
    let ins = c.args.ins.now in
    let procs = with_items parts.processors c.run_nodes.new.processors in
    let boards = with_items work.boards c.run_nodes.new.boards in
    let rows = with_items work.rows c.run_nodes.new.rows in
    let none : length c.args.entries.now ≡ length c.args.entries.now + 0 = omega arith in
    let ready = subst (λ (m : ℕ). IsReadyFor g.P.Processor.class_of g.P.Processor.code g.P.Processor.values g.P.Life.phase g.P.Life.last_setup parts work m) none c.requires.ready in
    current_left g.P.Processor.class_of g.P.Processor.code g.P.Processor.state g.P.Processor.values g.P.Processor.calls g.P.Life.phase g.P.Life.last_setup g.met.P.Processor.lawful parts work c.args.entries.now _ ins procs boards rows c.run_nodes.new.space
    (all_run_of g.P.Processor.class_of g.P.Processor.code g.P.Processor.state g.P.Processor.values g.P.Life.phase g.P.Life.last_setup (record { lanes = c.deref.result; entries = c.args.entries; from = c.args.work.now.pos; frames = c.args.n; some = _; end = _; between = _; within = _ }) ins c.deref-3.result.now work.seats.items c.deref_mut.result.now parts.processors.items c.run_nodes.new.processors procs.items c.deref_mut-2.result.now work.boards.items c.run_nodes.new.boards boards.items
    c.deref_mut-3.result.now work.rows.items c.run_nodes.new.rows rows.items work.space c.run_nodes.new.space
    c.deref-3.ensures.value c.deref_mut.ensures.value (sym (written parts.processors c.deref_mut.result.now c.run_nodes.new.processors c.deref_mut.ensures.value c.run_nodes.auto.processors))
    c.deref_mut-2.ensures.value (sym (written work.boards c.deref_mut-2.result.now c.run_nodes.new.boards c.deref_mut-2.ensures.value c.run_nodes.auto.boards))
    c.deref_mut-3.ensures.value (sym (written work.rows c.deref_mut-3.result.now c.run_nodes.new.rows c.deref_mut-3.ensures.value c.run_nodes.auto.rows))
    (record {
      run = c.run_nodes.ensures.run;
      sent = c.run_nodes.ensures.sent;
      codes = c.run_nodes.ensures.codes;
      phases = c.run_nodes.ensures.phases;
      setups = c.run_nodes.ensures.setups;
      boards_long = c.run_nodes.ensures.boards;
      rows_long = c.run_nodes.ensures.rows;
      room = c.run_nodes.ensures.room;
    }))
    c.args.n (record { lanes = c.deref.ensures.value; entries_are = refl; from = refl; frames = refl; most = c.requires.most; for = c.requires.commands }) c.requires.ins 0 ready s last

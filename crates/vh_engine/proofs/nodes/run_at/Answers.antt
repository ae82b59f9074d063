use Rattle.std.proofs.Common.{◌≡◌, ◌∙◌, ◌≤◌, ◌*◌, ℕ, List, length, get_or, ℤ, Vec, sym, ap, subst}
use Rattle.std.specs.declared.alloc.Global.{Global}
use Rattle.std.proofs.lemmas.List.{get_or_default}
use Rattle.vh_component.specs.States.{of_processing}
use Rattle.vh_counted.specs.Held.{value_of_opened}
use Rattle.vh_engine.specs.Buses.{rows_of}
use Rattle.vh_engine.specs.Runs.{HasRun}
use Rattle.vh_engine.proofs.Rows.{written, written_room, row_room, row_set_same, row_set_other, room_set}
use Rattle.vh_engine.proofs.nodes.run_at.Goals as goal

pub returns-clause-run : goal.returns-clause-run
returns-clause-run g c =
    let old = value_of_opened (of_processing c.args.processor.now) in
    let new = value_of_opened (of_processing c.run_in.new.processor) in
    let row = c.swap.new.x in
    let held : row.items ≡ c.run_in.new.out = ap (λ (r : Vec ℤ Global). r.items) c.swap.ensures.x_after ∙ written c.args.space.now.out c.deref_mut-4.result.now c.run_in.new.out c.deref_mut-4.ensures.value c.run_in.auto.out in
    subst (λ (samples : List ℤ). HasRun (g.P.Processor.class_of (g.P.Processor.code old)) (g.P.Life.last_setup old).channels c.args.span.now c.args.ins.now (rows_of c.args.rows.now) c.args.seat.now c.args.node c.args.controls.now c.run_in.new.controls
    (g.P.Processor.state old) (g.P.Processor.state new) samples) (sym (row_set_same c.args.rows.now c.args.node row c.requires.node ∙ held)) c.run_in.ensures.run

pub returns-clause-others : goal.returns-clause-others
returns-clause-others g c = λ other apart. row_set_other c.args.rows.now c.args.node other c.swap.new.x apart

pub returns-clause-room : goal.returns-clause-room
returns-clause-room g c =
    λ size params frames have is.
    let rows = c.args.rows.now in
    let node = c.args.node in
    let space = c.args.space.now in
    let row = get_or rows node c.index-rows-node.result in (
      room_set rows node size c.swap.new.x c.requires.node have
          (subst (λ (r : Vec ℤ Global). size ≤ length r.items) (sym c.swap.ensures.x_after) (written_room space.out c.deref_mut-4.result.now c.run_in.new.out size c.deref_mut-4.ensures.value c.run_in.auto.out is.out)),
      record {
        sums = written_room space.sums c.deref_mut.result.now c.run_in.new.sums size c.deref_mut.ensures.value c.run_in.auto.sums is.sums;
        main = written_room space.main c.deref_mut-2.result.now c.run_in.new.main size c.deref_mut-2.ensures.value c.run_in.auto.main is.main;
        aux = written_room space.aux c.deref_mut-3.result.now c.run_in.new.aux size c.deref_mut-3.ensures.value c.run_in.auto.aux is.aux;
        out = subst (λ (r : Vec ℤ Global). size ≤ length r.items) (sym c.swap.ensures.y_after) (row_room rows node size row have c.requires.node (get_or_default rows node c.index-rows-node.result row c.requires.node));
        queues = subst (λ (n : ℕ). params ≤ n) (sym c.run_in.ensures.most_queues) is.queues;
        points = subst (λ (n : ℕ). params * frames ≤ n) (sym c.run_in.ensures.most_points) is.points;
      },
    )

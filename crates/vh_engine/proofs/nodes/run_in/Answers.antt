use Rattle.std.proofs.Common.{◌≡◌, ◌∙◌, ℕ, List, length, drop, ℤ, Vec, sym, subst}
use Rattle.std.specs.declared.alloc.Global.{Global}
use Rattle.std.proofs.lemmas.List.{length-map, length-take-le}
use Rattle.vh_component.specs.States.{of_processing}
use Rattle.vh_counted.specs.Held.{value_of_opened}
use Rattle.vh_num.specs.Laws.{mixed}
use Rattle.vh_session.specs.declared.wire.End.{End}
use Rattle.vh_engine.specs.Buses.{rows_of, sources_of, HaveRoom}
use Rattle.vh_engine.specs.Nodes.{values_in}
use Rattle.vh_engine.proofs.Seated.{AreAuxOf, are_aux, run_seated, has_run_start, mixed_long}
use Rattle.vh_engine.proofs.nodes.run_in.Goals as goal

pub run_node-requires-clause-main : goal.run_node-requires-clause-main
run_node-requires-clause-main g c = mixed_long (length c.args.ins.now) (sources_of c.args.ins.now (rows_of c.args.rows.now) (length c.args.ins.now) c.deref.result.now) c.mix-main.result.now c.mix-main.ensures.mix ∙ c.requires.size

pub run_node-requires-clause-out : goal.run_node-requires-clause-out
run_node-requires-clause-out g c =
    length-take-le (length c.args.ins.now) c.args.out.now c.requires.out ∙ sym (mixed_long (length c.args.ins.now) (sources_of c.args.ins.now (rows_of c.args.rows.now) (length c.args.ins.now) c.deref.result.now) c.mix-main.result.now c.mix-main.ensures.mix)

pub run_node-requires-clause-aux : goal.run_node-requires-clause-aux
run_node-requires-clause-aux g c =
    let ins = c.args.ins.now in
    let rows = rows_of c.args.rows.now in
    let value = value_of_opened (of_processing c.args.processor.now) in
    let samples = c.mix_aux-aux.result.now in
    let reached = c.deref-2.result.now in
    let ends = c.args.seat.now.aux.items in
    let is : AreAuxOf (length ins) reached (sources_of ins rows (length ins) reached) samples = record { none = c.mix_aux-aux.ensures.none; some = c.mix_aux-aux.ensures.mix } in
    let are : AreAuxOf (length ins) ends (sources_of ins rows (length ins) ends) samples = subst (λ (es : List End). AreAuxOf (length ins) es (sources_of ins rows (length ins) es) samples) c.deref-2.ensures.value is in
    are_aux (g.P.Processor.class_of (g.P.Processor.code value)) (g.P.Life.last_setup value).channels c.args.span.now.frames (length ins) ends (sources_of ins rows (length ins) ends) samples are c.requires.size c.requires.ready.3.seat_is.has_aux

pub returns-clause-run : goal.returns-clause-run
returns-clause-run g c =
    let ins = c.args.ins.now in
    let vecs = c.args.rows.now in
    let rows = rows_of vecs in
    let span = c.args.span.now in
    let seat = c.args.seat.now in
    let old = value_of_opened (of_processing c.args.processor.now) in
    let new = value_of_opened (of_processing c.run_node.new.processor) in
    let channels = (g.P.Life.last_setup old).channels in
    let main = c.mix-main.result.now in
    let aux = c.mix_aux-aux.result.now in
    let reached = c.deref-2.result.now in
    let main_is : main ≡ mixed (length ins) (sources_of ins rows (length ins) seat.main.items) = subst (λ (es : List End). main ≡ mixed (length ins) (sources_of ins rows (length ins) es)) c.deref.ensures.value c.mix-main.ensures.mix in
    let is : AreAuxOf (length ins) reached (sources_of ins rows (length ins) reached) aux = record { none = c.mix_aux-aux.ensures.none; some = c.mix_aux-aux.ensures.mix } in
    let are : AreAuxOf (length ins) seat.aux.items (sources_of ins rows (length ins) seat.aux.items) aux = subst (λ (es : List End). AreAuxOf (length ins) es (sources_of ins rows (length ins) es) aux) c.deref-2.ensures.value is in
    let size = length-take-le (length ins) c.args.out.now c.requires.out in
    has_run_start (g.P.Processor.class_of (g.P.Processor.code old)) channels span ins rows seat c.args.node c.args.controls.now c.run_node.new.controls (g.P.Processor.state old) (g.P.Processor.state new) c.run_node.new.out (drop (length ins) c.args.out.now)
    (c.run_node.ensures.long ∙ size ∙ c.requires.size)
    (record {
      run = run_seated channels span.frames ins rows (length vecs) c.requires.size (sym (length-map vecs (λ (r : Vec ℤ Global). r.items))) (subst (λ (n : ℕ). HaveRoom n rows) c.requires.size c.requires.rows)
          (g.P.Processor.class_of (g.P.Processor.code old)) (values_in span c.args.node c.args.controls.now) (g.P.Processor.state old) (g.P.Processor.state new) seat main aux c.run_node.new.out c.requires.channels
          c.requires.main c.requires.aux main_is are c.run_node.ensures.run;
      behind = c.run_node.ensures.behind;
    })

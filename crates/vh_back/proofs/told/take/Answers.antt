use Rattle.std.proofs.Common.{rules, arith, ◌≡◌, ◌+◌, ◌++◌, [], ◌∷◌, List, length, refl, sym, ap, ◌∙◌, append_assoc}
use Rattle.std.proofs.lemmas.List.{append-nil, length_push}
use Rattle.rtrb.specs.Ring.{received, known_items}
use Rattle.vh_back.specs.declared.item.Item.{Item}
use Rattle.vh_back.proofs.Telling.{more_told, none_yet, as_before, then_as_before}
use Rattle.vh_back.proofs.told.take.Goals as goal

pub loop-init : goal.loop-init
loop-init g c = record {
  taken = (
    [],
    refl,
    sym (append-nil (received c.args.consumer.now)),
    refl,
    none_yet g.C.Controller.class_of g.C.Controller.code g.C.Controller.values g.met.C.Controller.lawful g.met.C.Controller.valued c.args.edits.now,
  );
  same = as_before g.C.Controller.code g.C.Controller.mode c.args.edits.now;
  ring = search rules;
}

pub loop-preserved : goal.loop-preserved
loop-preserved g c =
    let was = c.loop.invariant.taken in
    let item : Item = c.pop_known.result in
    let size : length (was.0 ++ item ∷ []) ≡ length was.0 + 1 = length_push was.0 item in
    let count = was.1 in
    record {
      taken = (
        was.0 ++ item ∷ [],
        omega arith,
        c.pop_known.ensures.received.0 ∙ ap (λ (items : List Item). items ++ item ∷ []) was.2 ∙ append_assoc (received c.args.consumer.now) was.0 (item ∷ []),
        was.3 ∙ ap (λ (items : List Item). was.0 ++ items) c.pop_known.ensures.received.1 ∙ sym (append_assoc was.0 (item ∷ []) (known_items c.pop_known.new.self)),
        more_told g.C.Controller.class_of g.C.Controller.code g.C.Controller.values c.args.edits.now c.loop.edits c.tell.new.edits was.0 item c.loop.invariant.same.codes was.4 c.tell.ensures.values,
      );
      same = then_as_before g.C.Controller.code g.C.Controller.mode c.args.edits.now c.loop.edits c.tell.new.edits c.loop.invariant.same c.tell.ensures.same;
      ring = search rules;
    }

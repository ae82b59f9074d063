use Rattle.std.proofs.Common.{◌≡◌, ◌∙◌, ℕ, ◌<◌, ◌≤◌, ◌∷◌, length, map, get_or, set, ⊎_elim, refl, sym, ap, subst, arith}
use Rattle.std.proofs.Math.Seq.{map-set_same}
use Rattle.std.proofs.lemmas.Bool.{cases_lt}
use Rattle.std.proofs.lemmas.List.{length-map, get_or-map}
use Rattle.vh_counted.specs.declared.object.Object.{Object}
use Rattle.vh_counted.specs.Held.{object_of, value_of_opened}
use Rattle.vh_instance.specs.Band.{objects_of}
use Rattle.vh_instance.specs.Seats.{no_seat, no_object, opener_seat, row_seats, AreTogether}
use Rattle.vh_hands.specs.Parts.{IsGathered, part_for}
use Rattle.vh_hands.proofs.Gathering.{seat_was, seat_other, seat_here}
use Rattle.vh_hands.proofs.Handing.{IsHandedOut, rows_none, are_in_hand, are_held}
use Rattle.vh_hands.proofs.rows.hand_out_all.Goals as goal

pub loop-node-init : goal.loop-node-init
loop-node-init g c =
    let nodes = g.E.Worked.nodes c.args.editors.now in
    let scripts = g.E.Worked.scripts c.args.editors.now in
    let long = length-map c.args.edits.now (λ edit. opener_seat edit) in
    let many = c.requires.openers in
    record {
      rows = rows_none (length scripts) nodes c.args.rows.now scripts c.requires.editors c.requires.empty;
      capacities = refl;
      values = refl;
      done = λ k lt. absurd (omega (arith, lt));
      left = λ k from lt. c.requires.gathered k no_seat (omega (arith, lt, long, many));
    }

pub hand_out_one-requires-clause-object : goal.hand_out_one-requires-clause-object
hand_out_one-requires-clause-object g c =
    let controllers = c.args.controllers.now in
    let n = c.loop-node.node in
    let d = c.index-controllers-node.result in
    let long = length-map controllers (λ controller. object_of controller) in
    let lt : n < length controllers = c.loop-node-test.true in
    ap (λ controller. object_of controller) c.index-controllers-node.is ∙ sym (get_or-map (λ controller. object_of controller) controllers n d no_object lt) ∙ c.requires.objects n no_object (omega (arith, lt, long))

pub hand_out_one-requires-clause-gathered : goal.hand_out_one-requires-clause-gathered
hand_out_one-requires-clause-gathered g c =
    let scripts = g.E.Worked.scripts c.args.editors.now in
    let n = c.loop-node.node in
    let size = c.loop-node.auto.edits in
    let many = c.requires.openers in
    let lt : n < length c.args.controllers.now = c.loop-node-test.true in
    let there : n < length c.loop-node.edits = omega (arith, lt, size, many) in
    subst (IsGathered (length scripts)) (sym (seat_was c.loop-node.edits n c.index-edits-node.result there)) (c.loop-node.invariant.left n (omega arith) lt)

pub loop-node-preserved : goal.loop-node-preserved
loop-node-preserved g c =
    let nodes = g.E.Worked.nodes c.args.editors.now in
    let scripts = g.E.Worked.scripts c.args.editors.now in
    let controllers = c.args.controllers.now in
    let n = c.loop-node.node in
    let d = c.index-controllers-node.result in
    let edits = c.loop-node.edits in
    let new = c.hand_out_one.new.opener in
    let size = c.loop-node.auto.edits in
    let many = c.requires.openers in
    let lt : n < length controllers = c.loop-node-test.true in
    let there : n < length edits = omega (arith, lt, size, many) in
    let long = length-map controllers (λ controller. object_of controller) in
    let object = ap (λ controller. object_of controller) c.index-controllers-node.is ∙ sym (get_or-map (λ controller. object_of controller) controllers n d no_object lt) ∙ c.requires.objects n no_object (omega (arith, lt, long)) in
    let invariant = c.loop-node.invariant in
    let one : IsHandedOut nodes scripts n (opener_seat new) = record {
      held = subst (λ (o : Object). AreTogether o (opener_seat new ∷ map (part_for (length scripts) nodes n) scripts)) object c.hand_out_one.ensures.held;
      references = c.hand_out_one.ensures.references;
    } in
    record {
      rows = c.hand_out_one.ensures.rows;
      capacities = c.hand_out_one.ensures.capacities ∙ invariant.capacities;
      values = map-set_same (λ edit. value_of_opened edit) edits n new c.index-edits-node.result c.hand_out_one.ensures.value ∙ invariant.values;
      done = λ k less.
          ⊎_elim
          (λ (before : k < n). subst (IsHandedOut nodes scripts k) (sym (seat_other edits n k new (λ same. omega (arith, before, same)))) (invariant.done k before))
          (λ (from : n ≤ k).
          let same : n ≡ k = omega (arith, from, less) in
          subst (λ (j : ℕ). IsHandedOut nodes scripts j (get_or (map opener_seat (set edits n new)) j no_seat)) same (subst (IsHandedOut nodes scripts n) (sym (seat_here edits n new there)) one))
          (cases_lt k n);
      left = λ k from less. subst (IsGathered (length scripts)) (sym (seat_other edits n k new (λ same. omega (arith, from, same)))) (invariant.left k (omega (arith, from)) less);
    }

pub returns-clause-hands : goal.returns-clause-hands
returns-clause-hands g c =
    let nodes = g.E.Worked.nodes c.args.editors.now in
    let scripts = g.E.Worked.scripts c.args.editors.now in
    let end = c.loop-node.auto.node-end in
    are_in_hand nodes scripts c.loop-node.node (map row_seats c.loop-node.rows) c.loop-node.invariant.rows (let size = c.requires.nodes in omega (arith, size, end, c.loop-node-test.false))

pub returns-clause-held : goal.returns-clause-held
returns-clause-held g c =
    let nodes = g.E.Worked.nodes c.args.editors.now in
    let scripts = g.E.Worked.scripts c.args.editors.now in
    let objects = length-map c.args.controllers.now (λ controller. object_of controller) in
    let openers = length-map c.loop-node.edits (λ edit. opener_seat edit) in
    let size = c.loop-node.auto.edits in
    let many = c.requires.openers in
    let end = c.loop-node.auto.node-end in
    are_held nodes scripts c.loop-node.node (map row_seats c.loop-node.rows) c.loop-node.invariant.rows (objects_of c.args.controllers.now) (map opener_seat c.loop-node.edits) (omega (arith, objects, end, c.loop-node-test.false)) (omega (arith, openers, size, many, end, c.loop-node-test.false)) c.requires.objects c.loop-node.invariant.done

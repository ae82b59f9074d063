use Rattle.std.proofs.Common.{◌≡◌, ◌∙◌, rules, ℕ, ◌+◌, ◌-◌, ◌<◌, ◌≤◌, List, ◌∷◌, length, map, get_or, set, ⊎_elim, refl, sym, ap, subst, arith}
use Rattle.std.specs.Prelude.{All}
use Rattle.std.proofs.Math.Seq.{map-set_same}
use Rattle.std.proofs.lemmas.Bool.{cases_lt}
use Rattle.std.proofs.lemmas.List.{length-map}
use Rattle.std.proofs.lemmas.List.Elements.{All-from_get_or}
use Rattle.vh_counted.specs.Held.{object_of, value_of_opened}
use Rattle.vh_instance.specs.Seats.{Seat, no_seat, opener_seat, row_seats, last_holders, without_last, AreTogether}
use Rattle.vh_hands.specs.Parts.{IsGathered}
use Rattle.vh_hands.proofs.Cuts.{cut, cut_all, cut_less, cut_some, none_left}
use Rattle.vh_hands.proofs.Gathering.{openers_count, rows_long, rows_past, is_object, held_here, own_here, editors_here, seat_was, seat_other, seat_here, gathered_one}
use Rattle.vh_hands.proofs.rows.gather_all.Goals as goal

pub loop-gathered-init : goal.loop-gathered-init
loop-gathered-init g c =
    let count = length c.args.controllers.now in
    let whole : count ≡ count - 0 = omega arith in
    let seats = map row_seats c.args.rows.now in
    record {
      rows = sym (cut_all (count - 0) seats (subst (λ (n : ℕ). All (λ (row : List Seat). length row ≡ n) seats) whole (rows_long _ c.args.controllers.now c.args.edits.now c.args.rows.now c.requires.made)));
      capacities = refl;
      values = refl;
      left = λ k lt. refl;
      done = λ k from lt. absurd (omega (arith, from, lt));
    }

pub offset_bounds-edits-node : goal.offset_bounds-edits-node
offset_bounds-edits-node g c =
    let count = openers_count _ c.args.controllers.now c.args.edits.now c.args.rows.now c.requires.made in
    let size = c.loop-gathered.auto.edits in
    let inside : length c.args.controllers.now - 1 - c.loop-gathered.gathered < length c.loop-gathered.edits = omega (arith, c.loop-gathered-test.true, count, size) in
    search rules

pub bounds-edits-node : goal.bounds-edits-node
bounds-edits-node g c =
    let count = openers_count _ c.args.controllers.now c.args.edits.now c.args.rows.now c.requires.made in
    let size = c.loop-gathered.auto.edits in
    omega (arith, c.loop-gathered-test.true, count, size)

pub gather_one-requires-clause-some : goal.gather_one-requires-clause-some
gather_one-requires-clause-some g c =
    let count = length c.args.controllers.now in
    let n = count - 1 - c.loop-gathered.gathered in
    let lt : n < count = omega (arith, c.loop-gathered-test.true) in
    let next : count - c.loop-gathered.gathered ≡ n + 1 = omega (arith, c.loop-gathered-test.true) in
    let seats = map row_seats c.args.rows.now in
    subst (λ (rows : List (List Seat)). All (λ (row : List Seat). 1 ≤ length row) rows) (sym (c.loop-gathered.invariant.rows ∙ ap (λ (m : ℕ). cut m seats) next))
    (cut_some n seats (rows_past _ c.args.controllers.now c.args.edits.now c.args.rows.now c.requires.made n lt))

pub gather_one-requires-clause-held : goal.gather_one-requires-clause-held
gather_one-requires-clause-held g c =
    let count = length c.args.controllers.now in
    let n = count - 1 - c.loop-gathered.gathered in
    let lt : n < count = omega (arith, c.loop-gathered-test.true) in
    let next : count - c.loop-gathered.gathered ≡ n + 1 = omega (arith, c.loop-gathered-test.true) in
    let before : n < count - c.loop-gathered.gathered = omega (arith, c.loop-gathered-test.true) in
    let many = openers_count _ c.args.controllers.now c.args.edits.now c.args.rows.now c.requires.made in
    let size = c.loop-gathered.auto.edits in
    let there : n < length c.loop-gathered.edits = omega (arith, lt, many, size) in
    let seats = map row_seats c.args.rows.now in
    let opener = opener_seat (get_or c.loop-gathered.edits n c.index-edits-node.result) in
    subst (λ controller. AreTogether (object_of controller) (opener ∷ last_holders (map row_seats c.loop-gathered.rows))) (sym c.index-controllers-node.is)
    (held_here _ c.args.controllers.now c.args.edits.now c.args.rows.now c.requires.made n c.index-controllers-node.result lt c.loop-gathered.rows (c.loop-gathered.invariant.rows ∙ ap (λ (m : ℕ). cut m seats) next) opener
    (seat_was c.loop-gathered.edits n c.index-edits-node.result there ∙ c.loop-gathered.invariant.left n before))

pub gather_one-requires-clause-own : goal.gather_one-requires-clause-own
gather_one-requires-clause-own g c =
    let count = length c.args.controllers.now in
    let n = count - 1 - c.loop-gathered.gathered in
    let lt : n < count = omega (arith, c.loop-gathered-test.true) in
    let next : count - c.loop-gathered.gathered ≡ n + 1 = omega (arith, c.loop-gathered-test.true) in
    let before : n < count - c.loop-gathered.gathered = omega (arith, c.loop-gathered-test.true) in
    let many = openers_count _ c.args.controllers.now c.args.edits.now c.args.rows.now c.requires.made in
    let size = c.loop-gathered.auto.edits in
    let there : n < length c.loop-gathered.edits = omega (arith, lt, many, size) in
    let seats = map row_seats c.args.rows.now in
    own_here _ c.args.controllers.now c.args.edits.now c.args.rows.now c.requires.made n c.index-controllers-node.result lt c.loop-gathered.rows (c.loop-gathered.invariant.rows ∙ ap (λ (m : ℕ). cut m seats) next)
    (opener_seat (get_or c.loop-gathered.edits n c.index-edits-node.result)) (seat_was c.loop-gathered.edits n c.index-edits-node.result there ∙ c.loop-gathered.invariant.left n before)

pub gather_one-requires-clause-editors : goal.gather_one-requires-clause-editors
gather_one-requires-clause-editors g c =
    let count = length c.args.controllers.now in
    let n = count - 1 - c.loop-gathered.gathered in
    let lt : n < count = omega (arith, c.loop-gathered-test.true) in
    let next : count - c.loop-gathered.gathered ≡ n + 1 = omega (arith, c.loop-gathered-test.true) in
    let seats = map row_seats c.args.rows.now in
    editors_here _ c.args.controllers.now c.args.edits.now c.args.rows.now c.requires.made n c.index-controllers-node.result lt c.loop-gathered.rows (c.loop-gathered.invariant.rows ∙ ap (λ (m : ℕ). cut m seats) next)

pub loop-gathered-preserved : goal.loop-gathered-preserved
loop-gathered-preserved g c =
    let editors = length c.args.rows.now in
    let controllers = c.args.controllers.now in
    let count = length controllers in
    let gathered = c.loop-gathered.gathered in
    let n = count - 1 - gathered in
    let lt : n < count = omega (arith, c.loop-gathered-test.true) in
    let next : count - gathered ≡ n + 1 = omega (arith, c.loop-gathered-test.true) in
    let after : n ≡ count - (gathered + 1) = omega (arith, c.loop-gathered-test.true) in
    let many = openers_count editors controllers c.args.edits.now c.args.rows.now c.requires.made in
    let size = c.loop-gathered.auto.edits in
    let there : n < length c.loop-gathered.edits = omega (arith, lt, many, size) in
    let seats = map row_seats c.args.rows.now in
    let edits = c.loop-gathered.edits in
    let new = c.gather_one.new.opener in
    let invariant = c.loop-gathered.invariant in
    let past = rows_past editors controllers c.args.edits.now c.args.rows.now c.requires.made n lt in
    let object = ap (λ controller. object_of controller) c.index-controllers-node.is ∙ is_object editors controllers c.args.edits.now c.args.rows.now c.requires.made n c.index-controllers-node.result lt in
    let one : IsGathered editors (opener_seat new) = gathered_one editors (length c.loop-gathered.rows) (object_of c.index-controllers-node.result) (opener_seat new) object c.loop-gathered.auto.rows c.gather_one.ensures.held c.gather_one.ensures.references in
    record {
      rows = c.gather_one.ensures.rows ∙ ap without_last (invariant.rows ∙ ap (λ (m : ℕ). cut m seats) next) ∙ cut_less n seats past ∙ ap (λ (m : ℕ). cut m seats) after;
      capacities = c.gather_one.ensures.capacities ∙ invariant.capacities;
      values = map-set_same (λ edit. value_of_opened edit) edits n new c.index-edits-node.result c.gather_one.ensures.value ∙ invariant.values;
      left = λ k less. seat_other edits n k new (λ same. omega (arith, less, same, after)) ∙ invariant.left k (omega (arith, less, after, next));
      done = λ k from less.
          ⊎_elim
          (λ (beyond : n < k). subst (IsGathered editors) (sym (seat_other edits n k new (λ same. omega (arith, beyond, same)))) (invariant.done k (omega (arith, beyond, next)) less))
          (λ (here : k ≤ n).
          let same : n ≡ k = omega (arith, here, from, after) in
          subst (λ (j : ℕ). IsGathered editors (get_or (map opener_seat (set edits n new)) j no_seat)) same (subst (IsGathered editors) (sym (seat_here edits n new there)) one))
          (cases_lt n k);
    }

pub returns-clause-gathered : goal.returns-clause-gathered
returns-clause-gathered g c =
    let edits = c.loop-gathered.edits in
    let many = openers_count _ c.args.controllers.now c.args.edits.now c.args.rows.now c.requires.made in
    let size = c.loop-gathered.auto.edits in
    let long = length-map edits (λ edit. opener_seat edit) in
    All-from_get_or (IsGathered (length c.args.rows.now)) (map opener_seat edits) no_seat (λ k lt. c.loop-gathered.invariant.done k (omega (arith, c.loop-gathered-test.false)) (omega (arith, lt, many, size, long)))

pub returns-clause-rows : goal.returns-clause-rows
returns-clause-rows g c =
    let none : length c.args.controllers.now - c.loop-gathered.gathered ≡ 0 = omega (arith, c.loop-gathered-test.false) in
    let seats = map row_seats c.args.rows.now in
    none_left c.loop-gathered.rows seats (c.loop-gathered.invariant.rows ∙ ap (λ (m : ℕ). cut m seats) none)

use Rattle.std.proofs.Common.{◌≡◌, ◌∙◌, ℕ, ◌+◌, [], ◌∷◌, ◌++◌, map, filter, get_or, cond, not, true, false, refl, sym, ap, arith}
use Rattle.std.specs.Prelude.{slice_index}
use Rattle.std.specs.List.{range_with_len}
use Rattle.std.proofs.lemmas.Bool.{eq-eqb, ne_eqb}
use Rattle.std.proofs.lemmas.List.{append_assoc, append-nil, map-append}
use Rattle.vh_core.specs.State.{Return, Echo}
use Rattle.vh_core.specs.Steps.{has_changed}
use Rattle.vh_core.specs.Kept.{return_of}
use Rattle.vh_core.specs.declared.returns.Return.TheVariants as stored
use Rattle.vh_core.proofs.Queues.{pick_next}
use Rattle.vh_core.proofs.returns.tell.Goals as goal

pub loop-place-preserved-then-value-old : goal.loop-place-preserved-then-value-old
loop-place-preserved-then-value-old c =
    let old = c.args.old.now in
    let new = c.args.new.now in
    let place = c.loop-place.place in
    let echo : ℕ → Return = λ p. Echo p (slice_index new p) in
    let told = map echo (filter (has_changed old new) (range_with_len 0 place)) in
    let same : has_changed old new place ≡ false = ap not (eq-eqb (get_or new place 0) (get_or old place 0) c.if-value-old.true) in
    let room = c.loop-place.invariant.room in
    record {
      room = omega (arith, room);
      told =
          c.loop-place.invariant.told
          ∙ ap (λ l. map return_of c.args.returns.now.items ++ l) (sym (pick_next echo (has_changed old new) place (place + 1) refl ∙ ap (λ t. told ++ map echo (cond t (place ∷ []) [])) same ∙ append-nil told));
    }

pub loop-place-preserved : goal.loop-place-preserved
loop-place-preserved c =
    let old = c.args.old.now in
    let new = c.args.new.now in
    let place = c.loop-place.place in
    let echo : ℕ → Return = λ p. Echo p (slice_index new p) in
    let told = map echo (filter (has_changed old new) (range_with_len 0 place)) in
    let before = map return_of c.args.returns.now.items in
    let other : has_changed old new place ≡ true = ap not (ne_eqb (get_or new place 0) (get_or old place 0) c.if-value-old.false) in
    let room = c.loop-place.invariant.room in
    let long = c.push_back_reserved.ensures.len in
    let same = c.push_back_reserved.ensures.capacity in
    record {
      room = omega (arith, room, long, same);
      told =
          ap (map return_of) c.push_back_reserved.ensures.items
          ∙ map-append return_of c.loop-place.returns.items (stored.Echo place (get_or new place 0) ∷ [])
          ∙ ap (λ l. l ++ echo place ∷ []) c.loop-place.invariant.told
          ∙ append_assoc before told (echo place ∷ [])
          ∙ ap (λ l. before ++ l) (sym (pick_next echo (has_changed old new) place (place + 1) refl ∙ ap (λ t. told ++ map echo (cond t (place ∷ []) [])) other));
    }

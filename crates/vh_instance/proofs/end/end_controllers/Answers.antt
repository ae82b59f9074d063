use Rattle.std.proofs.Common.{◌≡◌, ℕ, ◌+◌, ◌≤◌, List, ◌∷◌, length, map, Vec, sym, ap, subst, ◌∙◌, arith}
use Rattle.std.specs.Prelude.{All}
use Rattle.std.specs.declared.alloc.Global.{Global}
use Rattle.std.proofs.lemmas.List.{length_push, with_items_is}
use Rattle.vh_counted.specs.declared.object.Counted.{Counted}
use Rattle.vh_counted.specs.declared.object.Holder.{Holder}
use Rattle.vh_counted.specs.Held.{object_of}
use Rattle.vh_instance.specs.Raised.{raised_times}
use Rattle.vh_instance.specs.Seats.{Seat, opener_seat, row_seats, last_holders, without_last, AreTogether, AreHeld}
use Rattle.vh_instance.specs.Band.{objects_of}
use Rattle.vh_instance.proofs.Counting.{raised_less}
use Rattle.vh_instance.proofs.Ends.{edits_size, rows_some, last_controller, front_controllers, rows_empty}
use Rattle.vh_instance.proofs.end.end_controllers.Goals as goal

pub take_last-opener-requires : goal.take_last-opener-requires
take_last-opener-requires g c =
    let size = edits_size c.loop.controllers.items c.loop.edits.items (map row_seats c.loop.holders.items) c.loop.invariant.held in
    omega (arith, size, c.take_last-controller.ensures.len, c.loop.controllers.ok.0, c.loop.edits.ok.0)

pub join_all-requires-clause-some : goal.join_all-requires-clause-some
join_all-requires-clause-some g c =
    subst (λ (rows : List (Vec (Holder g.row.S-C.Denot) Global)). All (λ (row : List Seat). 1 ≤ length row) (map row_seats rows)) (sym c.deref_mut.ensures.value)
    (rows_some c.loop.controllers.items c.take_last-controller.new.self.items c.take_last-controller.result c.loop.edits.items c.take_last-opener.new.self.items c.take_last-opener.result (map row_seats c.loop.holders.items) c.take_last-controller.ensures.items c.take_last-opener.ensures.items c.loop.invariant.held)

pub join_all-requires-clause-held : goal.join_all-requires-clause-held
join_all-requires-clause-held g c =
    subst (λ (rows : List (Vec (Holder g.row.S-C.Denot) Global)). AreTogether (object_of c.take_last-controller.result) (opener_seat c.take_last-opener.result ∷ last_holders (map row_seats rows))) (sym c.deref_mut.ensures.value)
    (last_controller c.loop.controllers.items c.take_last-controller.new.self.items c.take_last-controller.result c.loop.edits.items c.take_last-opener.new.self.items c.take_last-opener.result (map row_seats c.loop.holders.items) c.take_last-controller.ensures.items c.take_last-opener.ensures.items c.loop.invariant.held)

pub loop-preserved : goal.loop-preserved
loop-preserved g c =
    let invariant = c.loop.invariant in
    let ended = c.end_controller.ensures in
    let rest = c.take_last-controller.new.self.items in
    let others = c.take_last-opener.new.self.items in
    let rows = c.loop.holders.items in
    let less : length c.loop.controllers.items ≡ length rest + 1 = ap (λ (xs : List (Counted g.row.S-C.Denot)). length xs) c.take_last-controller.ensures.items ∙ length_push rest c.take_last-controller.result in
    let written = with_items_is c.loop.holders c.join_all.new.holders (c.join_all.auto.holders ∙ c.deref_mut.ensures.len) in
    let rows_are =
    ap (λ (xs : List (Vec (Holder g.row.S-C.Denot) Global)). map row_seats xs) written ∙ c.join_all.ensures.rows ∙ ap (λ (xs : List (Vec (Holder g.row.S-C.Denot) Global)). without_last (map row_seats xs)) c.deref_mut.ensures.value in
    record {
      left = omega (arith, less, invariant.left);
      held = subst (λ (others_of : List (List Seat)). AreHeld (objects_of rest) (map opener_seat others ∷ others_of)) (sym rows_are)
          (front_controllers c.loop.controllers.items rest c.take_last-controller.result c.loop.edits.items others c.take_last-opener.result (map row_seats rows) c.take_last-controller.ensures.items c.take_last-opener.ensures.items invariant.held);
      ended = ap (λ (k : ℕ). raised_times (length rest) k) ended.ended ∙ raised_less (length rest) (length c.loop.controllers.items) (g.S.PluginSet.ended c.loop.set) less ∙ invariant.ended;
      work = ended.work ∙ invariant.work;
      made = ended.made ∙ invariant.made;
      infos = ended.infos ∙ invariant.infos;
      codes = λ class. ended.codes class ∙ invariant.codes class;
    }

pub destroy_empty-requires-2 : goal.destroy_empty-requires-2
destroy_empty-requires-2 g c =
    let size = edits_size c.loop.controllers.items c.loop.edits.items (map row_seats c.loop.holders.items) c.loop.invariant.held in
    omega (arith, size, c.loop.invariant.left, c.loop-test.false, c.len-end.ensures, c.args.controllers.ok.0, c.loop.controllers.ok.0, c.loop.edits.ok.0)

pub destroy_rows-requires : goal.destroy_rows-requires
destroy_rows-requires g c =
    let none : length c.loop.controllers.items ≡ 0 = omega (arith, c.loop.invariant.left, c.loop-test.false, c.len-end.ensures, c.args.controllers.ok.0) in
    rows_empty c.loop.controllers.items (map opener_seat c.loop.edits.items) c.loop.holders.items c.loop.invariant.held none

use Rattle.std.proofs.Common.{◌≡◌, ◌∙◌, ℕ, ◌<◌, ◌≤◌, ◌^◌, List, length, Vec, sym, ap, subst, arith}
use Rattle.std.specs.Prelude.{All}
use Rattle.std.proofs.lemmas.List.{length-map}
use Rattle.std.specs.declared.alloc.Global.{Global}
use Rattle.std.specs.Vec.{with_items}
use Rattle.std.proofs.lemmas.List.{with_items_is}
use Rattle.vh_component.specs.declared.states.Processing.{Processing}
use Rattle.vh_engine.specs.declared.control.Control.{Control}
use Rattle.vh_engine.specs.Seen.{seen_of_all, AreShown}
use Rattle.vh_engine.specs.Staged.{of_all, boards_of, board_at}
use Rattle.vh_engine.proofs.Remade.{seen_anew}
use Rattle.vh_engine.proofs.Shown.{are_shown, are_within, seen_of_kept}
use Rattle.vh_engine.proofs.block.show.Goals as goal

pub see-requires-clause-shown : goal.see-requires-clause-shown
see-requires-clause-shown g c =
    let parts = c.args.parts.now in
    subst (λ (l : List (Processing g.row.P.Denot)). AreShown g.P.Processor.class_of (of_all g.P.Processor.code l) (boards_of c.deref-2.result.now)) (sym c.deref.ensures.value)
    (subst (λ (l : List (Vec Control Global)). AreShown g.P.Processor.class_of (of_all g.P.Processor.code parts.processors.items) (boards_of l)) (sym c.deref-2.ensures.value)
    (are_shown g.P.Processor.class_of g.P.Processor.code g.P.Processor.values g.P.Life.phase g.P.Life.last_setup parts c.args.work.now 0 c.requires.ready))

pub see-requires-clause-sent : goal.see-requires-clause-sent
see-requires-clause-sent g c = λ node lt.
    let parts = c.args.parts.now in
    let work = c.args.work.now in
    let within : node < length (boards_of work.boards.items) = let items = ap (λ (l : List (Vec Control Global)). length l) c.deref-2.ensures.value in let long = length-map work.boards.items (λ (board : Vec Control Global). board.items) in omega (arith, lt, items, long) in
    subst (λ (l : List (Vec Control Global)). All (λ control. control.sent ≤ 2 ^ 24) (board_at (boards_of l) node)) (sym c.deref-2.ensures.value)
    (are_within g.P.Processor.class_of g.P.Processor.code g.P.Processor.values g.P.Life.phase g.P.Life.last_setup parts work 0 c.requires.ready node within)

pub returns-clause-ready : goal.returns-clause-ready
returns-clause-ready g c =
    λ room ready.
    let values = c.args.work.now.values in
    let anew : Vec ℕ Global = with_items values c.see.new.values in
    let is : anew.items ≡ c.see.new.values = with_items_is values c.see.new.values (c.see.auto.values ∙ c.deref_mut.ensures.len) in
    seen_anew g.P.Processor.class_of g.P.Processor.code g.P.Processor.values g.P.Life.phase g.P.Life.last_setup c.args.parts.now c.args.work.now room ready anew (sym anew.ok.0 ∙ values.ok.0)
    (subst (λ (l : List ℕ). All (λ value. value ≤ 2 ^ 24) l) (sym is) c.see.ensures.within)

pub returns-clause-values : goal.returns-clause-values
returns-clause-values g c =
    λ s current.
    let parts = c.args.parts.now in
    let work = c.args.work.now in
    with_items_is work.values c.see.new.values (c.see.auto.values ∙ c.deref_mut.ensures.len)
    ∙ c.see.ensures.seen
    ∙ ap (λ (l : List (Processing g.row.P.Denot)). seen_of_all g.P.Processor.class_of (of_all g.P.Processor.code l) (of_all g.P.Processor.state l) (boards_of c.deref-2.result.now)) c.deref.ensures.value
    ∙ ap (λ (l : List (Vec Control Global)). seen_of_all g.P.Processor.class_of (of_all g.P.Processor.code parts.processors.items) (of_all g.P.Processor.state parts.processors.items) (boards_of l)) c.deref-2.ensures.value
    ∙ seen_of_kept g.P.Processor.class_of g.P.Processor.code g.P.Processor.values g.P.Life.phase g.P.Life.last_setup parts work 0 c.requires.ready g.P.Processor.state g.P.Processor.calls s current

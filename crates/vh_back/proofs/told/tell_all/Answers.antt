use Rattle.std.proofs.Common.{◌≡◌, ◌+◌, ◌++◌, [], ◌∷◌, ℕ, List, take, sym, ap, subst, ◌∙◌}
use Rattle.std.proofs.lemmas.List.{take_more}
use Rattle.vh_back.specs.declared.item.Item.{Item}
use Rattle.vh_back.specs.Items.{last_value}
use Rattle.vh_back.specs.Follows.{of_openers, AreFollowed}
use Rattle.vh_back.proofs.Telling.{more_told, none_yet, as_before, then_as_before}
use Rattle.vh_back.proofs.told.tell_all.Goals as goal

pub loop-item-init : goal.loop-item-init
loop-item-init g c = record {
  follows = none_yet g.C.Controller.class_of g.C.Controller.code g.C.Controller.values g.met.C.Controller.lawful g.met.C.Controller.valued c.args.edits.now;
  same = as_before g.C.Controller.code g.C.Controller.mode c.args.edits.now;
}

pub loop-item-preserved : goal.loop-item-preserved
loop-item-preserved g c =
    let all : List Item = c.args.items.now in
    let place : ℕ = c.loop-item.item-index in
    let item : Item = c.item-item.result in
    let before = c.loop-item.invariant in
    let more : take (place + 1) all ≡ take place all ++ item ∷ [] =
    take_more all place item c.loop-item-test.true ∙ ap (λ (one : Item). take place all ++ one ∷ []) (sym c.item-item.is) in
    record {
      follows = subst (λ (items : List Item). AreFollowed g.C.Controller.class_of (last_value items) (of_openers g.C.Controller.code c.args.edits.now) (of_openers g.C.Controller.values c.args.edits.now) (of_openers g.C.Controller.values c.tell.new.edits)) (sym more)
          (more_told g.C.Controller.class_of g.C.Controller.code g.C.Controller.values c.args.edits.now c.loop-item.edits c.tell.new.edits (take place all) item before.same.codes before.follows c.tell.ensures.values);
      same = then_as_before g.C.Controller.code g.C.Controller.mode c.args.edits.now c.loop-item.edits c.tell.new.edits before.same c.tell.ensures.same;
    }

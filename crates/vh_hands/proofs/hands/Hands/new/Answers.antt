use Rattle.std.proofs.Common.{List, sym, subst}
use Rattle.vh_back.specs.declared.item.Item.{Item}
use Rattle.vh_back.specs.Items.{last_value}
use Rattle.vh_back.specs.Follows.{of_openers, AreFollowed}
use Rattle.vh_back.proofs.Following.{valued_openers}
use Rattle.vh_back.proofs.Telling.{none_yet}
use Rattle.vh_hands.proofs.hands.Hands.new.Goals as goal

pub returns-clause-following : goal.returns-clause-following
returns-clause-following g c =
    let class_of = g.C.Controller.class_of in
    let code = g.C.Controller.code in
    let values = g.C.Controller.values in
    let edits = c.args.edits.items in
    let are = valued_openers class_of code values g.met.C.Controller.lawful g.met.C.Controller.valued edits in
    record {
      size = are.long;
      sizes = λ node lt. (are.each node lt).each;
      followed = subst (λ (items : List Item). AreFollowed class_of (last_value items) (of_openers code edits) (of_openers values edits) (of_openers values edits)) (sym c.requires)
          (none_yet class_of code values g.met.C.Controller.lawful g.met.C.Controller.valued edits);
    }

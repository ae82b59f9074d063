use Rattle.std.proofs.Common.{take}
use Rattle.vh_back.specs.Items.{last_value}
use Rattle.vh_back.specs.Follows.{of_openers, AreFollowed, AreAsBefore}
use Rattle.vh_back.proofs.told.tell_all.Given as goal

abbrev pub invariant-loop-item : goal.invariant-loop-item
invariant-loop-item g l = record {
  follows : AreFollowed g.C.Controller.class_of (last_value (take l.item-index l.items)) (of_openers g.C.Controller.code l.initial.edits) (of_openers g.C.Controller.values l.initial.edits) (of_openers g.C.Controller.values l.edits);
  same : AreAsBefore g.C.Controller.code g.C.Controller.mode l.initial.edits l.edits;
}

use Rattle.std.proofs.Common.{◌≡◌, ◌≤◌, ℕ, List}
use Rattle.vh_back.specs.Items.{last_value}
use Rattle.vh_back.specs.Follows.{of_openers, AreFollowed, AreAsBefore}
use Rattle.vh_hands.proofs.follow.follow_until.Given as goal

abbrev pub invariant-loop : goal.invariant-loop
invariant-loop g l = record {
  follow : (firsts : List (List ℕ)) → AreFollowed g.C.Controller.class_of (last_value l.initial.follower.received) (of_openers g.C.Controller.code l.initial.edits) firsts (of_openers g.C.Controller.values l.initial.edits)
      → AreFollowed g.C.Controller.class_of (last_value l.follower.received) (of_openers g.C.Controller.code l.initial.edits) firsts (of_openers g.C.Controller.values l.edits);
  same : AreAsBefore g.C.Controller.code g.C.Controller.mode l.initial.edits l.edits;
  ring : l.follower.ring ≡ l.initial.follower.ring;
  idle : l.idle ≤ 16777216;
}

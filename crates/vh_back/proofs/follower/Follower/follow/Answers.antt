use Rattle.std.proofs.Common.{◌≡◌, ◌++◌, ℕ, List, sym, ap, subst, ◌∙◌}
use Rattle.rtrb.specs.Ring.{received}
use Rattle.vh_back.specs.declared.item.Item.{Item}
use Rattle.vh_back.specs.Items.{last_value}
use Rattle.vh_back.specs.Ends.{AtFollower}
use Rattle.vh_back.specs.Follows.{of_openers, AreFollowed}
use Rattle.vh_back.proofs.Telling.{goes_on}
use Rattle.vh_back.proofs.follower.Follower.follow.Goals as goal

pub returns-clause-follow : goal.returns-clause-follow
returns-clause-follow g c = λ firsts before_follow.
    let codes : List ℕ = of_openers g.C.Controller.code c.args.edits.now in
    let new : List (List ℕ) = of_openers g.C.Controller.values c.take.new.edits in
    let taken = c.take.ensures.taken in
    let before : List Item = c.args.self.now.received in
    let all : received c.take.new.consumer ≡ before ++ taken.0 =
    taken.2 ∙ ap (λ (items : List Item). items ++ taken.0) (c.slots-count.ensures.looked.1 ∙ ap (λ (f : AtFollower). f.received) c.self.view_is) in
    subst (λ (items : List Item). AreFollowed g.C.Controller.class_of (last_value items) codes firsts new) (sym all)
    (goes_on g.C.Controller.class_of codes before taken.0 firsts (of_openers g.C.Controller.values c.args.edits.now) new before_follow taken.4)

use Rattle.std.proofs.Common.{◌≡◌, ◌+◌, ◌≤◌, ◌++◌, ℕ, [], ◌∷◌, List, true, sym, ap, subst, ◌∙◌, arith}
use Rattle.std.specs.List.{list_all}
use Rattle.std.specs.Option.{option_or}
use Rattle.rtrb.specs.Ring.{sent}
use Rattle.vh_back.specs.declared.item.Item.{Item}
use Rattle.vh_back.specs.Items.{put, replies, value_for, last_value}
use Rattle.vh_back.specs.Ends.{AtSender, offered}
use Rattle.vh_back.specs.Inner.{IsKept}
use Rattle.vh_back.proofs.Keeping.{put_in, kept_fits, kept_rest}
use Rattle.vh_back.proofs.Offering.{moved_on, offered_last, offered_replies, offered_more}
use Rattle.vh_back.proofs.sender.Sender.offer.Goals as goal

pub pass_on-requires-clause-room : goal.pass_on-requires-clause-room
pass_on-requires-clause-room c =
    let kept = put_in c.self.inside c.args.self.now c.args.item c.self.view_is c.self.invariant c.requires.within c.requires.may in
    let fits = kept_fits c.self.inside.params c.self.inside.tells (put c.args.item c.self.inside.kept.items) kept in
    omega (arith, fits, c.self.invariant.room)

pub invariant_of-self : goal.invariant_of-self
invariant_of-self c =
    let kept = put_in c.self.inside c.args.self.now c.args.item c.self.view_is c.self.invariant c.requires.within c.requires.may in
    let moved = c.pass_on.ensures.moved in
    record {
      kept = kept_rest c.self.inside.params c.self.inside.tells moved.0 c.pass_on.new.kept.items (subst (λ (items : List Item). IsKept c.self.inside.params c.self.inside.tells items) moved.2 kept);
      room = subst (λ (n : ℕ). c.self.inside.params + c.self.inside.tells ≤ n) (sym c.pass_on.ensures.capacity) c.self.invariant.room;
    }

pub returns-clause-last : goal.returns-clause-last
returns-clause-last c =
    let moved = c.pass_on.ensures.moved in
    let old : List Item = sent c.self.inside.producer in
    let kept : List Item = c.self.inside.kept.items in
    let now : List Item = sent c.pass_on.new.producer ++ c.pass_on.new.kept.items in
    let all : now ≡ old ++ put c.args.item kept = moved_on old moved.0 c.pass_on.new.kept.items (put c.args.item kept) (sent c.pass_on.new.producer) moved.1 moved.2 in
    λ one. subst (λ (s : AtSender). last_value now one ≡ option_or (value_for one c.args.item) (last_value (offered s) one)) c.self.view_is
    (ap (λ (items : List Item). last_value items one) all ∙ offered_last old kept c.args.item one c.self.invariant.kept.apart)

pub returns-clause-replies : goal.returns-clause-replies
returns-clause-replies c =
    let moved = c.pass_on.ensures.moved in
    let old : List Item = sent c.self.inside.producer in
    let kept : List Item = c.self.inside.kept.items in
    let now : List Item = sent c.pass_on.new.producer ++ c.pass_on.new.kept.items in
    let all : now ≡ old ++ put c.args.item kept = moved_on old moved.0 c.pass_on.new.kept.items (put c.args.item kept) (sent c.pass_on.new.producer) moved.1 moved.2 in
    subst (λ (s : AtSender). replies now ≡ replies (offered s) ++ replies (c.args.item ∷ [])) c.self.view_is (ap replies all ∙ offered_replies old kept c.args.item)

pub returns-clause-only : goal.returns-clause-only
returns-clause-only c =
    let moved = c.pass_on.ensures.moved in
    let old : List Item = sent c.self.inside.producer in
    let kept : List Item = c.self.inside.kept.items in
    let now : List Item = sent c.pass_on.new.producer ++ c.pass_on.new.kept.items in
    let all : now ≡ old ++ put c.args.item kept = moved_on old moved.0 c.pass_on.new.kept.items (put c.args.item kept) (sent c.pass_on.new.producer) moved.1 moved.2 in
    λ test passes. subst (λ (items : List Item). list_all test items ≡ true) (sym all)
    (offered_more test old kept c.args.item (subst (λ (s : AtSender). list_all test (offered s ++ c.args.item ∷ []) ≡ true) (sym c.self.view_is) passes))

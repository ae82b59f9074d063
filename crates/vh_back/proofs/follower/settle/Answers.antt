use Rattle.std.proofs.Common.{arith, ◌≡◌, ◌+◌, ◌++◌, ℕ, [], List, length, sym, ap, subst, ◌∙◌, append_assoc, length-append}
use Rattle.std.proofs.lemmas.List.{append-nil, nil_from_length}
use Rattle.rtrb.specs.Ring.{sent, received, known_items}
use Rattle.vh_back.specs.declared.item.Item.{Item}
use Rattle.vh_back.specs.Items.{last_value}
use Rattle.vh_back.specs.Ends.{AtFollower, offered}
use Rattle.vh_back.specs.Follows.{of_openers, AreFollowed}
use Rattle.vh_back.proofs.Telling.{goes_on, both_told}
use Rattle.vh_back.proofs.follower.settle.Goals as goal

pub returns-clause-follow : goal.returns-clause-follow
returns-clause-follow g c = λ firsts before_follow.
    let class_of = g.C.Controller.class_of in
    let code = g.C.Controller.code in
    let values = g.C.Controller.values in
    let old = c.args.edits.now in
    let codes : List ℕ = of_openers code old in
    let new : List (List ℕ) = of_openers values c.tell_all-2.new.edits in
    let taken = c.take.ensures.taken in
    let before : List Item = c.args.follower.received in
    let front : List Item = c.as_slices.result.0.now in
    let back : List Item = c.as_slices.result.1.now in
    let looked = c.slots_beside-count.ensures in
    let known : List Item = known_items c.slots_beside-count.new.self in
    let here : received c.slots_beside-count.new.self ≡ before = looked.looked.1 ∙ ap (λ (f : AtFollower). f.received) c.follower.view_is in
    let split : length known ≡ length taken.0 + length (known_items c.take.new.consumer) = ap length taken.3 ∙ length-append taken.0 (known_items c.take.new.consumer) in
    let count = taken.1 in
    let counted = looked.value in
    let none : known_items c.take.new.consumer ≡ [] = nil_from_length (known_items c.take.new.consumer) (omega arith) in
    let whole : known ≡ taken.0 = taken.3 ∙ ap (λ (items : List Item). taken.0 ++ items) none ∙ append-nil taken.0 in
    let in_ring : before ++ taken.0 ≡ sent c.sender.inside.producer = (λ i. sym here i ++ sym whole i) ∙ looked.fifo ∙ looked.producer.1 in
    let all : before ++ ((taken.0 ++ front) ++ back) ≡ offered c.args.sender =
    ap (λ (items : List Item). before ++ items) (append_assoc taken.0 front back)
    ∙ sym (append_assoc before taken.0 (front ++ back))
    ∙ (λ i. in_ring i ++ c.as_slices.ensures i)
    ∙ ap offered c.sender.view_is in
    let two = both_told class_of code values old c.take.new.edits c.tell_all.new.edits taken.0 front c.take.ensures.same.codes taken.4 c.tell_all.ensures.values in
    let three = both_told class_of code values old c.tell_all.new.edits c.tell_all-2.new.edits (taken.0 ++ front) back (c.tell_all.ensures.same.codes ∙ c.take.ensures.same.codes) two c.tell_all-2.ensures.values in
    subst (λ (items : List Item). AreFollowed class_of (last_value items) codes firsts new) all (goes_on class_of codes before ((taken.0 ++ front) ++ back) firsts (of_openers values old) new before_follow three)

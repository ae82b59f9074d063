-- What a sender keeps after an offer, and after it sent.
use Rattle.std.proofs.Common.{◌≡◌, ◌<◌, ◌≤◌, ◌+◌, ℕ, Bool, true, List, [], ◌∷◌, ◌++◌, length, Some, None, if◌then◌else◌, refl, sym, ap, subst, ◌∙◌, inl, inr, arith, length-append}
use Rattle.std.specs.List.{list_all, position, position_or_len, slice_get, IsDistinct}
use Rattle.std.proofs.lemmas.Bool.{and_parts, cases_lt, lt-ltb}
use Rattle.std.proofs.lemmas.Option.{none-some, same_Some}
use Rattle.std.proofs.lemmas.List.{append-nil}
use Rattle.std.proofs.lemmas.List.Elements.{filter_map-append}
use Rattle.std.proofs.lemmas.List.Folds.{list_all-append}
use Rattle.vh_params.specs.declared.command.Reply.{Reply as Answer}
use Rattle.vh_back.specs.declared.item.Parameter.{Parameter}
use Rattle.vh_back.specs.declared.item.Item.{Item}
use Rattle.vh_back.specs.declared.item.Item.TheVariants.{Echo, Reply}
use Rattle.vh_back.specs.Items.{is_same, parameter_of, reply_of, is_within, is_among, echoed, replies, put}
use Rattle.vh_back.specs.Ends.{AtSender, MayOffer, offered}
use Rattle.vh_back.specs.declared.sender.Sender.TheInside.{Inside as Sends}
use Rattle.vh_back.specs.Inner.{IsKept, IsSender, at_sender}
use Rattle.vh_back.proofs.Puts.{all_put, replies_put, reply_put, apart_put}
use Rattle.vh_back.proofs.Few.{few, echoed_among}

-- where nothing passes, the place is the length
pub missing : (test : Item → Bool) (items : List Item) → position test items ≡ None → length items ≤ position_or_len test items
missing test items is =
    let place : ℕ = position_or_len test items in
    elim (cases_lt place (length items)) [
      | inl within ↦
          let found : position test items ≡ Some place = ap (λ (b : Bool). if b then Some place else None) (lt-ltb place (length items) within) in
          absurd (none-some place (sym is ∙ found))
      | inr beyond ↦ beyond
    ]

pub first_passes : (test : Item → Bool) (items : List Item) (item : Item) → slice_get items 0 ≡ Some item → list_all test items ≡ true → test item ≡ true
first_passes test [] item is all = absurd (none-some item is)
first_passes test (first ∷ items) item is all =
    subst (λ (i : Item). test i ≡ true) (same_Some first item is) (and_parts (test first) (list_all test items) all).0

pub none_first : (items : List Item) → slice_get items 0 ≡ None → 0 < length items → ⊥
none_first [] is some = omega arith
none_first (first ∷ items) is some = none-some first (sym is)

-- each item is an echo or a reply
pub counted : (items : List Item) → length items ≡ length (echoed items) + length (replies items)
counted [] = omega arith
counted (Echo node id value after last ∷ items) = let rest : length items ≡ length (echoed items) + length (replies items) = counted items in omega arith
counted (Reply reply ∷ items) = let rest : length items ≡ length (echoed items) + length (replies items) = counted items in omega arith

pub kept_fits : (params tells : ℕ) (kept : List Item) → IsKept params tells kept → length kept ≤ params + tells
kept_fits params tells kept is = let all = counted kept in let echoes = is.echoes in let answers = is.answers in omega arith

all_of : (test : Item → Bool) (items more : List Item) → list_all test (items ++ more) ≡ true → (list_all test items ≡ true) × (list_all test more ≡ true)
all_of test items more all = and_parts (list_all test items) (list_all test more) (sym (list_all-append test items more) ∙ all)

-- what was kept, an echo more
echo_kept : (sender : AtSender) (node id value after : ℕ) (last : Bool) → IsKept sender.params sender.tells sender.kept → is_within (Echo node id value after last) ≡ true
    → MayOffer sender (Echo node id value after last) → IsKept sender.params sender.tells (put (Echo node id value after last) sender.kept)
echo_kept sender node id value after last is within may =
    let echo : Item = Echo node id value after last in
    let among = all_of (is_among may.parameters) (sender.sent ++ sender.kept) (echo ∷ []) may.among in
    let kept = all_of (is_among may.parameters) sender.sent sender.kept among.0 in
    let this = and_parts (is_among may.parameters echo) true among.1 in
    let apart = apart_put echo sender.kept is.apart in
    let most : length (echoed (put echo sender.kept)) ≤ length may.parameters =
    few (echoed (put echo sender.kept)) may.parameters apart (echoed_among may.parameters (put echo sender.kept) (all_put (is_among may.parameters) echo sender.kept kept.1 this.0)) in
    let same : replies (put echo sender.kept) ≡ replies sender.kept = replies_put echo sender.kept ∙ append-nil (replies sender.kept) in
    let limit = may.few in
    record {
      within = all_put is_within echo sender.kept is.within within;
      apart = apart;
      echoes = omega arith;
      answers = subst (λ (answers : List Answer). length answers ≤ sender.tells) (sym same) is.answers;
    }

-- and a reply more
reply_kept : (sender : AtSender) (reply : Answer) → IsKept sender.params sender.tells sender.kept → MayOffer sender (Reply reply) → IsKept sender.params sender.tells (put (Reply reply) sender.kept)
reply_kept sender reply is may =
    let item : Item = Reply reply in
    let behind = reply_put reply sender.kept in
    let echoes : echoed (put item sender.kept) ≡ echoed sender.kept = ap echoed behind ∙ filter_map-append parameter_of sender.kept (item ∷ []) ∙ append-nil (echoed sender.kept) in
    let answers : length (replies (put item sender.kept)) ≡ length (replies sender.kept) + 1 = ap length (replies_put item sender.kept) ∙ length-append (replies sender.kept) (reply ∷ []) in
    let all : length (replies (offered sender)) ≡ length (replies sender.sent) + length (replies sender.kept) =
    ap length (filter_map-append reply_of sender.sent sender.kept) ∙ length-append (replies sender.sent) (replies sender.kept) in
    record {
      within = all_put is_within item sender.kept is.within refl;
      apart = apart_put item sender.kept is.apart;
      echoes = subst (λ (ones : List Parameter). length ones ≤ sender.params) (sym echoes) is.echoes;
      answers = let limit : length (replies (offered sender)) < sender.tells = may in omega arith;
    }

pub put_kept : (sender : AtSender) (item : Item) → IsKept sender.params sender.tells sender.kept → is_within item ≡ true → MayOffer sender item → IsKept sender.params sender.tells (put item sender.kept)
put_kept sender (Echo node id value after last) is within may = echo_kept sender node id value after last is within may
put_kept sender (Reply reply) is within may = reply_kept sender reply is may

-- what is left where the first were sent
distinct_rest : (ones others : List Parameter) → IsDistinct is_same (ones ++ others) → IsDistinct is_same others
unfolding IsDistinct
distinct_rest [] others apart = apart
distinct_rest (one ∷ ones) others apart = distinct_rest ones others apart.1

pub kept_rest : (params tells : ℕ) (items rest : List Item) → IsKept params tells (items ++ rest) → IsKept params tells rest
kept_rest params tells items rest is =
    let echoes = filter_map-append parameter_of items rest in
    let answers = filter_map-append reply_of items rest in
    let more : length (echoed (items ++ rest)) ≡ length (echoed items) + length (echoed rest) = ap length echoes ∙ length-append (echoed items) (echoed rest) in
    let told : length (replies (items ++ rest)) ≡ length (replies items) + length (replies rest) = ap length answers ∙ length-append (replies items) (replies rest) in
    let most = is.echoes in
    let tells' = is.answers in
    record {
      within = (all_of is_within items rest is.within).1;
      apart = distinct_rest (echoed items) (echoed rest) (subst (λ (ones : List Parameter). IsDistinct is_same ones) echoes is.apart);
      echoes = omega arith;
      answers = omega arith;
    }

-- what is left of a ring with nothing kept
pub nothing_kept : (params tells : ℕ) → IsKept params tells []
unfolding IsDistinct
nothing_kept params tells = record { within = refl; apart = tt; echoes = omega arith; answers = omega arith }

-- so the sender's fields
pub put_in : (sender : Sends) (value : AtSender) (item : Item) → at_sender sender ≡ value → IsSender sender → is_within item ≡ true → MayOffer value item
    → IsKept sender.params sender.tells (put item sender.kept.items)
put_in sender value item is kept within may = put_kept (at_sender sender) item kept.kept within (subst (λ (s : AtSender). MayOffer s item) (sym is) may)

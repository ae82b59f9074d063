use Rattle.std.proofs.Common.{◌≡◌, ℕ, ◌≤◌, ◌-◌, List, [], ◌∷◌, ◌++◌, length, get_or, drop, sym, ap, ◌∙◌, arith}
use Rattle.std.specs.Option.{option_copied_mut}
use Rattle.std.specs.List.{position_or_len}
use Rattle.std.proofs.lemmas.List.Quantifiers.{position-Some}
use Rattle.std.proofs.lemmas.List.Sums.{fails_before_first}
use Rattle.std.proofs.lemmas.Option.{none-some, slice_get-get_or}
use Rattle.circular_buffer.specs.Buffer.{buffer}
use Rattle.vh_back.specs.declared.item.Item.{Item}
use Rattle.vh_back.specs.Items.{replaces, put}
use Rattle.vh_back.proofs.Puts.{put_at, put_behind}
use Rattle.vh_back.proofs.Keeping.{missing}
use Rattle.vh_back.proofs.sender.keep.Goals as goal

pub returns-in-Some-get_mut : goal.returns-in-Some-get_mut
returns-in-Some-get_mut c =
    let item : Item = c.args.item in
    let kept : List Item = c.args.kept.now.items in
    let found = position-Some (replaces item) kept c.in-Some.at item (sym c.place_of.ensures ∙ c.in-Some.is) in
    ap (λ (items : List Item). buffer items c.args.kept.now.capacity) (sym (put_at item kept c.in-Some.at item found.0 found.1 found.2))

pub returns-in-None : goal.returns-in-None
returns-in-None c =
    let item : Item = c.args.item in
    let kept : List Item = c.args.kept.now.items in
    let capacity : ℕ = c.args.kept.now.capacity in
    let beyond : length kept ≤ position_or_len (replaces item) kept = missing (replaces item) kept (sym c.place_of.ensures ∙ c.in-None.is) in
    let behind : put item kept ≡ kept ++ item ∷ [] = put_behind item kept item (λ k lt. fails_before_first (replaces item) kept k item (omega arith)) in
    let fits : length (kept ++ item ∷ []) - capacity ≡ 0 = let size = ap length behind in let room : length (put item kept) ≤ capacity = c.requires in omega arith in
    c.push_back.ensures.items
    ∙ ap (λ (n : ℕ). buffer (drop n (kept ++ item ∷ [])) capacity) fits
    ∙ ap (λ (items : List Item). buffer items capacity) (sym behind)

pub returns-in_default : goal.returns-in_default
returns-in_default c =
    let item : Item = c.args.item in
    let kept : List Item = c.args.kept.now.items in
    let found = position-Some (replaces item) kept c.in-Some.at item (sym c.place_of.ensures ∙ c.in-Some.is) in
    absurd (none-some (get_or kept c.in-Some.at item) (sym (ap option_copied_mut c.in_default.is) ∙ c.get_mut.ensures.value ∙ slice_get-get_or kept c.in-Some.at item found.0))

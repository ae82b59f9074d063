-- Lists of classes that are copied one behind the other.
use Rattle.std.proofs.Common.{◌≡◌, ◌≢◌, ℕ, ◌+◌, ◌-◌, ◌<◌, true, false, nat_lt, List, [], ◌∷◌, ◌++◌, length, get_or, refl, sym, ap, subst, ◌∙◌, arith}
use Rattle.std.proofs.lemmas.Bool.{ltb-true, ltb-false}
use Rattle.std.proofs.lemmas.List.{length-append, get_or_append_left}
use Rattle.std.proofs.Math.Seq.{get_or-append_seam}
use Rattle.vh_params.specs.declared.class.ClassInfo.{ClassInfo}
use Rattle.vh_params.specs.Short.{label_text}
use Rattle.vh_params.specs.Classes.{NamesDiffer}
use Rattle.vh_plugin.specs.Lists.{IsSame, AreCopied, AreBoth, NamesApart}

pub copied_more : (old from now : List ClassInfo) (n : ℕ) (info : ClassInfo) → AreCopied old from now n → ((d : ClassInfo) → IsSame info (get_or from n d)) → AreCopied old from (now ++ info ∷ []) (n + 1)
copied_more old from now n info are same = record {
  long = omega (arith, are.long, length-append now (info ∷ []));
  kept = λ i d within. get_or_append_left now (info ∷ []) d i (omega (arith, are.long)) ∙ are.kept i d within;
  same = λ i d within. elim (nat_lt i n) as (λ t. nat_lt i n ≡ t → IsSame (get_or (now ++ info ∷ []) (length old + i) d) (get_or from i d)) [
    | true ↦ λ test.
        let lt = ltb-true i n test in
        subst (λ x. IsSame x (get_or from i d)) (sym (get_or_append_left now (info ∷ []) d (length old + i) (omega (arith, lt, are.long)))) (are.same i d lt)
    | false ↦ λ test.
        let last : n ≡ i = omega (arith, ltb-false i n test, within) in
        let seam : length old + i ≡ length now = omega (arith, last, are.long) in
        let here : get_or (now ++ info ∷ []) (length old + i) d ≡ info = ap (λ k. get_or (now ++ info ∷ []) k d) seam ∙ get_or-append_seam now info [] d in
        subst (λ x. IsSame x (get_or from i d)) (sym here) (subst (λ k. IsSame info (get_or from k d)) last (same d))
  ] refl;
}

pub both_copied : (first second one both : List ClassInfo) → AreCopied [] first one (length first) → AreCopied one second both (length second) → AreBoth first second both
both_copied first second one both copied more = record {
  long = omega (arith, copied.long, more.long);
  firsts = λ i d within. subst (λ x. IsSame x (get_or first i d)) (sym (more.kept i d (omega (arith, copied.long)))) (subst (λ k. IsSame (get_or one k d) (get_or first i d)) (let e : 0 + i ≡ i = omega arith in e) (copied.same i d within));
  seconds = λ i d within. subst (λ k. IsSame (get_or both k d) (get_or second i d)) (let e : length one + i ≡ length first + i = omega (arith, copied.long) in e) (more.same i d within);
}

names_of_both : (first second both : List ClassInfo) → AreBoth first second both → NamesDiffer first → NamesDiffer second → NamesApart first second
    → (i j : ℕ) (d : ClassInfo) → i < j → j < length both → label_text (get_or both i d).name ≢ label_text (get_or both j d).name
names_of_both first second both are one other apart i j d lt within =
    elim (nat_lt j (length first)) as (λ t. nat_lt j (length first) ≡ t → label_text (get_or both i d).name ≢ label_text (get_or both j d).name) [
      | true ↦ λ test.
          let there = ltb-true j (length first) test in
          let i_name = (are.firsts i d (omega (arith, there, lt))).name in
          let j_name = (are.firsts j d there).name in
          λ same. one i j d lt there (ap label_text (sym i_name) ∙ same ∙ ap label_text j_name)
      | false ↦ λ test.
          let behind = ltb-false j (length first) test in
          let place = j - length first in
          let second_place : place < length second = omega (arith, behind, are.long) in
          let j_name = subst (λ k. (get_or both k d).name ≡ (get_or second place d).name) (let e : length first + place ≡ j = omega (arith, behind) in e) (are.seconds place d second_place).name in
          elim (nat_lt i (length first)) as (λ t. nat_lt i (length first) ≡ t → label_text (get_or both i d).name ≢ label_text (get_or both j d).name) [
            | true ↦ λ front.
                let i_name = (are.firsts i d (ltb-true i (length first) front)).name in
                λ same. apart i place d (ltb-true i (length first) front) second_place (ap label_text (sym i_name) ∙ same ∙ ap label_text j_name)
            | false ↦ λ back.
                let i_behind = ltb-false i (length first) back in
                let i_place = i - length first in
                let i_name = subst (λ k. (get_or both k d).name ≡ (get_or second i_place d).name) (let e : length first + i_place ≡ i = omega (arith, i_behind) in e) (are.seconds i_place d (omega (arith, second_place, lt, i_behind, behind))).name in
                λ same. other i_place place d (omega (arith, lt, i_behind, behind)) second_place (ap label_text (sym i_name) ∙ same ∙ ap label_text j_name)
          ] refl
    ] refl

pub names_differ : (start first second a b one both : List ClassInfo) → start ≡ [] → first ≡ a → second ≡ b → AreCopied start first one (length first) → AreCopied one second both (length second) → NamesDiffer first → NamesDiffer second → NamesApart a b → NamesDiffer both
names_differ start first second a b one both empty is_a is_b copied more firsts seconds apart =
    let from_none : AreCopied [] first one (length first) = subst (λ (old : List ClassInfo). AreCopied old first one (length first)) empty copied in
    let apart_too : NamesApart first second = subst (λ (infos : List ClassInfo). NamesApart first infos) (sym is_b) (subst (λ (infos : List ClassInfo). NamesApart infos b) (sym is_a) apart) in
    names_of_both first second both (both_copied first second one both from_none more) firsts seconds apart_too

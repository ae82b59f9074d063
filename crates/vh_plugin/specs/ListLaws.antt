-- What is said of both sets' classes is true of both.
use Rattle.std.proofs.Common.{◌≡◌, ℕ, ◌+◌, ◌-◌, ◌*◌, ◌<◌, true, false, cond, nat_lt, List, map, length, get_or, refl, sym, ap, subst, ◌∙◌, arith}
use Rattle.std.proofs.lemmas.Bool.{ltb-true, ltb-false}
use Rattle.vh_params.specs.declared.class.ClassInfo.{ClassInfo}
use Rattle.vh_params.specs.declared.param.ParamInfo.{ParamInfo}
use Rattle.vh_plugin.specs.Class.{Class, param_of}
use Rattle.vh_plugin.specs.Sets.{IsClassOf, AgreeOnBytes}
use Rattle.vh_plugin.specs.Lists.{IsSame, AreBoth, code_in_both}
use Rattle.vh_plugin.specs.Pairs.{both_classes}
use Rattle.vh_plugin.specs.PairLaws.{first_class, second_class}

same_class : (class : Class) (one other : ClassInfo) → IsSame one other → IsClassOf class other → IsClassOf class one
same_class class one other same is = record {
  params = is.params ∙ sym (ap (λ (params : List ParamInfo). map param_of params) same.params);
  aux = is.aux ∙ sym same.aux;
  partner = is.partner ∙ sym (ap (λ id. id.0) same.controller);
}

pub both_are_classes : (a_class b_class : ℕ → Class) (first second both : List ClassInfo) (a_code b_code : ℕ → ℕ)
    → AreBoth first second both
    → ((class : ℕ) (d : ClassInfo) → class < length first → IsClassOf (a_class (a_code class)) (get_or first class d))
    → ((class : ℕ) (d : ClassInfo) → class < length second → IsClassOf (b_class (b_code class)) (get_or second class d))
    → (class : ℕ) (d : ClassInfo) → class < length both → IsClassOf (both_classes a_class b_class (code_in_both (length first) a_code b_code class)) (get_or both class d)
both_are_classes a_class b_class first second both a_code b_code are one other class d within =
    elim (nat_lt class (length first)) as (λ t. nat_lt class (length first) ≡ t → IsClassOf (both_classes a_class b_class (cond t (2 * a_code class) (2 * b_code (class - length first) + 1))) (get_or both class d)) [
      | true ↦ λ test.
          let here = ltb-true class (length first) test in
          subst (λ (c : Class). IsClassOf c (get_or both class d)) (sym (first_class a_class b_class (a_code class))) (same_class (a_class (a_code class)) (get_or both class d) (get_or first class d) (are.firsts class d here) (one class d here))
      | false ↦ λ test.
          let behind = ltb-false class (length first) test in
          let place = class - length first in
          let there : place < length second = omega (arith, behind, are.long) in
          let back : length first + place ≡ class = omega (arith, behind) in
          let same = subst (λ n. IsSame (get_or both n d) (get_or second place d)) back (are.seconds place d there) in
          subst (λ (c : Class). IsClassOf c (get_or both class d)) (sym (second_class a_class b_class (b_code place))) (same_class (b_class (b_code place)) (get_or both class d) (get_or second place d) same (other place d there))
    ] refl

-- a set whose processors and controllers have one class for each code
pub one_class_agrees : (classes : ℕ → Class) (code : ℕ) → AgreeOnBytes (classes code) (classes code)
one_class_agrees classes code bytes = refl

-- the classes of both codes agree where those of each set do
pub both_agree : (a_class b_class a_other b_other : ℕ → Class) (first second both : List ClassInfo) (a_code b_code : ℕ → ℕ)
    → AreBoth first second both
    → ((class : ℕ) → class < length first → AgreeOnBytes (a_class (a_code class)) (a_other (a_code class)))
    → ((class : ℕ) → class < length second → AgreeOnBytes (b_class (b_code class)) (b_other (b_code class)))
    → (class : ℕ) → class < length both
    → AgreeOnBytes (both_classes a_class b_class (code_in_both (length first) a_code b_code class)) (both_classes a_other b_other (code_in_both (length first) a_code b_code class))
both_agree a_class b_class a_other b_other first second both a_code b_code are one other class within =
    elim (nat_lt class (length first)) as (λ t. nat_lt class (length first) ≡ t
    → AgreeOnBytes (both_classes a_class b_class (cond t (2 * a_code class) (2 * b_code (class - length first) + 1))) (both_classes a_other b_other (cond t (2 * a_code class) (2 * b_code (class - length first) + 1)))) [
      | true ↦ λ test.
          subst (λ (c : Class). AgreeOnBytes c (both_classes a_other b_other (2 * a_code class))) (sym (first_class a_class b_class (a_code class)))
          (subst (λ (c : Class). AgreeOnBytes (a_class (a_code class)) c) (sym (first_class a_other b_other (a_code class))) (one class (ltb-true class (length first) test)))
      | false ↦ λ test.
          let place = class - length first in
          let there : place < length second = (let behind = ltb-false class (length first) test in omega (arith, behind, within, are.long)) in
          subst (λ (c : Class). AgreeOnBytes c (both_classes a_other b_other (2 * b_code place + 1))) (sym (second_class a_class b_class (b_code place)))
          (subst (λ (c : Class). AgreeOnBytes (b_class (b_code place)) c) (sym (second_class a_other b_other (b_code place))) (other place there))
    ] refl

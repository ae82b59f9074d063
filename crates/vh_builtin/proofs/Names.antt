-- The names of the classes differ.
use Rattle.std.proofs.Common.{◌≡◌, ◌≢◌, ℕ, zero, suc, ◌+◌, ◌<◌, ◌==◌, if◌then◌else◌, List, [], ◌∷◌, ◌++◌, length, get_or, true, false, nat_lt, refl, sym, ap, subst, ◌∙◌, arith}
use Rattle.std.proofs.lemmas.Bool.{ltb-true, ltb-false}
use Rattle.std.proofs.lemmas.List.{length-append, get_or_append_left, get_or-append-add}
use Rattle.vh_params.specs.declared.class.ClassInfo.{ClassInfo}
use Rattle.vh_params.specs.Classes.{NamesDiffer}
use Rattle.vh_builtin.specs.Infos.{name_text, IsBuiltIn, AreBuiltIn}

-- the sum of a name's bytes tells which it is
abbrev total : List ℕ → ℕ
total [] = 0
total (byte ∷ bytes) = byte + total bytes

abbrev which : ℕ → ℕ
which n = if n == 415 then 0 else (if n == 710 then 1 else (if n == 527 then 2 else (if n == 754 then 3 else (if n == 764 then 4 else (if n == 417 then 5 else (if n == 541 then 6 else 7))))))

named : (k : ℕ) → k < 8 → which (total (name_text k)) ≡ k
named zero lt = refl
named (suc zero) lt = refl
named (suc (suc zero)) lt = refl
named (suc (suc (suc zero))) lt = refl
named (suc (suc (suc (suc zero)))) lt = refl
named (suc (suc (suc (suc (suc zero))))) lt = refl
named (suc (suc (suc (suc (suc (suc zero)))))) lt = refl
named (suc (suc (suc (suc (suc (suc (suc zero))))))) lt = refl
named (suc (suc (suc (suc (suc (suc (suc (suc k)))))))) lt = absurd (omega (arith, lt))

names_apart : (i j : ℕ) → i < j → j < 8 → name_text i ≢ name_text j
names_apart i j lt within same =
    let e : i ≡ j = sym (named i (omega (arith, lt, within))) ∙ ap (λ (text : List ℕ). which (total text)) same ∙ named j within in
    absurd (omega (arith, e, lt))

pub all_differ : (infos : List ClassInfo) → AreBuiltIn infos → NamesDiffer infos
all_differ infos are i j d lt within same =
    let eight = are.eight in
    let j_within : j < 8 = omega (arith, within, eight) in
    names_apart i j lt j_within (sym (are.each i d (omega (arith, lt, j_within))).name ∙ same ∙ (are.each j d j_within).name)

-- the first so many
pub record AreFirst (infos : List ClassInfo) (n : ℕ) : Type 0 where
  pub long : length infos ≡ n
  pub each : (k : ℕ) (d : ClassInfo) → k < n → IsBuiltIn k (get_or infos k d)

pub first_more : (infos : List ClassInfo) (n : ℕ) (info : ClassInfo) → AreFirst infos n → IsBuiltIn n info → AreFirst (infos ++ info ∷ []) (n + 1)
first_more infos n info are is = record {
  long = (let e = length-append infos (info ∷ []) in let f = are.long in omega (arith, e, f));
  each = λ k d lt. elim (nat_lt k n) as (λ t. nat_lt k n ≡ t → IsBuiltIn k (get_or (infos ++ info ∷ []) k d)) [
    | true ↦ λ test. rw (get_or_append_left infos (info ∷ []) d k (let f = are.long in let t = ltb-true k n test in omega (arith, f, t))) (are.each k d (ltb-true k n test))
    | false ↦ λ test.
        let here : n ≡ k = omega (arith, ltb-false k n test, lt) in
        let place : length infos + 0 ≡ k = (let f = are.long in omega (arith, f, here)) in
        subst (λ i. IsBuiltIn i (get_or (infos ++ info ∷ []) i d)) here
        (subst (λ (x : ClassInfo). IsBuiltIn n x) (sym (ap (λ i. get_or (infos ++ info ∷ []) i d) (let g : n ≡ length infos + 0 = omega (arith, here, place) in g) ∙ get_or-append-add infos (info ∷ []) 0 d)) is)
  ] refl;
}

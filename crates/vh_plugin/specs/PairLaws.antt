-- Two classes' laws are those of the pair.
use Rattle.std.proofs.Common.{◌≡◌, ◌≤◌, ℕ, ◌+◌, ◌*◌, ◌/◌, ◌%◌, Bool, true, false, cond, nat_eq, List, sym, ap, subst, arith}
use Rattle.std.proofs.lemmas.Bool.{eq-eqb, ne_eqb, true≢false}
use Rattle.vh_plugin.specs.declared.one_of.OneOf.{OneOf}
use Rattle.vh_plugin.specs.declared.one_of.OneOf.TheVariants.{First, Second}
use Rattle.vh_plugin.specs.Class.{Class, IsLawful, AreValues}
use Rattle.vh_plugin.specs.Pairs.{either, each, both_classes, both_codes}

pub first_class : (first second : ℕ → Class) (code : ℕ) → both_classes first second (2 * code) ≡ first code
first_class first second code =
    let even : nat_eq (2 * code % 2) 0 ≡ true = eq-eqb (2 * code % 2) 0 (omega arith) in
    let half : 2 * code / 2 ≡ code = omega arith in
    rw even (ap first half)

pub second_class : (first second : ℕ → Class) (code : ℕ) → both_classes first second (2 * code + 1) ≡ second code
second_class first second code =
    let odd : nat_eq ((2 * code + 1) % 2) 0 ≡ false = ne_eqb ((2 * code + 1) % 2) 0 (λ e. omega (arith, e)) in
    let half : (2 * code + 1) / 2 ≡ code = omega arith in
    rw odd (ap second half)

pub both_lawful : (first second : ℕ → Class) → ((code : ℕ) → IsLawful (first code)) → ((code : ℕ) → IsLawful (second code)) → (code : ℕ) → IsLawful (both_classes first second code)
both_lawful first second one other code =
    elim (nat_eq (code % 2) 0) as (λ t. IsLawful (cond t (first (code / 2)) (second (code / 2)))) [
      | true ↦ one (code / 2)
      | false ↦ other (code / 2)
    ]

pub both_valued : {A B : Type 0} (first second : ℕ → Class) (a_code : A → ℕ) (b_code : B → ℕ) (a_values : A → List ℕ) (b_values : B → List ℕ)
    → ((a : A) → AreValues (first (a_code a)).params (a_values a)) → ((b : B) → AreValues (second (b_code b)).params (b_values b))
    → (x : OneOf A B) → AreValues (both_classes first second (both_codes a_code b_code x)).params (either a_values b_values x)
both_valued first second a_code b_code a_values b_values one other (First a) = subst (λ (class : Class). AreValues class.params (a_values a)) (sym (first_class first second (a_code a))) (one a)
both_valued first second a_code b_code a_values b_values one other (Second b) = subst (λ (class : Class). AreValues class.params (b_values b)) (sym (second_class first second (b_code b))) (other b)

first_of : {R S : Type 0} → R → OneOf R S → R
first_of r (First a) = a
first_of r (Second b) = r

second_of : {R S : Type 0} → S → OneOf R S → S
second_of s (First a) = s
second_of s (Second b) = b

is_first : {R S : Type 0} → OneOf R S → Bool
is_first (First a) = true
is_first (Second b) = false

-- what the same rests have in common, the pair's have
pub both_keep : {A B R S X : Type 0} (a_rest : A → R) (b_rest : B → S) (a_of : A → X) (b_of : B → X)
    → ((x y : A) → a_rest x ≡ a_rest y → a_of x ≡ a_of y) → ((x y : B) → b_rest x ≡ b_rest y → b_of x ≡ b_of y)
    → (x y : OneOf A B) → each a_rest b_rest x ≡ each a_rest b_rest y → either a_of b_of x ≡ either a_of b_of y
unfolding first_of is_first second_of
both_keep a_rest b_rest a_of b_of one other (First x) (First y) same = one x y (ap (first_of (a_rest x)) same)
both_keep a_rest b_rest a_of b_of one other (Second x) (Second y) same = other x y (ap (second_of (b_rest x)) same)
both_keep a_rest b_rest a_of b_of one other (First x) (Second y) same = absurd (true≢false (ap is_first same))
both_keep a_rest b_rest a_of b_of one other (Second x) (First y) same = absurd (true≢false (sym (ap is_first same)))

pub both_keep_code : {A B R S : Type 0} (a_rest : A → R) (b_rest : B → S) (a_code : A → ℕ) (b_code : B → ℕ)
    → ((x y : A) → a_rest x ≡ a_rest y → a_code x ≡ a_code y) → ((x y : B) → b_rest x ≡ b_rest y → b_code x ≡ b_code y)
    → (x y : OneOf A B) → each a_rest b_rest x ≡ each a_rest b_rest y → both_codes a_code b_code x ≡ both_codes a_code b_code y
unfolding first_of is_first second_of
both_keep_code a_rest b_rest a_code b_code one other (First x) (First y) same = ap (λ n. 2 * n) (one x y (ap (first_of (a_rest x)) same))
both_keep_code a_rest b_rest a_code b_code one other (Second x) (Second y) same = ap (λ n. 2 * n + 1) (other x y (ap (second_of (b_rest x)) same))
both_keep_code a_rest b_rest a_code b_code one other (First x) (Second y) same = absurd (true≢false (ap is_first same))
both_keep_code a_rest b_rest a_code b_code one other (Second x) (First y) same = absurd (true≢false (sym (ap is_first same)))

pub both_moded : {A B : Type 0} (a_mode : A → ℕ) (b_mode : B → ℕ) → ((a : A) → a_mode a ≤ 1) → ((b : B) → b_mode b ≤ 1) → (x : OneOf A B) → either a_mode b_mode x ≤ 1
both_moded a_mode b_mode one other (First a) = one a
both_moded a_mode b_mode one other (Second b) = other b

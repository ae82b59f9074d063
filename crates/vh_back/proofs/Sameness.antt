-- Which parameters are one.
use Rattle.std.proofs.Common.{◌≡◌, ℕ, Bool, true, false, ◌&&◌, ◌==◌, Option, Some, None, refl, sym, ap, ◌∙◌}
use Rattle.std.specs.Option.{option_or}
use Rattle.std.proofs.lemmas.Bool.{and_parts, eqb-true, eq-eqb, true≢false}
use Rattle.vh_back.specs.declared.item.Parameter.{Parameter}
use Rattle.vh_back.specs.Items.{parameter, is_same}

pub same_is : (one other : Parameter) → is_same one other ≡ true → one ≡ other
same_is one other is =
    let parts = and_parts (one.node == other.node) (one.id == other.id) is in
    ap (λ (n : ℕ). parameter n one.id) (eqb-true one.node other.node parts.0) ∙ ap (λ (n : ℕ). parameter other.node n) (eqb-true one.id other.id parts.1)

pub is_itself : (one : Parameter) → is_same one one ≡ true
is_itself one = ap (λ b. b && (one.id == one.id)) (eq-eqb one.node one.node refl) ∙ eq-eqb one.id one.id refl

pub same_back : (one other : Parameter) → is_same one other ≡ false → is_same other one ≡ false
same_back one other apart = by_cases (is_same other one) refl
  where
    by_cases : (b : Bool) → is_same other one ≡ b → b ≡ false
    by_cases true is = absurd (true≢false (sym (is_itself one) ∙ ap (λ (p : Parameter). is_same one p) (sym (same_is other one is)) ∙ apart))
    by_cases false is = refl

pub or_none : {A : Type 0} (o : Option A) → option_or o None ≡ o
or_none None = refl
or_none (Some x) = refl

pub or_assoc : {A : Type 0} (a b c : Option A) → option_or (option_or a b) c ≡ option_or a (option_or b c)
or_assoc None b c = refl
or_assoc (Some x) b c = refl

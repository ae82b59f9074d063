-- Nodes and classes by name.
use Rattle.std.proofs.Common.{◌≡◌, ◌≢◌, ◌∙◌, ℕ, zero, suc, ◌+◌, ◌<◌, true, false, cond, List, [], ◌∷◌, length, get_or, refl, ap, arith}
use Rattle.std.specs.Prelude.{Some, None}
use Rattle.std.specs.Str.{bytes_eq}
use Rattle.std.proofs.lemmas.Slice.Eq.{bytes_eq-Decides}
use Rattle.vh_params.specs.declared.class.ClassInfo.{ClassInfo}
use Rattle.vh_params.specs.Nodes.{Node, node_at, LacksName}
use Rattle.vh_params.specs.Short.{label_text}
use Rattle.vh_session.specs.Rules.{node_from, class_named}

pub same_text : (a b : List ℕ) → a ≡ b → bytes_eq a b ≡ true
same_text a b same = (bytes_eq-Decides a b).1 same

pub other_text : (a b : List ℕ) → a ≢ b → bytes_eq a b ≡ false
other_text a b differ = elim (bytes_eq a b) as (λ t. (t ≡ true → a ≡ b) → t ≡ false) [
  | true ↦ λ d. absurd (differ (d refl))
  | false ↦ λ d. refl
] (bytes_eq-Decides a b).0

pub first_from : (nodes : List Node) (name : List ℕ) (at n : ℕ) → n < length nodes → (node_at nodes n).name ≡ name → ((before : ℕ) → before < n → (node_at nodes before).name ≢ name) → node_from at nodes name ≡ Some (at + n)
first_from [] name at n lt same none = absurd (omega (arith, lt))
first_from (x ∷ xs) name at zero lt same none = ap (λ t. cond t (Some at) (node_from (1 + at) xs name)) (same_text x.name name same) ∙ (let e : at ≡ at + 0 = omega arith in ap (λ m. Some m) e)
first_from (x ∷ xs) name at (suc n) lt same none =
    ap (λ t. cond t (Some at) (node_from (1 + at) xs name)) (other_text x.name name (none 0 (omega arith)))
    ∙ first_from xs name (1 + at) n (omega (arith, lt)) same (λ before l. none (suc before) (omega (arith, l)))
    ∙ (let e : (1 + at) + n ≡ at + suc n = omega arith in ap (λ m. Some m) e)

pub none_from : (nodes : List Node) (name : List ℕ) (at : ℕ) → LacksName nodes name → node_from at nodes name ≡ None
none_from [] name at lacks = refl
none_from (x ∷ xs) name at lacks =
    ap (λ t. cond t (Some at) (node_from (1 + at) xs name)) (other_text x.name name (lacks 0 (omega arith)))
    ∙ none_from xs name (1 + at) (λ node l. lacks (suc node) (omega (arith, l)))

pub first_class : (classes : List ClassInfo) (name : List ℕ) (n : ℕ) (d : ClassInfo) → n < length classes → label_text (get_or classes n d).name ≡ name
    → ((before : ℕ) (e : ClassInfo) → before < n → label_text (get_or classes before e).name ≢ name) → class_named classes name ≡ Some (get_or classes n d)
first_class [] name n d lt same none = absurd (omega (arith, lt))
first_class (x ∷ xs) name zero d lt same none = ap (λ t. cond t (Some x) (class_named xs name)) (same_text (label_text x.name) name same)
first_class (x ∷ xs) name (suc n) d lt same none =
    ap (λ t. cond t (Some x) (class_named xs name)) (other_text (label_text x.name) name (none 0 x (omega arith)))
    ∙ first_class xs name n d (omega (arith, lt)) same (λ before e l. none (suc before) e (omega (arith, l)))

pub no_class : (classes : List ClassInfo) (name : List ℕ) → ((n : ℕ) (d : ClassInfo) → n < length classes → label_text (get_or classes n d).name ≢ name) → class_named classes name ≡ None
no_class [] name lacks = refl
no_class (x ∷ xs) name lacks =
    ap (λ t. cond t (Some x) (class_named xs name)) (other_text (label_text x.name) name (lacks 0 x (omega arith)))
    ∙ no_class xs name (λ n d l. lacks (suc n) d (omega (arith, l)))

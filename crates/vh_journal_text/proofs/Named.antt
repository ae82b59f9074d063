-- Nodes by name.
use Rattle.std.proofs.Common.{◌≡◌, ◌≢◌, ◌∙◌, ℕ, zero, suc, ◌+◌, ◌<◌, true, false, cond, List, [], ◌∷◌, length, refl, ap, subst, arith, Ok}
use Rattle.std.specs.Prelude.{Some, None, Option}
use Rattle.std.specs.List.{position_from}
use Rattle.std.specs.Option.{ok_or}
use Rattle.std.specs.Str.{bytes_eq}
use Rattle.std.proofs.lemmas.Slice.Eq.{bytes_eq-Decides}
use Rattle.vh_params.specs.Nodes.{Node, node_at, LacksName, AreApart}
use Rattle.vh_journal_text.specs.declared.fault.JournalKind.TheVariants.{UnknownNode}
use Rattle.vh_journal_text.specs.Rules.{node_named, the_node}

pub same_text : (a b : List ℕ) → a ≡ b → bytes_eq a b ≡ true
same_text a b same = (bytes_eq-Decides a b).1 same

pub other_text : (a b : List ℕ) → a ≢ b → bytes_eq a b ≡ false
other_text a b differ = elim (bytes_eq a b) as (λ t. (t ≡ true → a ≡ b) → t ≡ false) [
  | true ↦ λ d. absurd (differ (d refl))
  | false ↦ λ d. refl
] (bytes_eq-Decides a b).0

first_from : (nodes : List Node) (name : List ℕ) (at n : ℕ) → n < length nodes → (node_at nodes n).name ≡ name → ((before : ℕ) → before < n → (node_at nodes before).name ≢ name) → position_from (λ node. bytes_eq node.name name) at nodes ≡ Some (at + n)
first_from [] name at n lt same none = absurd (omega (arith, lt))
first_from (x ∷ xs) name at zero lt same none = ap (λ t. cond t (Some at) (position_from (λ node. bytes_eq node.name name) (at + 1) xs)) (same_text x.name name same) ∙ (let e : at ≡ at + 0 = omega arith in ap (λ m. Some m) e)
first_from (x ∷ xs) name at (suc n) lt same none =
    ap (λ t. cond t (Some at) (position_from (λ node. bytes_eq node.name name) (at + 1) xs)) (other_text x.name name (none 0 (omega arith)))
    ∙ first_from xs name (at + 1) n (omega (arith, lt)) same (λ before l. none (suc before) (omega (arith, l)))
    ∙ (let e : (at + 1) + n ≡ at + suc n = omega arith in ap (λ m. Some m) e)

none_from : (nodes : List Node) (name : List ℕ) (at : ℕ) → LacksName nodes name → position_from (λ node. bytes_eq node.name name) at nodes ≡ None
none_from [] name at lacks = refl
none_from (x ∷ xs) name at lacks =
    ap (λ t. cond t (Some at) (position_from (λ node. bytes_eq node.name name) (at + 1) xs)) (other_text x.name name (lacks 0 (omega arith)))
    ∙ none_from xs name (at + 1) (λ node l. lacks (suc node) (omega (arith, l)))

pub first_node : (nodes : List Node) (name : List ℕ) (n : ℕ) → n < length nodes → (node_at nodes n).name ≡ name → ((before : ℕ) → before < n → (node_at nodes before).name ≢ name) → node_named nodes name ≡ Some n
first_node nodes name n lt same none = first_from nodes name 0 n lt same none ∙ (let e : 0 + n ≡ n = omega arith in ap (λ m. Some m) e)

pub no_node_named : (nodes : List Node) (name : List ℕ) → LacksName nodes name → node_named nodes name ≡ None
no_node_named nodes name lacks = none_from nodes name 0 lacks

-- each node of such nodes is found by its name
pub node_found : (nodes : List Node) (node : ℕ) → AreApart nodes → node < length nodes → the_node nodes (node_at nodes node).name ≡ Ok node
node_found nodes node apart lt = ap (λ o. ok_or o UnknownNode) (first_node nodes (node_at nodes node).name node lt refl (λ before l. apart before node l lt))

-- what is found is there
there_from : (nodes : List Node) (name : List ℕ) (at n : ℕ) → position_from (λ node. bytes_eq node.name name) at nodes ≡ Some n → n < at + length nodes
there_from [] name at n is = absurd (subst (λ (o : Option ℕ). elim o as (λ _. Type 0) [ None ↦ Unit {0} | Some m ↦ ⊥ ]) is tt)
there_from (x ∷ xs) name at n is = elim (bytes_eq x.name name) as (λ t. cond t (Some at) (position_from (λ node. bytes_eq node.name name) (at + 1) xs) ≡ Some n → n < at + suc (length xs)) [
  | true ↦ λ found. let e = ap (λ (o : Option ℕ). elim o as (λ _. ℕ) [ None ↦ at | Some m ↦ m ]) found in omega (arith, e)
  | false ↦ λ found. let lt = there_from xs name (at + 1) n found in omega (arith, lt)
] is

pub node_there : (nodes : List Node) (name : List ℕ) (node : ℕ) → the_node nodes name ≡ Ok node → node < length nodes
node_there nodes name node is = elim (node_named nodes name) as (λ o. node_named nodes name ≡ o → ok_or o UnknownNode ≡ Ok node → node < length nodes) [
  | None ↦ λ e found. absurd (cc)
  | Some n ↦ λ e found. let same : n ≡ node = cc in let lt = there_from nodes name 0 n e in omega (arith, lt, same)
] refl is

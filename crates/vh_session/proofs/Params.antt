-- Parameters by their ids.
use Rattle.std.proofs.Common.{◌≡◌, ◌∙◌, ℕ, ◌<◌, ◌==◌, true, false, cond, List, [], ◌∷◌, ◌++◌, length, refl, sym, ap, subst, arith, nat_lt}
use Rattle.std.specs.Prelude.{⊤, Option, Some, None, IsSome}
use Rattle.std.proofs.lemmas.Bool.{eqb-true, ltb-true, lt-ltb}
use Rattle.std.proofs.lemmas.List.{get_or_append_left, length-append}
use Rattle.vh_params.specs.declared.param.ParamInfo.{ParamInfo}
use Rattle.vh_params.specs.Params.{param_in}
use Rattle.vh_params.specs.Nodes.{Node, node_at, no_node, info_in}

-- what is found has the id
abbrev HasId : ℕ → Option ParamInfo → Type 0
HasId id None = id ≡ id
HasId id (Some param) = param.id ≡ id

param_id : (params : List ParamInfo) (id : ℕ) → HasId id (param_in params id)
param_id [] id = refl
param_id (p ∷ ps) id = elim (p.id == id) as (λ t. (p.id == id) ≡ t → HasId id (cond t (Some p) (param_in ps id))) [
  | true ↦ λ test. eqb-true p.id id test
  | false ↦ λ test. param_id ps id
] refl

info_id : (nodes : List Node) (node id : ℕ) → HasId id (info_in nodes node id)
info_id nodes node id = elim (nat_lt node (length nodes)) as (λ t. HasId id (cond t (param_in (node_at nodes node).params id) None)) [
  | true ↦ param_id (node_at nodes node).params id
  | false ↦ refl
]

pub found_id : (nodes : List Node) (node id : ℕ) (param : ParamInfo) → info_in nodes node id ≡ Some param → param.id ≡ id
found_id nodes node id param is = subst (λ o. HasId id o) is (info_id nodes node id)

pub found_again : (nodes : List Node) (node id : ℕ) (param : ParamInfo) → info_in nodes node id ≡ Some param → info_in nodes node param.id ≡ Some param
found_again nodes node id param is = ap (λ i. info_in nodes node i) (found_id nodes node id param is) ∙ is

pub there : (nodes : List Node) (node id : ℕ) (param : ParamInfo) → info_in nodes node id ≡ Some param → IsSome (info_in nodes node param.id)
there nodes node id param is = subst (λ o. IsSome o) (sym (found_again nodes node id param is)) search

abbrev IsNone : Option ParamInfo → Type 0
IsNone None = ⊤
IsNone (Some param) = ⊥

-- a node more leaves each parameter where it is
pub info_more : (nodes : List Node) (new : Node) (node id : ℕ) (param : ParamInfo) → info_in nodes node id ≡ Some param → info_in (nodes ++ new ∷ []) node id ≡ Some param
info_more nodes new node id param is = elim (nat_lt node (length nodes)) as (λ t. nat_lt node (length nodes) ≡ t → cond t (param_in (node_at nodes node).params id) None ≡ Some param → info_in (nodes ++ new ∷ []) node id ≡ Some param) [
  | true ↦ λ test found.
      let lt : node < length nodes = ltb-true node (length nodes) test in
      let long = length-append nodes (new ∷ []) in
      let within : node < length (nodes ++ new ∷ []) = omega (arith, lt, long) in
      let same : node_at (nodes ++ new ∷ []) node ≡ node_at nodes node = get_or_append_left nodes (new ∷ []) no_node node lt in
      ap (λ t. cond t (param_in (node_at (nodes ++ new ∷ []) node).params id) None) (lt-ltb node (length (nodes ++ new ∷ [])) within) ∙ ap (λ (n : Node). param_in n.params id) same ∙ found
  | false ↦ λ test found. absurd (subst IsNone found tt)
] refl is

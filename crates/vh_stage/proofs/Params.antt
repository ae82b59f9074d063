-- The parameters of a session.
use Rattle.std.proofs.Common.{◌≡◌, ◌∙◌, ℕ, zero, suc, ◌+◌, ◌<◌, ◌≤◌, ◌==◌, Bool, true, false, ◌&&◌, List, [], ◌∷◌, ◌++◌, length, take, drop, get_or, refl, sym, ap, append_assoc, append-nil, arith}
use Rattle.std.specs.List.{AllByRecursion, IsDistinct}
use Rattle.std.proofs.lemmas.Bool.{and_left, ne_eqb}
use Rattle.std.proofs.lemmas.List.{map_more}
use Rattle.vh_params.specs.declared.param.ParamInfo.{ParamInfo}
use Rattle.vh_params.specs.Nodes.{Node}
use Rattle.vh_params.specs.Params.{AreRising}
use Rattle.vh_back.specs.declared.item.Parameter.{Parameter}
use Rattle.vh_back.specs.Items.{parameter, is_same}
use Rattle.vh_stage.specs.Parameters.{infos_at, parameters_from, all_parameters}

-- one more of a node's
pub push_info : (node : ℕ) (params : List ParamInfo) (k : ℕ) (d : ParamInfo) (first all : List Parameter) → k < length params → all ≡ first ++ infos_at node (take k params)
    → all ++ parameter node (get_or params k d).id ∷ [] ≡ first ++ infos_at node (take (k + 1) params)
push_info node params k d first all below so_far =
    ap (λ (ps : List Parameter). ps ++ parameter node (get_or params k d).id ∷ []) so_far
    ∙ append_assoc first (infos_at node (take k params)) (parameter node (get_or params k d).id ∷ [])
    ∙ ap (λ (ps : List Parameter). first ++ ps) (sym (map_more (λ (param : ParamInfo). parameter node param.id) params k d below))

-- the parameters of the first nodes, so many, and one more
drop_more : (nodes : List Node) (k : ℕ) (d : Node) → k < length nodes → drop k nodes ≡ get_or nodes k d ∷ drop (k + 1) nodes
drop_more [] k d below = absurd (omega (arith, below))
drop_more (node ∷ nodes) zero d below = refl
drop_more (node ∷ nodes) (suc k) d below =
    let e : suc k + 1 ≡ suc (k + 1) = omega arith in
    drop_more nodes k d (omega (arith, below)) ∙ ap (λ j. get_or nodes k d ∷ drop j (node ∷ nodes)) (sym e)

pub push_node : (nodes : List Node) (k : ℕ) (d : Node) (made more : List Parameter) → k < length nodes
    → made ++ parameters_from k (drop k nodes) ≡ all_parameters nodes → more ≡ made ++ infos_at k (get_or nodes k d).params
    → more ++ parameters_from (k + 1) (drop (k + 1) nodes) ≡ all_parameters nodes
push_node nodes k d made more below so_far is =
    let e : suc k ≡ k + 1 = omega arith in
    ap (λ (ps : List Parameter). ps ++ parameters_from (k + 1) (drop (k + 1) nodes)) is
    ∙ append_assoc made (infos_at k (get_or nodes k d).params) (parameters_from (k + 1) (drop (k + 1) nodes))
    ∙ ap (λ j. made ++ (infos_at k (get_or nodes k d).params ++ parameters_from j (drop (k + 1) nodes))) (sym e)
    ∙ ap (λ (ns : List Node). made ++ parameters_from k ns) (sym (drop_more nodes k d below))
    ∙ so_far

-- ---- no parameter stands there twice
and_right : (a b : Bool) → b ≡ false → (a && b) ≡ false
and_right true b is = is
and_right false b is = refl

-- those of later nodes are of other nodes
later_both : (number node id : ℕ) (params : List ParamInfo) (others : List Parameter) → node < number → AllByRecursion (λ other. is_same (parameter node id) other ≡ false) others
    → AllByRecursion (λ other. is_same (parameter node id) other ≡ false) (infos_at number params ++ others)
later_both number node id [] others below rest = rest
later_both number node id (param ∷ params) others below rest =
    (and_left (node == number) (id == param.id) (ne_eqb node number (λ same. absurd (omega (arith, same, below)))), later_both number node id params others below rest)

later : (number node id : ℕ) (nodes : List Node) → node < number → AllByRecursion (λ other. is_same (parameter node id) other ≡ false) (parameters_from number nodes)
later number node id [] below = tt
later number node id (one ∷ nodes) below = later_both number node id one.params (parameters_from (suc number) nodes) below (later (suc number) node id nodes (omega (arith, below)))

-- those of a node have other ids
ids_apart : (node id : ℕ) (params : List ParamInfo) (others : List Parameter) → ((k : ℕ) (d : ParamInfo) → k < length params → id < (get_or params k d).id)
    → AllByRecursion (λ other. is_same (parameter node id) other ≡ false) others → AllByRecursion (λ other. is_same (parameter node id) other ≡ false) (infos_at node params ++ others)
ids_apart node id [] others rising rest = rest
ids_apart node id (param ∷ params) others rising rest =
    let more = rising 0 param (omega arith) in (
      and_right (node == node) (id == param.id) (ne_eqb id param.id (λ same. absurd (omega (arith, same, more)))),
      ids_apart node id params others (λ k d below. rising (suc k) d (omega (arith, below))) rest,
    )

node_apart : (number node : ℕ) (params : List ParamInfo) (nodes : List Node) → node < number → AreRising params → IsDistinct is_same (parameters_from number nodes)
    → IsDistinct is_same (infos_at node params ++ parameters_from number nodes)
unfolding IsDistinct
node_apart number node [] nodes below rising rest = rest
node_apart number node (param ∷ params) nodes below rising rest = (
  ids_apart node param.id params (parameters_from number nodes) (λ k d within. rising 0 (suc k) d (omega arith) (omega (arith, within))) (later number node param.id nodes below),
  node_apart number node params nodes below (λ i j d less within. rising (suc i) (suc j) d (omega (arith, less)) (omega (arith, within))) rest,
)

pub are_apart : (number : ℕ) (nodes : List Node) → ((k : ℕ) (d : Node) → k < length nodes → AreRising (get_or nodes k d).params) → IsDistinct is_same (parameters_from number nodes)
unfolding IsDistinct
are_apart number [] rising = tt
are_apart number (node ∷ nodes) rising =
    node_apart (suc number) number node.params nodes (omega arith) (rising 0 node (omega arith)) (are_apart (suc number) nodes (λ k d below. rising (suc k) d (omega (arith, below))))

pub all_made : (nodes : List Node) (made : List Parameter) (k : ℕ) → length nodes ≤ k → made ++ parameters_from k (drop k nodes) ≡ all_parameters nodes → made ≡ all_parameters nodes
all_made nodes made k past so_far = sym (append-nil made) ∙ ap (λ (ns : List Node). made ++ parameters_from k ns) (sym (none nodes k past)) ∙ so_far
  where
    none : (ns : List Node) (j : ℕ) → length ns ≤ j → drop j ns ≡ []
    none [] zero past = refl
    none [] (suc j) past = refl
    none (n ∷ ns) zero past = absurd (omega (arith, past))
    none (n ∷ ns) (suc j) past = none ns j (omega (arith, past))

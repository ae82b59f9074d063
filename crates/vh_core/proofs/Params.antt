-- A node's parameters, by their places.
use Rattle.std.proofs.Common.{◌≡◌, ◌∙◌, ℕ, zero, suc, ◌+◌, ◌<◌, ◌≤◌, Bool, true, false, not, ◌==◌, ◌&&◌, ◌||◌, cond, List, [], ◌∷◌, length, map, drop, get_or, Some, None, is_some, refl, sym, ap, arith}
use Rattle.std.specs.Prelude.{IsSome}
use Rattle.std.specs.List.{position_or_len}
use Rattle.std.proofs.lemmas.Bool.{eq-eqb, ne_eqb, lt-ltb}
use Rattle.std.proofs.lemmas.List.{length-map, get_or-map, length-take, length-drop}
use Rattle.std.proofs.lemmas.List.Sums.{sum_by-cons}
use Rattle.vh_params.specs.declared.param.ParamInfo.{ParamInfo}
use Rattle.vh_params.specs.Flags.{is_read_only}
use Rattle.vh_params.specs.Nodes.{Node, no_node, node_at, info_in}
use Rattle.vh_params.specs.Params.{param_in, AreRising}
use Rattle.vh_plugin.specs.Class.{Param, Class, param_of, has_shown}
use Rattle.vh_journal.specs.declared.entry.Entry.{Entry}
use Rattle.vh_session.specs.Content.{Content}
use Rattle.vh_meaning.specs.Scene.{params_at, firsts_at, by_node, scene_of}
use Rattle.vh_meaning.specs.Values.{values_at}
use Rattle.vh_legal.specs.Values.{has_id, param_count, AreFirsts}
use Rattle.vh_legal.specs.Laws.{AreClassesOf}
use Rattle.vh_core.proofs.Shown.{values_long}

-- by its id a parameter is found, at its place

rest_rises : (param : ParamInfo) (params : List ParamInfo) → AreRising (param ∷ params) → AreRising params
rest_rises param params rising i j d less within = rising (suc i) (suc j) d (omega (arith, less)) (omega (arith, within))

pub place_is : (params : List ParamInfo) (k : ℕ) (d : ParamInfo) → AreRising params → k < length params → position_or_len (has_id (get_or params k d).id) params ≡ k
place_is [] k d rising lt = absurd (omega (arith, lt))
place_is (param ∷ params) zero d rising lt = ap (λ t. cond (not t) (1 + position_or_len (has_id param.id) params) 0) (eq-eqb param.id param.id refl)
place_is (param ∷ params) (suc k) d rising lt =
    let id = (get_or params k d).id in
    let before = rising 0 (suc k) d (omega arith) lt in
    let rest = place_is params k d (rest_rises param params rising) (omega (arith, lt)) in
    let next : 1 + position_or_len (has_id id) params ≡ suc k = omega (arith, rest) in
    ap (λ t. cond (not t) (1 + position_or_len (has_id id) params) 0) (ne_eqb param.id id (λ e. omega (arith, before, e))) ∙ next

param_found : (params : List ParamInfo) (k : ℕ) (d : ParamInfo) → AreRising params → k < length params → param_in params (get_or params k d).id ≡ Some (get_or params k d)
param_found [] k d rising lt = absurd (omega (arith, lt))
param_found (param ∷ params) zero d rising lt = ap (λ t. cond t (Some param) (param_in params param.id)) (eq-eqb param.id param.id refl)
param_found (param ∷ params) (suc k) d rising lt =
    let id = (get_or params k d).id in
    let before = rising 0 (suc k) d (omega arith) lt in
    ap (λ t. cond t (Some param) (param_in params id)) (ne_eqb param.id id (λ e. omega (arith, before, e)))
    ∙ param_found params k d (rest_rises param params rising) (omega (arith, lt))

pub info_there : (nodes : List Node) (node k : ℕ) (d : ParamInfo) → AreRising (node_at nodes node).params → node < length nodes → k < length (node_at nodes node).params → IsSome (info_in nodes node (get_or (node_at nodes node).params k d).id)
info_there nodes node k d rising there within =
    let params = (node_at nodes node).params in
    let id = (get_or params k d).id in
    ap (λ t. is_some (cond t (param_in params id) None)) (lt-ltb node (length nodes) there) ∙ ap is_some (param_found params k d rising within)

-- where there is a place, there is a parameter
pub some_param : (params : List ParamInfo) (k : ℕ) → k < length params → ParamInfo
some_param [] k lt = absurd (omega (arith, lt))
some_param (param ∷ params) k lt = param

-- a node has a value for each of its parameters

unfoldable pub total : (ℕ → Class) → List ℕ → ℕ
total class_of [] = 0
total class_of (code ∷ codes) = length (class_of code).params + total class_of codes

abbrev params_by : (ℕ → Class) → List ℕ → List (List Param)
params_by class_of codes = map (λ code. (class_of code).params) codes

abbrev params_in : List Node → List (List Param)
params_in nodes = map (λ node. map param_of node.params) nodes

parts : (p q : List Param) (ps qs : List (List Param)) → p ∷ ps ≡ q ∷ qs → (p ≡ q) × (ps ≡ qs)
parts p q ps qs is = (cc, cc)

pub total_is : (class_of : ℕ → Class) (codes : List ℕ) (nodes : List Node) → params_by class_of codes ≡ params_in nodes → total class_of codes ≡ param_count nodes
unfolding total
total_is class_of [] [] are = refl
total_is class_of [] (node ∷ nodes) are = let long = ap length are in absurd (omega (arith, long))
total_is class_of (code ∷ codes) [] are = let long = ap length are in absurd (omega (arith, long))
total_is class_of (code ∷ codes) (node ∷ nodes) are =
    let both = parts (class_of code).params (map param_of node.params) (params_by class_of codes) (params_in nodes) are in
    let here : length (class_of code).params ≡ length node.params = ap length both.0 ∙ length-map node.params param_of in
    let rest = total_is class_of codes nodes both.1 in
    let sum = sum_by-cons (λ (n : Node). length n.params) node nodes in
    omega (arith, here, rest, sum)

full_firsts : (class_of : ℕ → Class) (codes values : List ℕ) (node : ℕ) → node < length codes → total class_of codes ≤ length values → length (get_or (by_node class_of codes values) node []) ≡ length (class_of (get_or codes node 0)).params
unfolding total
full_firsts class_of [] values node lt all = absurd (omega (arith, lt))
full_firsts class_of (code ∷ codes) values zero lt all = let long = length-take (length (class_of code).params) values in omega (arith, long, all)
full_firsts class_of (code ∷ codes) values (suc node) lt all =
    let left = length-drop (length (class_of code).params) values in
    full_firsts class_of codes (drop (length (class_of code).params) values) node (omega (arith, lt)) (omega (arith, left, all))

pub class_at_node : (session : Content) (class_of : ℕ → Class) (codes : List ℕ) (node : ℕ) → AreClassesOf class_of codes session → node < length session.nodes → (class_of (get_or codes node 0)).params ≡ map param_of (node_at session.nodes node).params
class_at_node session class_of codes node are there =
    let count : length codes ≡ length session.nodes = sym (length-map codes (λ (code : ℕ). (class_of code).params)) ∙ ap length are ∙ length-map session.nodes (λ (n : Node). map param_of n.params) in
    sym (get_or-map (λ (code : ℕ). (class_of code).params) codes node 0 [] (omega (arith, there, count)))
    ∙ ap (λ (ps : List (List Param)). get_or ps node []) are
    ∙ get_or-map (λ (n : Node). map param_of n.params) session.nodes node no_node [] there

pub values_each : (session : Content) (class_of : ℕ → Class) (codes firsts : List ℕ) (h : List Entry) (s node : ℕ) → AreClassesOf class_of codes session → AreFirsts session.nodes firsts → node < length session.nodes
    → length (values_at (scene_of class_of codes firsts session) h s node) ≡ length (node_at session.nodes node).params
values_each session class_of codes firsts h s node are flat there =
    let scene = scene_of class_of codes firsts session in
    let count : length codes ≡ length session.nodes = sym (length-map codes (λ (code : ℕ). (class_of code).params)) ∙ ap length are ∙ length-map session.nodes (λ (n : Node). map param_of n.params) in
    let all = total_is class_of codes session.nodes are in
    let each = flat.each in
    let full : length (firsts_at scene node) ≡ length (params_at scene node) = full_firsts class_of codes firsts node (omega (arith, there, count)) (omega (arith, all, each)) in
    let size : length (params_at scene node) ≡ length (node_at session.nodes node).params = ap length (class_at_node session class_of codes node are there) ∙ length-map (node_at session.nodes node).params param_of in
    values_long scene h node (params_at scene node) (firsts_at scene node) s (omega (arith, full)) ∙ full ∙ size

either : (t : Bool) → (t || true) ≡ true
either true = refl
either false = refl

-- a read-only parameter is one that is shown
pub shows : (params : List ParamInfo) (k : ℕ) (d : ParamInfo) → k < length params → is_read_only (get_or params k d).flags ≡ true → has_shown (map param_of params) (get_or params k d).id ≡ true
shows [] k d lt only = absurd (omega (arith, lt))
shows (param ∷ params) zero d lt only =
    ap (λ t. (t && is_read_only param.flags) || has_shown (map param_of params) param.id) (eq-eqb param.id param.id refl)
    ∙ ap (λ t. t || has_shown (map param_of params) param.id) only
shows (param ∷ params) (suc k) d lt only =
    let id = (get_or params k d).id in
    let first = (param.id == id) && is_read_only param.flags in
    ap (λ t. first || t) (shows params k d (omega (arith, lt)) only) ∙ either first

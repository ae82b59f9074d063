-- A parameter's value is the one at its place among its node's.
use Rattle.std.proofs.Common.{◌≡◌, ◌∙◌, ℕ, zero, suc, ◌+◌, ◌<◌, ◌≤◌, List, [], ◌∷◌, length, map, get_or, take, drop, slice_index, Some, refl, sym, ap, subst, arith}
use Rattle.std.proofs.lemmas.List.{get_or-map, length-map, get_or-take, get_or-drop, drop-drop, length-drop, length-take}
use Rattle.std.proofs.lemmas.List.Sums.{sum_by-cons}
use Rattle.vh_params.specs.declared.param.ParamInfo.{ParamInfo}
use Rattle.vh_params.specs.Nodes.{Node, no_node, node_at, info_in}
use Rattle.vh_plugin.specs.Class.{Class, Param, param_of}
use Rattle.vh_journal.specs.declared.entry.Entry.{Entry}
use Rattle.vh_meaning.specs.Scene.{Scene, by_node, scene_of}
use Rattle.vh_meaning.specs.Values.{value_of, values_of}
use Rattle.vh_legal.specs.Values.{param_count, place_in, place_of, param_or_none, param_at}
use Rattle.vh_legal.specs.Laws.{ValueIsInPlace}
use Rattle.vh_legal.proofs.Found.{info_is, told, node_within}

values_in_place : (scene : Scene) (h : List Entry) (node : ℕ) (params : List Param) (firsts : List ℕ) (s k : ℕ) (d : Param) (e : ℕ) → k < length params → k < length firsts
    → get_or (values_of scene h node params firsts s) k e ≡ value_of scene h node (get_or params k d) (get_or firsts k e) s
values_in_place scene h node [] firsts s k d e within some = absurd (omega (arith, within))
values_in_place scene h node (param ∷ params) [] s k d e within some = absurd (omega (arith, some))
values_in_place scene h node (param ∷ params) (first ∷ firsts) s zero d e within some = refl
values_in_place scene h node (param ∷ params) (first ∷ firsts) s (suc k) d e within some = values_in_place scene h node params firsts s k d e (omega (arith, within)) (omega (arith, some))

-- what of nodes bears on their values
abbrev params_in : List Node → List (List Param)
params_in nodes = map (λ node. map param_of node.params) nodes

abbrev params_by : (ℕ → Class) → List ℕ → List (List Param)
params_by class_of codes = map (λ code. (class_of code).params) codes

first_of : (p q : List Param) (ps qs : List (List Param)) → p ∷ ps ≡ q ∷ qs → (p ≡ q) × (ps ≡ qs)
first_of p q ps qs is = (cc, cc)

-- the first values of a node, among those of all
by_node_at : (class_of : ℕ → Class) (codes : List ℕ) (nodes : List Node) (firsts : List ℕ) (node : ℕ) → params_by class_of codes ≡ params_in nodes → node < length nodes
    → get_or (by_node class_of codes firsts) node [] ≡ take (length (node_at nodes node).params) (drop (param_count (take node nodes)) firsts)
by_node_at class_of codes [] firsts node are within = absurd (omega (arith, within))
by_node_at class_of [] (n ∷ nodes) firsts node are within = absurd (let long = ap length are in omega (arith, long))
by_node_at class_of (code ∷ codes) (n ∷ nodes) firsts zero are within =
    let both = first_of (class_of code).params (map param_of n.params) (params_by class_of codes) (params_in nodes) are in
    ap (λ (ps : List Param). take (length ps) firsts) both.0 ∙ ap (λ m. take m firsts) (length-map n.params param_of)
by_node_at class_of (code ∷ codes) (n ∷ nodes) firsts (suc k) are within =
    let both = first_of (class_of code).params (map param_of n.params) (params_by class_of codes) (params_in nodes) are in
    let long : length (class_of code).params ≡ length n.params = ap length both.0 ∙ length-map n.params param_of in
    let rest = by_node_at class_of codes nodes (drop (length (class_of code).params) firsts) k both.1 (omega (arith, within)) in
    let behind : drop (param_count (take k nodes)) (drop (length (class_of code).params) firsts) ≡ drop (param_count (n ∷ take k nodes)) firsts =
    drop-drop (param_count (take k nodes)) (length (class_of code).params) firsts
    ∙ ap (λ m. drop m firsts) (ap (λ m. m + param_count (take k nodes)) long ∙ sym (sum_by-cons (λ (x : Node). length x.params) n (take k nodes))) in
    rest ∙ ap (take (length (node_at nodes k).params)) behind

pub law_value_is_in_place : ValueIsInPlace
law_value_is_in_place session class_of codes firsts h node id s are flat there other others =
    let nodes = session.nodes in
    let info = info_is (info_in nodes node id) there in
    let is = told nodes node id info.0 info.1 in
    let k = place_in nodes node id in
    let params = (node_at nodes node).params in
    let scene = scene_of class_of codes firsts session in
    let none : Param = param_or_none (info_in nodes node id) in
    let count : length codes ≡ length nodes = sym (length-map codes (λ (code : ℕ). (class_of code).params)) ∙ ap length are ∙ length-map nodes (λ (n : Node). map param_of n.params) in
    let class_params : (class_of (get_or codes node 0)).params ≡ map param_of params =
    sym (get_or-map (λ (code : ℕ). (class_of code).params) codes node 0 [] (omega (arith, is.node_is, count)))
    ∙ ap (λ (ps : List (List Param)). get_or ps node []) are
    ∙ get_or-map (λ (n : Node). map param_of n.params) nodes node no_node [] is.node_is in
    let long : length (map param_of params) ≡ length params = length-map params param_of in
    let start = param_count (take node nodes) in
    let own : get_or (by_node class_of codes firsts) node [] ≡ take (length params) (drop start firsts) = by_node_at class_of codes nodes firsts node are is.node_is in
    let size : length (take (length params) (drop start firsts)) ≡ length params =
    let a = length-take (length params) (drop start firsts) in let b = length-drop start firsts in let most = node_within nodes node is.node_is in omega (arith, a, b, flat.each, most) in
    let first : get_or (take (length params) (drop start firsts)) k 0 ≡ slice_index firsts (place_of nodes node id) = get_or-take (length params) (drop start firsts) k 0 is.within ∙ get_or-drop start firsts k 0 in
    let param : get_or (map param_of params) k none ≡ param_at nodes node id = get_or-map param_of params k info.0 none is.within ∙ ap param_of (is.at info.0) ∙ ap param_or_none info.1 in
    ap (λ (ps : List Param). get_or (values_of scene h node ps (get_or (by_node class_of codes firsts) node []) s) k 0) class_params
    ∙ ap (λ (fs : List ℕ). get_or (values_of scene h node (map param_of params) fs s) k 0) own
    ∙ values_in_place scene h node (map param_of params) (take (length params) (drop start firsts)) s k none 0 (omega (arith, is.within, long)) (omega (arith, is.within, size))
    ∙ ap (λ (p : Param). value_of scene h node p (get_or (take (length params) (drop start firsts)) k 0) s) param
    ∙ ap (λ n. value_of scene h node (param_at nodes node id) n s) first

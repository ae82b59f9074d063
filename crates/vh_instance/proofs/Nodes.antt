-- What holds of each node of a session.
use Rattle.std.proofs.Common.{◌≡◌, ℕ, ◌<◌, List, length, map, get_or, replicate, sym, ap, ◌∙◌, arith}
use Rattle.std.specs.List.{range_with_len, flat_map}
use Rattle.std.proofs.lemmas.List.{length-map, length-replicate, get_or-map, get_or-replicate, same_lists}
use Rattle.std.proofs.lemmas.List.Folds.{flat_map-map}
use Rattle.std.proofs.lemmas.Simd.{map-map}
use Rattle.std.proofs.lemmas.List.FromFn.{length-map-range_with_len, get_or-map-range_with_len}
use Rattle.vh_params.specs.Nodes.{Node, no_node, node_at}
use Rattle.vh_plugin.specs.Class.{Class, Param, param_of}
use Rattle.vh_instance.specs.Band.{by_node}

-- as many as nodes
pub as_many : {A B : Type 0} (f : A → B) (xs : List A) (of : ℕ → B) (count : ℕ) → map f xs ≡ by_node count of → length xs ≡ count
as_many f xs of count same = sym (length-map xs f) ∙ ap length same ∙ length-map-range_with_len of 0 count

-- alike at each node
pub alike : {A : Type 0} (f g : ℕ → A) (count : ℕ) → ((node : ℕ) → node < count → f node ≡ g node) → by_node count f ≡ by_node count g
alike f g count same =
    let size = length-map-range_with_len f 0 count in
    same_lists (by_node count f) (by_node count g) (size ∙ sym (length-map-range_with_len g 0 count)) (λ node d lt.
    let there : node < count = omega (arith, lt, size) in
    get_or-map-range_with_len f 0 count node node d there (omega arith) ∙ same node there ∙ sym (get_or-map-range_with_len g 0 count node node d there (omega arith)))

pub all_alike : {A : Type 0} (f : ℕ → A) (a : A) (count : ℕ) → ((node : ℕ) → node < count → f node ≡ a) → by_node count f ≡ replicate count a
all_alike f a count same =
    let size = length-map-range_with_len f 0 count in
    same_lists (by_node count f) (replicate count a) (size ∙ sym (length-replicate count a)) (λ node d lt.
    let there : node < count = omega (arith, lt, size) in
    get_or-map-range_with_len f 0 count node node d there (omega arith) ∙ same node there ∙ sym (get_or-replicate count node a d there))

-- the one of a node
pub at_node : {A B : Type 0} (f : A → B) (xs : List A) (of : ℕ → B) (count node : ℕ) (x : A) → map f xs ≡ by_node count of → node < count → x ≡ get_or xs node x → f x ≡ of node
at_node f xs of count node x same lt is =
    ap f is ∙ sym (get_or-map f xs node x (f x) (omega (arith, lt, as_many f xs of count same))) ∙ ap (λ ys. get_or ys node (f x)) same ∙ get_or-map-range_with_len of 0 count node node (f x) lt (omega arith)

-- lists, one after the other
pub one_after_other : {A : Type 0} (f : A → List ℕ) (xs : List A) (of : ℕ → List ℕ) (count : ℕ) → map f xs ≡ by_node count of → flat_map f xs ≡ flat_map of (range_with_len 0 count)
one_after_other f xs of count same =
    sym (flat_map-map (λ (list : List ℕ). list) f xs) ∙ ap (λ (lists : List (List ℕ)). flat_map (λ (list : List ℕ). list) lists) same ∙ flat_map-map (λ (list : List ℕ). list) of (range_with_len 0 count)

-- classes with the nodes' parameters
pub params_alike : {A : Type 0} (code : A → ℕ) (xs : List A) (class_of : ℕ → Class) (of : ℕ → ℕ) (nodes : List Node) → map code xs ≡ by_node (length nodes) of → ((node : ℕ) → node < length nodes → (class_of (of node)).params ≡ map param_of (node_at nodes node).params)
    → map (λ x. (class_of (code x)).params) xs ≡ map (λ node. map param_of node.params) nodes
params_alike code xs class_of of nodes same each =
    let params : ℕ → List Param = λ c. (class_of c).params in
    let infos : Node → List Param = λ node. map param_of node.params in
    let count = length nodes in
    let ours : map (λ x. params (code x)) xs ≡ map (λ node. params (of node)) (range_with_len 0 count) = sym (map-map params code xs) ∙ ap (map params) same ∙ map-map params of (range_with_len 0 count) in
    let size = length-map-range_with_len (λ node. params (of node)) 0 count in
    let theirs : map (λ node. params (of node)) (range_with_len 0 count) ≡ map infos nodes = same_lists (map (λ node. params (of node)) (range_with_len 0 count)) (map infos nodes) (size ∙ sym (length-map nodes infos)) (λ node d lt.
    let there : node < count = omega (arith, lt, size) in
    get_or-map-range_with_len (λ node. params (of node)) 0 count node node d there (omega arith) ∙ each node there ∙ sym (get_or-map infos nodes node no_node d there)) in
    ours ∙ theirs

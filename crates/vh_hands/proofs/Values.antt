-- The values of all controllers.
use Rattle.std.proofs.Common.{◌≡◌, ◌∙◌, ℕ, suc, ◌+◌, ◌<◌, ◌≤◌, List, [], ◌∷◌, ◌++◌, length, take, drop, map, get_or, Option, refl, sym, ap, arith}
use Rattle.std.specs.Prelude.{All, Vec, vec_capacity}
use Rattle.std.specs.List.{concat}
use Rattle.std.specs.declared.alloc.Global.{Global}
use Rattle.std.proofs.lemmas.List.Elements.{All-cons, All-head, All-tail}
use Rattle.std.proofs.lemmas.List.{length-map, take_at}
use Rattle.vh_params.specs.declared.param.ParamInfo.{ParamInfo}
use Rattle.vh_params.specs.Nodes.{Node, no_node}
use Rattle.vh_plugin.specs.Class.{Class, Param, param_of}
use Rattle.vh_counted.specs.declared.object.Holder.{Holder}
use Rattle.vh_counted.specs.declared.object.Opened.{Opened}
use Rattle.vh_instance.specs.Seats.{Seat, holder_seat, row_seats}
use Rattle.vh_counted.specs.Held.{value_of_opened}
use Rattle.vh_back.specs.declared.item.Parameter.{Parameter}
use Rattle.vh_back.specs.Items.{parameter}
use Rattle.vh_back.specs.Follows.{followed, parameters_at, of_openers, AreFollowed}
use Rattle.vh_back.proofs.Following.{parts_followed}
use Rattle.vh_stage.specs.Parameters.{infos_at, parameters_from, all_parameters}
use Rattle.vh_hands.specs.Following.{HaveParams}

-- the parameters of a node are those of its class
infos_of : (node : ℕ) (params : List ParamInfo) → parameters_at node (map param_of params) ≡ infos_at node params
infos_of node [] = refl
infos_of node (param ∷ params) = ap (λ (ps : List Parameter). parameter node param.id ∷ ps) (infos_of node params)

-- nodes from a number on, of which each follows
all_follow : (class_of : ℕ → Class) (last : Parameter → Option ℕ) (number : ℕ) (nodes : List Node) (codes : List ℕ) (firsts news : List (List ℕ)) → length codes ≡ length nodes → length firsts ≡ length nodes → length news ≡ length nodes
    → ((k : ℕ) → k < length nodes → (class_of (get_or codes k 0)).params ≡ map param_of (get_or nodes k no_node).params)
    → ((k : ℕ) → k < length nodes → length (get_or firsts k []) ≡ length (class_of (get_or codes k 0)).params)
    → ((k : ℕ) → k < length nodes → get_or news k [] ≡ followed last (parameters_at (number + k) (class_of (get_or codes k 0)).params) (get_or firsts k []))
    → concat news ≡ followed last (parameters_from number nodes) (concat firsts)
all_follow class_of last number [] [] [] [] c f n params sizes each = refl
all_follow class_of last number [] (code ∷ codes) firsts news c f n params sizes each = absurd (omega (arith, c))
all_follow class_of last number [] [] (first ∷ firsts) news c f n params sizes each = absurd (omega (arith, f))
all_follow class_of last number [] [] [] (new ∷ news) c f n params sizes each = absurd (omega (arith, n))
all_follow class_of last number (node ∷ nodes) [] firsts news c f n params sizes each = absurd (omega (arith, c))
all_follow class_of last number (node ∷ nodes) (code ∷ codes) [] news c f n params sizes each = absurd (omega (arith, f))
all_follow class_of last number (node ∷ nodes) (code ∷ codes) (first ∷ firsts) [] c f n params sizes each = absurd (omega (arith, n))
all_follow class_of last number (node ∷ nodes) (code ∷ codes) (first ∷ firsts) (new ∷ news) c f n params sizes each =
    let zeroth : number + 0 ≡ number = omega arith in
    let ones = infos_at number node.params in
    let are : (class_of code).params ≡ map param_of node.params = params 0 (omega arith) in
    let long : length first ≡ length ones = sizes 0 (omega arith) ∙ ap length are ∙ length-map node.params param_of ∙ sym (length-map node.params (λ (param : ParamInfo). parameter number param.id)) in
    let here : new ≡ followed last ones first =
    each 0 (omega arith) ∙ ap (λ (k : ℕ). followed last (parameters_at k (class_of code).params) first) zeroth ∙ ap (λ (ps : List Param). followed last (parameters_at number ps) first) are ∙ ap (λ (ps : List Parameter). followed last ps first) (infos_of number node.params) in
    let rest = all_follow class_of last (suc number) nodes codes firsts news (omega (arith, c)) (omega (arith, f)) (omega (arith, n)) (λ k lt. params (suc k) (omega (arith, lt))) (λ k lt. sizes (suc k) (omega (arith, lt)))
    (λ k lt. each (suc k) (omega (arith, lt)) ∙ (let next : number + suc k ≡ suc number + k = omega arith in ap (λ (j : ℕ). followed last (parameters_at j (class_of (get_or codes k 0)).params) (get_or firsts k [])) next)) in
    ap (λ (vs : List ℕ). vs ++ concat news) here ∙ ap (λ (vs : List ℕ). followed last ones first ++ vs) rest ∙ sym (parts_followed last ones (parameters_from (suc number) nodes) first (concat firsts) long)

-- controllers that follow have the last values of all parameters
pub values_follow : {C : Type 0} (class_of : ℕ → Class) (code : C → ℕ) (values : C → List ℕ) (last : Parameter → Option ℕ) (nodes : List Node) (firsts : List (List ℕ)) (old new : List (Opened C))
    → HaveParams class_of (of_openers code old) nodes → length firsts ≡ length (of_openers code old)
    → ((node : ℕ) → node < length (of_openers code old) → length (get_or firsts node []) ≡ length (class_of (get_or (of_openers code old) node 0)).params)
    → AreFollowed class_of last (of_openers code old) firsts (of_openers values new) → length new ≡ length old
    → concat (of_openers values new) ≡ followed last (all_parameters nodes) (concat firsts)
values_follow {C} class_of code values last nodes firsts old new have size sizes follows same =
    let many = have.size in
    let codes = length-map old (λ (opener : Opened C). code (value_of_opened opener)) in
    let news = length-map new (λ (opener : Opened C). values (value_of_opened opener)) in
    all_follow class_of last 0 nodes (of_openers code old) firsts (of_openers values new) many (size ∙ many) (omega (arith, news, same, codes, many)) have.params
    (λ k lt. sizes k (omega (arith, lt, many)))
    (λ k lt. follows.each k (omega (arith, lt, many)) ∙ (let at : k ≡ 0 + k = omega arith in ap (λ (j : ℕ). followed last (parameters_at j (class_of (get_or (of_openers code old) k 0)).params) (get_or firsts k [])) at))

-- what is meant of openers with the same values
pub meant_same : {C A : Type 0} (meant : C → A) (xs ys : List (Opened C)) → map value_of_opened xs ≡ map value_of_opened ys → of_openers meant xs ≡ of_openers meant ys
meant_same meant [] [] v = refl
meant_same meant [] (y ∷ ys) v = absurd cc
meant_same meant (x ∷ xs) [] v = absurd cc
meant_same {A = A} meant (x ∷ xs) (y ∷ ys) v =
    let here : value_of_opened x ≡ value_of_opened y = cc in
    let rest : map value_of_opened xs ≡ map value_of_opened ys = cc in
    ap (λ c. meant c ∷ of_openers meant xs) here ∙ ap (λ (l : List A). meant (value_of_opened y) ∷ l) (meant_same meant xs ys rest)

-- a slice that was written back
pub written : {X : Type 0} (len : ℕ) (new old : List X) → length new ≡ len → take len (new ++ drop (length new) old) ≡ new
written len new old same = take_at new (drop (length new) old) len same

-- rows of so many holders have as much memory
pub as_roomy : {C : Type 0} (n : ℕ) (rows : List (Vec (Holder C) Global)) → All (λ row. length row ≡ n) (map row_seats rows) → All (λ room. n ≤ room) (map vec_capacity rows)
as_roomy n [] long = λ k d lt. absurd (omega (arith, lt))
as_roomy {C} n (row ∷ rows) long =
    let size = All-head (λ (r : List Seat). length r ≡ n) (row_seats row) (map row_seats rows) long in
    let count = length-map row.items (λ (holder : Holder C). holder_seat holder) in
    let ok = row.ok in
    All-cons (λ (room : ℕ). n ≤ room) (vec_capacity row) (map vec_capacity rows) (omega (arith, size, count, ok.0, ok.1)) (as_roomy n rows (All-tail (λ (r : List Seat). length r ≡ n) (row_seats row) (map row_seats rows) long))

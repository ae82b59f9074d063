-- First values that are written are read.
use Rattle.std.proofs.Common.{◌≡◌, ◌∙◌, ◌⊎◌, inl, inr, ℕ, zero, suc, ◌+◌, ◌<◌, ◌≤◌, ◌==◌, Bool, true, false, cond, List, [], ◌∷◌, ◌++◌, ◌-◌, set, length, get_or, refl, sym, ap, subst, arith, Some, None, Option, nat_lt}
use Rattle.std.specs.Prelude.{All, ◌&&◌}
use Rattle.std.specs.List.{filter_map, cons_option}
use Rattle.std.specs.Option.{option_map}
use Rattle.std.proofs.lemmas.Bool.{and_parts, or_cases, ltb-true, eqb-true, eq-eqb, eqb-false, false_from_ne_true}
use Rattle.std.proofs.lemmas.List.{append_assoc, append-nil, length-append, get_or_append_left, get_or-append_right}
use Rattle.std.proofs.lemmas.List.Elements.{All-tail, All-push}
use Rattle.vh_params.specs.declared.param.ParamInfo.{ParamInfo}
use Rattle.vh_params.specs.Nodes.{Node, node_at}
use Rattle.vh_params.specs.Params.{param_in, AreRising}
use Rattle.vh_session.specs.Content.{value_in, first_of, firsts_from}
use Rattle.vh_session.specs.Keeps.{is_earlier}

-- values of a node, all of lower ids
abbrev pub Lower : ℕ → List (ℕ × ℕ) → Type 0
Lower id firsts = All (λ first. first.0 < id) firsts

value_none : (firsts : List (ℕ × ℕ)) (bound id : ℕ) → bound ≤ id → Lower bound firsts → value_in firsts id ≡ None
value_none [] bound id le lower = refl
value_none (first ∷ firsts) bound id le lower =
    let lt = lower 0 first (omega arith) in
    ap (λ t. cond t (Some first.1) (value_in firsts id)) (false_from_ne_true (first.0 == id) (λ test. let e = eqb-true first.0 id test in omega (arith, e, lt, le)))
    ∙ value_none firsts bound id le (All-tail (λ first. first.0 < bound) first firsts lower)

value_new : (firsts : List (ℕ × ℕ)) (id value : ℕ) → Lower id firsts → value_in (firsts ++ (id, value) ∷ []) id ≡ Some value
value_new [] id value lower = ap (λ t. cond t (Some value) None) (eq-eqb id id refl)
value_new (first ∷ firsts) id value lower =
    let lt = lower 0 first (omega arith) in
    ap (λ t. cond t (Some first.1) (value_in (firsts ++ (id, value) ∷ []) id)) (false_from_ne_true (first.0 == id) (λ test. let e = eqb-true first.0 id test in omega (arith, e, lt)))
    ∙ value_new firsts id value (All-tail (λ first. first.0 < id) first firsts lower)

value_other : (firsts : List (ℕ × ℕ)) (id value other : ℕ) → (id == other) ≡ false → value_in (firsts ++ (id, value) ∷ []) other ≡ value_in firsts other
value_other [] id value other differ = ap (λ t. cond t (Some value) None) differ
value_other (first ∷ firsts) id value other differ = elim (first.0 == other) as (λ t. cond t (Some first.1) (value_in (firsts ++ (id, value) ∷ []) other) ≡ cond t (Some first.1) (value_in firsts other)) [
  | true ↦ refl
  | false ↦ value_other firsts id value other differ
]

-- parameters of which none has a value
none_of : (node : ℕ) (firsts : List (ℕ × ℕ)) (params : List ParamInfo) → ((i : ℕ) (d : ParamInfo) → i < length params → value_in firsts (get_or params i d).id ≡ None) → filter_map (first_of node firsts) params ≡ []
none_of node firsts [] none = refl
none_of node firsts (param ∷ params) none =
    ap (λ o. cons_option (option_map (λ value. (node, param.id, value)) o) (filter_map (first_of node firsts) params)) (none 0 param (omega arith))
    ∙ none_of node firsts params (λ i d lt. none (suc i) d (omega (arith, lt)))

-- a value more, of a higher id than those of the node so far
pub node_last : (node : ℕ) (firsts : List (ℕ × ℕ)) (id value : ℕ) (params : List ParamInfo) (param : ParamInfo) → AreRising params → Lower id firsts → param_in params id ≡ Some param
    → filter_map (first_of node (firsts ++ (id, value) ∷ [])) params ≡ filter_map (first_of node firsts) params ++ (node, id, value) ∷ []
node_last node firsts id value [] param rising lower found = absurd (subst (λ o. elim o as (λ _. Type 0) [ None ↦ Unit {0} | Some m ↦ ⊥ ]) found tt)
node_last node firsts id value (p ∷ params) param rising lower found = elim (p.id == id) as (λ t. (p.id == id) ≡ t → cond t (Some p) (param_in params id) ≡ Some param → filter_map (first_of node (firsts ++ (id, value) ∷ [])) (p ∷ params) ≡ filter_map (first_of node firsts) (p ∷ params) ++ (node, id, value) ∷ []) [
  | true ↦ λ test is.
      let same = eqb-true p.id id test in
      let above : (i : ℕ) (d : ParamInfo) → i < length params → id < (get_or params i d).id = λ i d lt. let r = rising 0 (suc i) d (omega arith) (omega (arith, lt)) in omega (arith, r, same) in
      let more_none : filter_map (first_of node (firsts ++ (id, value) ∷ [])) params ≡ [] = none_of node (firsts ++ (id, value) ∷ []) params (λ i d lt. let a = above i d lt in value_other firsts id value (get_or params i d).id (false_from_ne_true (id == (get_or params i d).id) (λ test. let e = eqb-true id (get_or params i d).id test in omega (arith, e, a))) ∙ value_none firsts id (get_or params i d).id (omega (arith, a)) lower) in
      let old_none : filter_map (first_of node firsts) params ≡ [] = none_of node firsts params (λ i d lt. let a = above i d lt in value_none firsts id (get_or params i d).id (omega (arith, a)) lower) in
      let here : value_in (firsts ++ (id, value) ∷ []) p.id ≡ Some value = ap (λ i. value_in (firsts ++ (id, value) ∷ []) i) same ∙ value_new firsts id value lower in
      let was : value_in firsts p.id ≡ None = value_none firsts id p.id (omega (arith, same)) lower in
      ap (λ o. cons_option (option_map (λ v. (node, p.id, v)) o) (filter_map (first_of node (firsts ++ (id, value) ∷ [])) params)) here
      ∙ ap (λ xs. (node, p.id, value) ∷ xs) more_none
      ∙ ap (λ i. (node, i, value) ∷ []) same
      ∙ sym (ap (λ o. cons_option (option_map (λ v. (node, p.id, v)) o) (filter_map (first_of node firsts) params) ++ (node, id, value) ∷ []) was ∙ ap (λ xs. xs ++ (node, id, value) ∷ []) old_none)
  | false ↦ λ test is.
      let differ : (id == p.id) ≡ false = false_from_ne_true (id == p.id) (λ t. let e = eqb-true id p.id t in let n = eqb-false p.id id test in n (sym e)) in
      let rest = node_last node firsts id value params param (λ i j d lt jl. rising (suc i) (suc j) d (omega (arith, lt)) (omega (arith, jl))) lower is in
      ap (λ o. cons_option (option_map (λ v. (node, p.id, v)) o) (filter_map (first_of node (firsts ++ (id, value) ∷ [])) params)) (value_other firsts id value p.id differ)
      ∙ ap (λ xs. cons_option (option_map (λ v. (node, p.id, v)) (value_in firsts p.id)) xs) rest
      ∙ pull (option_map (λ v. (node, p.id, v)) (value_in firsts p.id)) (filter_map (first_of node firsts) params) ((node, id, value) ∷ [])
] refl found
  where
    pull : (o : Option (ℕ × ℕ × ℕ)) (xs ys : List (ℕ × ℕ × ℕ)) → cons_option o (xs ++ ys) ≡ cons_option o xs ++ ys
    pull None xs ys = refl
    pull (Some x) xs ys = refl

-- no values from this node on
abbrev pub BareFrom : ℕ → List (List (ℕ × ℕ)) → Type 0
BareFrom least firsts = (node : ℕ) → least ≤ node → get_or firsts node [] ≡ []

bare_from : (start : ℕ) (nodes : List Node) (firsts : List (List (ℕ × ℕ))) → BareFrom 0 firsts → firsts_from start nodes firsts ≡ []
bare_from start [] firsts bare = refl
bare_from start (n ∷ nodes) [] bare = refl
bare_from start (n ∷ nodes) (f ∷ firsts) bare =
    let here : f ≡ [] = bare 0 (omega arith) in
    ap (λ fs. filter_map (first_of start fs) n.params ++ firsts_from (start + 1) nodes firsts) here
    ∙ ap (λ xs. xs ++ firsts_from (start + 1) nodes firsts) (none_of start [] n.params (λ i d lt. refl))
    ∙ bare_from (start + 1) nodes firsts (λ node le. bare (suc node) (omega arith))

pub first_last : (start : ℕ) (nodes : List Node) (firsts : List (List (ℕ × ℕ))) (node id value : ℕ) (param : ParamInfo) → node < length nodes → length firsts ≡ length nodes → All (λ n. AreRising n.params) nodes → Lower id (get_or firsts node []) → BareFrom (node + 1) firsts → param_in (node_at nodes node).params id ≡ Some param
    → firsts_from start nodes (set firsts node (get_or firsts node [] ++ (id, value) ∷ [])) ≡ firsts_from start nodes firsts ++ (start + node, id, value) ∷ []
first_last start [] firsts node id value param lt many rising lower bare found = absurd (omega (arith, lt))
first_last start (n ∷ nodes) [] node id value param lt many rising lower bare found = absurd (omega (arith, many))
first_last start (n ∷ nodes) (f ∷ firsts) zero id value param lt many rising lower bare found =
    let rest = bare_from (start + 1) nodes firsts (λ m le. bare (suc m) (omega arith)) in
    let mine = node_last start f id value n.params param (rising 0 n (omega arith)) lower found in
    ap (λ xs. filter_map (first_of start (f ++ (id, value) ∷ [])) n.params ++ xs) rest
    ∙ append-nil (filter_map (first_of start (f ++ (id, value) ∷ [])) n.params) ∙ mine
    ∙ ap (λ m. filter_map (first_of start f) n.params ++ (m, id, value) ∷ []) (let e : start ≡ start + 0 = omega arith in e)
    ∙ sym (ap (λ xs. (filter_map (first_of start f) n.params ++ xs) ++ (start + 0, id, value) ∷ []) rest ∙ ap (λ xs. xs ++ (start + 0, id, value) ∷ []) (append-nil (filter_map (first_of start f) n.params)))
first_last start (n ∷ nodes) (f ∷ firsts) (suc node) id value param lt many rising lower bare found =
    let R : Node → Type 0 = λ n. AreRising n.params in
    let rest = first_last (start + 1) nodes firsts node id value param (omega (arith, lt)) (omega (arith, many)) (All-tail R n nodes rising) lower (λ m le. bare (suc m) (omega (arith, le))) found in
    ap (λ xs. filter_map (first_of start f) n.params ++ xs) (rest ∙ ap (λ m. firsts_from (start + 1) nodes firsts ++ (m, id, value) ∷ []) (let e : (start + 1) + node ≡ start + suc node = omega arith in e))
    ∙ sym (append_assoc (filter_map (first_of start f) n.params) (firsts_from (start + 1) nodes firsts) ((start + suc node, id, value) ∷ []))

-- every value of a node is told by a list of them all
abbrev pub Told : List (List (ℕ × ℕ)) → List (ℕ × ℕ × ℕ) → Type 0
Told firsts done = (P : ℕ → ℕ → Bool) → All (λ first. P first.0 first.1 ≡ true) done → (node : ℕ) → All (λ first. P node first.0 ≡ true) (get_or firsts node [])

pub told_more : (firsts : List (List (ℕ × ℕ))) (done : List (ℕ × ℕ × ℕ)) (node id value : ℕ) → Told firsts done → Told (set firsts node (get_or firsts node [] ++ (id, value) ∷ [])) (done ++ (node, id, value) ∷ [])
told_more firsts done node id value told P all other =
    let D : ℕ × ℕ × ℕ → Type 0 = λ first. P first.0 first.1 ≡ true in
    let before : All D done = λ k d lt. subst D (get_or_append_left done ((node, id, value) ∷ []) d k lt) (all k d (let e = length-append done ((node, id, value) ∷ []) in omega (arith, e, lt))) in
    let long = length-append done ((node, id, value) ∷ []) in
    let last : P node id ≡ true = subst D (get_or-append_right done ((node, id, value) ∷ []) (length done) (length done) (node, id, value) refl (omega arith) ∙ (let z : length done - length done ≡ 0 = omega arith in ap (λ n. get_or ((node, id, value) ∷ []) n (node, id, value)) z)) (all (length done) (node, id, value) (omega (arith, long))) in
    put (λ n f. P n f.0 ≡ true) firsts node (get_or firsts node [] ++ (id, value) ∷ []) (λ n. told P before n) (All-push (λ f. P node f.0 ≡ true) (get_or firsts node []) (id, value) (told P before node) last) other
  where
    put : (H : ℕ → ℕ × ℕ → Type 0) (firsts : List (List (ℕ × ℕ))) (node : ℕ) (new : List (ℕ × ℕ)) → ((n : ℕ) → All (H n) (get_or firsts n [])) → All (H node) new → (n : ℕ) → All (H n) (get_or (set firsts node new) n [])
    put H [] node new old is n = old n
    put H (f ∷ fs) zero new old is zero = is
    put H (f ∷ fs) zero new old is (suc n) = old (suc n)
    put H (f ∷ fs) (suc node) new old is zero = old 0
    put H (f ∷ fs) (suc node) new old is (suc n) = put (λ m. H (suc m)) fs node new (λ m. old (suc m)) is n

none_if : (firsts : List (ℕ × ℕ)) → All (λ first. ⊥) firsts → firsts ≡ []
none_if [] all = refl
none_if (first ∷ firsts) all = absurd (all 0 first (omega arith))

early : (n i node id value : ℕ) → is_earlier (n, i, 0) (node, id, value) ≡ true → (n < node) ⊎ ((n ≡ node) × (i < id))
early n i node id value is = elim (or_cases (nat_lt n node) ((n == node) && nat_lt i id) is) [
  | inl before ↦ inl (ltb-true n node before)
  | inr here ↦ let both = and_parts (n == node) (nat_lt i id) here in inr (eqb-true n node both.0, ltb-true i id both.1)
]

low : (i node id value : ℕ) → is_earlier (node, i, 0) (node, id, value) ≡ true → i < id
low i node id value is = elim (early node i node id value is) [ inl lt ↦ absurd (omega (arith, lt)) | inr here ↦ here.1 ]

high : (n i node id value : ℕ) → node + 1 ≤ n → is_earlier (n, i, 0) (node, id, value) ≡ true → ⊥
high n i node id value le is = elim (early n i node id value is) [ inl lt ↦ omega (arith, lt, le) | inr here ↦ let e = here.0 in omega (arith, e, le) ]

-- what is earlier than a value: those of its node have lower ids, and later nodes have none
pub lower_told : (firsts : List (List (ℕ × ℕ))) (done : List (ℕ × ℕ × ℕ)) (node id value : ℕ) → Told firsts done → All (λ other. is_earlier other (node, id, value) ≡ true) done → Lower id (get_or firsts node []) × BareFrom (node + 1) firsts
lower_told firsts done node id value told earlier =
    let P : ℕ → ℕ → Bool = λ n i. is_earlier (n, i, 0) (node, id, value) in
    let all = told P earlier in
    (λ k d lt. low (get_or (get_or firsts node []) k d).0 node id value (all node k d lt), λ n le. none_if (get_or firsts n []) (λ k d lt. high n (get_or (get_or firsts n []) k d).0 node id value le (all n k d lt)))

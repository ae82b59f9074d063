-- Lists by node, filled wire by wire.
use Rattle.std.proofs.Common.{◌≡◌, ◌∙◌, ℕ, ◌+◌, ◌<◌, ◌==◌, true, false, cond, List, [], ◌∷◌, ◌++◌, length, get_or, set, take, map, refl, sym, ap, subst, arith}
use Rattle.std.specs.Prelude.{filter, Vec}
use Rattle.std.specs.declared.alloc.Global.{Global}
use Rattle.std.proofs.lemmas.Bool.{eqb-true, eqb-false}
use Rattle.std.proofs.lemmas.List.{get_or-set_same, get_or-set_other, length-set, append-nil, take_more}
use Rattle.vh_graph.specs.Paths.{sources_of, AreSources}

one_more : (wires : List (ℕ × ℕ)) (wire : ℕ × ℕ) (node : ℕ) → sources_of (wires ++ wire ∷ []) node ≡ sources_of wires node ++ cond (wire.1 == node) (wire.0 ∷ []) []
one_more [] wire node = elim (wire.1 == node) as (λ t. map (λ (w : ℕ × ℕ). w.0) (cond t (wire ∷ []) []) ≡ cond t (wire.0 ∷ []) []) [
  | true ↦ refl
  | false ↦ refl
]
one_more (w ∷ ws) wire node =
    elim (w.1 == node) as (λ t. map (λ (x : ℕ × ℕ). x.0) (cond t (w ∷ filter (λ (x : ℕ × ℕ). x.1 == node) (ws ++ wire ∷ [])) (filter (λ (x : ℕ × ℕ). x.1 == node) (ws ++ wire ∷ [])))
    ≡ map (λ (x : ℕ × ℕ). x.0) (cond t (w ∷ filter (λ (x : ℕ × ℕ). x.1 == node) ws) (filter (λ (x : ℕ × ℕ). x.1 == node) ws)) ++ cond (wire.1 == node) (wire.0 ∷ []) []) [
      | true ↦ ap (λ ns. w.0 ∷ ns) (one_more ws wire node)
      | false ↦ one_more ws wire node
    ]

pub sources_more : (wires : List (ℕ × ℕ)) (i : ℕ) (wire : ℕ × ℕ) (lists : List (Vec ℕ Global)) (list : Vec ℕ Global) → i < length wires → get_or wires i (0, 0) ≡ wire → wire.1 < length lists
    → list.items ≡ (get_or lists wire.1 list).items ++ wire.0 ∷ [] → AreSources (take i wires) lists → AreSources (take (i + 1) wires) (set lists wire.1 list)
sources_more wires i wire lists list lt is inside added are node d within =
    let more : sources_of (take (i + 1) wires) node ≡ sources_of (take i wires) node ++ cond (wire.1 == node) (wire.0 ∷ []) [] =
    ap (λ ws. sources_of ws node) (take_more wires i (0, 0) lt) ∙ ap (λ w. sources_of (take i wires ++ w ∷ []) node) is ∙ one_more (take i wires) wire node in
    let long = length-set lists wire.1 list in
    let before : node < length lists = omega (arith, within, long) in
    elim (wire.1 == node) as (λ t. (wire.1 == node) ≡ t → sources_of (take (i + 1) wires) node ≡ sources_of (take i wires) node ++ cond t (wire.0 ∷ []) [] → (get_or (set lists wire.1 list) node d).items ≡ sources_of (take (i + 1) wires) node) [
      | true ↦ λ test m.
          let same : wire.1 ≡ node = eqb-true wire.1 node test in
          subst (λ n. (get_or (set lists wire.1 list) n d).items ≡ sources_of (take (i + 1) wires) node) same
          (ap (λ (v : Vec ℕ Global). v.items) (get_or-set_same lists wire.1 list d inside) ∙ added ∙ ap (λ ns. ns ++ wire.0 ∷ []) (are wire.1 list inside ∙ ap (λ n. sources_of (take i wires) n) same) ∙ sym m)
      | false ↦ λ test m.
          ap (λ (v : Vec ℕ Global). v.items) (get_or-set_other lists wire.1 node list d (λ same. eqb-false wire.1 node test (sym same)))
          ∙ are node d before ∙ sym (append-nil (sources_of (take i wires) node)) ∙ sym m
    ] refl more

-- In an order every node stands after its sources, so nothing that is ordered lies on a cycle.
use Rattle.std.proofs.Common.{◌≡◌, ◌∙◌, ℕ, zero, suc, ◌<◌, List, [], ◌∷◌, ◌++◌, length, get_or, take, subst, sym, arith}
use Rattle.std.specs.Prelude.{Contains}
use Rattle.std.proofs.lemmas.List.{append_assoc, append-nil, get_or-take, get_or_default, length-take}
use Rattle.vh_graph.specs.Paths.{sources_of, Leads, IsOnCycle}
use Rattle.vh_graph.specs.Order.{IsOrderAfter, IsOrder}
use Rattle.vh_graph.specs.Laws.{EachAfterItsSources}

stand : (nodes : ℕ) (wires : List (ℕ × ℕ)) (placed order : List ℕ) → IsOrderAfter nodes wires placed order →
    (i d source : ℕ) → i < length order → Contains (sources_of wires (get_or order i d)) source → Contains (placed ++ take i order) source
stand nodes wires placed [] are i d source lt is = absurd (omega (arith, lt))
stand nodes wires placed (x ∷ xs) are zero d source lt is = rw (append-nil placed) (are.0.ready.sources source is)
stand nodes wires placed (x ∷ xs) are (suc i) d source lt is =
    subst (λ ns. Contains ns source) (append_assoc placed (x ∷ []) (take i xs)) (stand nodes wires (placed ++ x ∷ []) xs are.1 i d source (omega (arith, lt)) is)

before : (order : List ℕ) (i d source : ℕ) → i < length order → Contains (take i order) source → (j : ℕ) × (j < i) × (get_or order j d ≡ source)
before order i d source lt is =
    let at = is.0 in
    let long = length-take i order in
    let within : at < i = let h = is.1 in omega (arith, h, long) in
    (at, within, get_or_default order at d source (omega (arith, within, lt)) ∙ (sym (get_or-take i order at source within) ∙ is.2))

pub law_after_sources : EachAfterItsSources
law_after_sources nodes wires order are i d source lt is = before order i d source lt (stand nodes wires [] order are i d source lt is)

-- where a path leads to a node, its first node stands before
led : (nodes : ℕ) (wires : List (ℕ × ℕ)) (order : List ℕ) → IsOrder nodes wires order → (long first i d : ℕ) → i < length order →
    Leads wires (suc long) first (get_or order i d) → (j : ℕ) × (j < i) × (get_or order j d ≡ first)
led nodes wires order are zero first i d lt path =
    let one = law_after_sources nodes wires order are i d path.0 lt path.2 in
    (one.0, one.1, one.2 ∙ sym path.1)
led nodes wires order are (suc long) first i d lt path =
    let one = law_after_sources nodes wires order are i d path.0 lt path.2 in
    let lt_one : one.0 < length order = let h = one.1 in omega (arith, lt, h) in
    let rest = led nodes wires order are long first one.0 d lt_one (subst (λ n. Leads wires (suc long) first n) (sym one.2) path.1) in
    (rest.0, let h = one.1 in let g = rest.1 in omega (arith, h, g), rest.2)

none_below : (nodes : ℕ) (wires : List (ℕ × ℕ)) (order : List ℕ) → IsOrder nodes wires order → (most i d long node : ℕ) → i < most → i < length order →
    get_or order i d ≡ node → ¬ Leads wires (suc long) node node
none_below nodes wires order are zero i d long node below lt is path = absurd (omega (arith, below))
none_below nodes wires order are (suc most) i d long node below lt is path =
    let back = led nodes wires order are long node i d lt (subst (λ n. Leads wires (suc long) node n) (sym is) path) in
    let h = back.1 in
    none_below nodes wires order are most back.0 d long node (omega (arith, h, below)) (omega (arith, h, lt)) back.2 path

-- what stands in an order is on no cycle
pub no_cycle : (nodes : ℕ) (wires : List (ℕ × ℕ)) (order : List ℕ) → IsOrder nodes wires order → (node : ℕ) → Contains order node → ¬ IsOnCycle wires node
no_cycle nodes wires order are node is cycle = none_below nodes wires order are (suc is.0) is.0 node cycle.0 node (omega arith) is.1 is.2 cycle.1

-- every node stands in an order
all_after : (nodes : ℕ) (wires : List (ℕ × ℕ)) (placed order : List ℕ) → IsOrderAfter nodes wires placed order → (node : ℕ) → node < nodes → Contains (placed ++ order) node
all_after nodes wires placed [] are node lt = rw (append-nil placed) (are node lt)
all_after nodes wires placed (x ∷ xs) are node lt = subst (λ ns. Contains ns node) (append_assoc placed (x ∷ []) xs) (all_after nodes wires (placed ++ x ∷ []) xs are.1 node lt)

pub all_stand : (nodes : ℕ) (wires : List (ℕ × ℕ)) (order : List ℕ) → IsOrder nodes wires order → (node : ℕ) → node < nodes → Contains order node
all_stand nodes wires order are node lt = all_after nodes wires [] order are node lt

pub order_has_no_cycle : (nodes : ℕ) (wires : List (ℕ × ℕ)) (order : List ℕ) → IsOrder nodes wires order → (node : ℕ) → node < nodes → ¬ IsOnCycle wires node
order_has_no_cycle nodes wires order are node lt = no_cycle nodes wires order are node (all_stand nodes wires order are node lt)

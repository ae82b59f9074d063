-- The order is determined by its rules, and has every node after its sources.
use Rattle.std.proofs.Common.{◌∙◌, ◌≡◌, ℕ, List, [], ◌∷◌, ◌++◌, refl, subst, ap, sym, arith}
use Rattle.vh_graph.specs.Order.{IsOrderAfter}
use Rattle.vh_graph.specs.Laws.{OrderIsDetermined}

determined : (nodes : ℕ) (wires : List (ℕ × ℕ)) (placed one other : List ℕ) → IsOrderAfter nodes wires placed one → IsOrderAfter nodes wires placed other → one ≡ other
determined nodes wires placed [] [] a b = refl
determined nodes wires placed [] (y ∷ ys) a b = absurd (b.0.ready.missing (a y b.0.ready.within))
determined nodes wires placed (x ∷ xs) [] a b = absurd (a.0.ready.missing (b x a.0.ready.within))
determined nodes wires placed (x ∷ xs) (y ∷ ys) a b =
    let le = a.0.least y b.0.ready in
    let ge = b.0.least x a.0.ready in
    let same : y ≡ x = omega (arith, le, ge) in
    let rest : xs ≡ ys = determined nodes wires (placed ++ x ∷ []) xs ys a.1 (subst (λ n. IsOrderAfter nodes wires (placed ++ n ∷ []) ys) same b.1) in
    ap (λ n. n ∷ xs) (sym same) ∙ ap (λ ns. y ∷ ns) rest

pub law_determined : OrderIsDetermined
law_determined nodes wires one other a b = determined nodes wires [] one other a b

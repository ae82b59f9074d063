-- Numbers that stand one above the highest source's are the longest distances.
use Rattle.std.proofs.Common.{◌≡◌, ◌⊎◌, inl, inr, ℕ, zero, suc, ◌<◌, ◌≤◌, List, [], refl, arith}
use Rattle.std.specs.Prelude.{Contains}
use Rattle.vh_graph.specs.Paths.{sources_of, Leads, IsLayer}

-- each node's number is 0 without sources, and else one above its highest source's
pub record AreAbove (wires : List (ℕ × ℕ)) (layer : ℕ → ℕ) : Type 0 where
  pub above : (node source : ℕ) → Contains (sources_of wires node) source → layer source < layer node
  pub reason : (node : ℕ) → ((sources_of wires node ≡ []) × (layer node ≡ 0)) ⊎ ((source : ℕ) × Contains (sources_of wires node) source × (layer node ≡ suc (layer source)))

longest : (wires : List (ℕ × ℕ)) (layer : ℕ → ℕ) → AreAbove wires layer → (first node long : ℕ) → Leads wires long first node → long ≤ layer node
longest wires layer are first node zero path = omega arith
longest wires layer are first node (suc long) path =
    let le = longest wires layer are first path.0 long path.1 in
    let lt = are.above node path.0 path.2 in
    omega (arith, le, lt)

reached : (wires : List (ℕ × ℕ)) (layer : ℕ → ℕ) → AreAbove wires layer → (n node : ℕ) → layer node ≡ n → (first : ℕ) × (sources_of wires first ≡ []) × Leads wires n first node
reached wires layer are zero node is = elim (are.reason node) [
  | inl none ↦ (node, none.0, refl)
  | inr some ↦ absurd (let e = some.2 in omega (arith, is, e))
]
reached wires layer are (suc n) node is = elim (are.reason node) [
  | inl none ↦ absurd (let e = none.1 in omega (arith, is, e))
  | inr some ↦
      let below : layer some.0 ≡ n = let e = some.2 in omega (arith, is, e) in
      let rest = reached wires layer are n some.0 below in
      (rest.0, rest.1, (some.0, rest.2, some.1))
]

pub are_layers : (wires : List (ℕ × ℕ)) (layer : ℕ → ℕ) → AreAbove wires layer → (node : ℕ) → IsLayer wires node (layer node)
are_layers wires layer are node = record {
  reached = reached wires layer are (layer node) node refl;
  longest = λ first long none path. longest wires layer are first node long path;
}

-- Wires that have no order have a least node on a cycle.
use Rattle.std.proofs.Common.{◌≡◌, ◌<◌, ℕ, List, length, subst, sym}
use Rattle.std.specs.Prelude.{Option, None, Some, IsSome, All, Vec}
use Rattle.std.specs.declared.alloc.Global.{Global}
use Rattle.vh_graph.specs.Paths.{FindsLeast, IsOnCycle, AreLinked, AreSources}

pub is_found : (wires : List (ℕ × ℕ)) (found : Option ℕ) → FindsLeast wires found → ¬ ((node : ℕ) → ¬ IsOnCycle wires node) → IsSome found
is_found wires None free cyclic = absurd (cyclic free)
is_found wires (Some node) is cyclic = search

pub linked : (wires : List (ℕ × ℕ)) (nodes : ℕ) (lists : List (Vec ℕ Global)) → All (λ wire. (wire.0 < nodes) × (wire.1 < nodes)) wires → length lists ≡ nodes → AreSources wires lists → AreLinked wires lists
linked wires nodes lists within long are = record {
  ends = subst (λ n. All (λ wire. (wire.0 < n) × (wire.1 < n)) wires) (sym long) within;
  sources = are;
}

-- Quotas that are alike, and desks that are new.
use Rattle.std.proofs.Common.{◌≡◌, ℕ, ◌*◌, ◌^◌, ◌<◌, ◌≤◌, List, replicate, sum, length, refl, arith}
use Rattle.std.proofs.Math.Nat.{mul-le-mul_right}
use Rattle.std.proofs.lemmas.List.{length-replicate}
use Rattle.std.proofs.lemmas.List.Folds.{sum_by-replicate}
use Rattle.vh_params.specs.Nodes.{Node}
use Rattle.vh_gesture.specs.Tables.{IsOf, fresh, one_reference}

pub sum_fits : (n quota : ℕ) → n ≤ 8 → quota < 2 ^ 28 → sum (replicate n quota) < 2 ^ 32
sum_fits n quota few small = omega (arith, sum_by-replicate (λ (q : ℕ). q) n quota, bound)
  where
    bound : n * quota ≤ 8 * quota
    bound = mul-le-mul_right quota few

pub is_fresh : (nodes : List Node) → IsOf nodes (fresh nodes)
is_fresh nodes = record { count = length-replicate (length nodes) one_reference; keys = refl }

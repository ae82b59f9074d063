-- Paths that meet.
use Rattle.std.proofs.Common.{◌≢◌, ℕ, zero, suc, List, sym, subst}
use Rattle.vh_graph.specs.Paths.{Leads, IsOnCycle}

pub joined : (wires : List (ℕ × ℕ)) (long more first middle last : ℕ) → Leads wires long first middle → Leads wires more middle last → (n : ℕ) × Leads wires n first last
joined wires long zero first middle last one two = (long, subst (λ n. Leads wires long first n) two one)
joined wires long (suc more) first middle last one two =
    let rest = joined wires long more first middle two.0 one two.1 in
    (suc rest.0, (two.0, rest.1, two.2))

-- two nodes that lead to each other are both on a cycle
pub on_cycle : (wires : List (ℕ × ℕ)) (one other long more : ℕ) → one ≢ other → Leads wires long one other → Leads wires more other one → IsOnCycle wires one
on_cycle wires one other long zero differ there back = absurd (differ (sym back))
on_cycle wires one other long (suc more) differ there back =
    let rest = joined wires long more one other back.0 there back.1 in
    (rest.0, (back.0, rest.1, back.2))

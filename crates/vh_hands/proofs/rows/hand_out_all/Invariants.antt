use Rattle.std.proofs.Common.{◌≡◌, ◌<◌, ◌≤◌, ℕ, length, map, get_or, vec_capacity}
use Rattle.vh_instance.specs.Seats.{no_seat, opener_seat, row_seats}
use Rattle.vh_hands.specs.Hands.{AreSameValues}
use Rattle.vh_hands.specs.Parts.{IsGathered, row_for}
use Rattle.vh_hands.proofs.Handing.{IsHandedOut}
use Rattle.vh_hands.proofs.rows.hand_out_all.Given as goal

abbrev pub invariant-loop-node : goal.invariant-loop-node
invariant-loop-node g l =
    let nodes = g.E.Worked.nodes l.editors in
    let scripts = g.E.Worked.scripts l.editors in
    record {
      rows : map row_seats l.rows ≡ map (row_for (length scripts) nodes l.node) scripts;
      capacities : map vec_capacity l.rows ≡ map vec_capacity l.initial.rows;
      values : AreSameValues l.initial.edits l.edits;
      done : (k : ℕ) → k < l.node → IsHandedOut nodes scripts k (get_or (map opener_seat l.edits) k no_seat);
      left : (k : ℕ) → l.node ≤ k → k < length l.controllers → IsGathered (length scripts) (get_or (map opener_seat l.edits) k no_seat);
    }

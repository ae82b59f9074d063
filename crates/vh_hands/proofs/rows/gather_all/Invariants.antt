use Rattle.std.proofs.Common.{◌≡◌, ◌-◌, ◌<◌, ◌≤◌, ℕ, length, map, get_or, vec_capacity}
use Rattle.vh_instance.specs.Seats.{no_seat, opener_seat, row_seats}
use Rattle.vh_hands.specs.Hands.{AreSameValues}
use Rattle.vh_hands.specs.Parts.{IsGathered}
use Rattle.vh_hands.proofs.Cuts.{cut}
use Rattle.vh_hands.proofs.rows.gather_all.Given as goal

abbrev pub invariant-loop-gathered : goal.invariant-loop-gathered
invariant-loop-gathered g l = record {
  rows : map row_seats l.rows ≡ cut (l.count - l.gathered) (map row_seats l.initial.rows);
  capacities : map vec_capacity l.rows ≡ map vec_capacity l.initial.rows;
  values : AreSameValues l.initial.edits l.edits;
  left : (k : ℕ) → k < l.count - l.gathered → get_or (map opener_seat l.edits) k no_seat ≡ get_or (map opener_seat l.initial.edits) k no_seat;
  done : (k : ℕ) → l.count - l.gathered ≤ k → k < l.count → IsGathered (length l.initial.rows) (get_or (map opener_seat l.edits) k no_seat);
}

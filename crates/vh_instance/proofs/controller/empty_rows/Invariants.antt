use Rattle.std.proofs.Common.{◌≡◌, map, replicate, vec_capacity}
use Rattle.vh_instance.specs.Seats.{AreEmpty}
use Rattle.vh_instance.proofs.controller.empty_rows.Given as goal

abbrev pub invariant-loop : goal.invariant-loop
invariant-loop g l = record {
  empty : AreEmpty l.rows.items;
  capacities : map vec_capacity l.rows.items ≡ replicate l.counter l.count;
  room : vec_capacity l.rows ≡ l.editors;
}

use Rattle.std.proofs.Common.{◌≡◌, ◌+◌, ◌++◌, ◌∷◌, length, take, drop, map, vec_capacity}
use Rattle.std.specs.List.{sum_by}
use Rattle.vh_counted.specs.Held.{object_of, value_of_opened}
use Rattle.vh_instance.specs.Band.{controller_table, kept_beside}
use Rattle.vh_instance.specs.Seats.{opener_seat, row_seats, AreTogether, Has}
use Rattle.vh_hands.specs.Hands.{in_hand, not_held}
use Rattle.vh_hands.specs.Parts.{part_for, row_for}
use Rattle.vh_hands.proofs.counts.part_hands.Given as goal

abbrev pub invariant-loop-editor : goal.invariant-loop-editor
invariant-loop-editor g l =
    let nodes = g.E.Worked.nodes l.editors in
    let scripts = g.E.Worked.scripts l.editors in
    record {
      rows : map row_seats l.rows ≡ map (row_for (length scripts) nodes (l.node + 1)) (take l.editor scripts) ++ map (row_for (length scripts) nodes l.node) (drop l.editor scripts);
      capacities : map vec_capacity l.rows ≡ map vec_capacity l.initial.rows;
      references : Has controller_table (kept_beside (sum_by (in_hand nodes l.node) (drop l.editor scripts))) (sum_by (not_held nodes l.node) (drop l.editor scripts)) (opener_seat l.opener);
      held : AreTogether (object_of l.object) (opener_seat l.opener ∷ map (part_for (length scripts) nodes l.node) (take l.editor scripts));
      value : value_of_opened l.opener ≡ value_of_opened l.initial.opener;
    }

use Rattle.std.proofs.Common.{◌≡◌, ◌+◌, ◌-◌, ◌*◌, [], ◌∷◌, length, take}
use Rattle.std.specs.List.{sum_by}
use Rattle.vh_counted.specs.Held.{object_of, value_of_opened}
use Rattle.vh_instance.specs.Band.{controller_table, kept_beside}
use Rattle.vh_instance.specs.Seats.{opener_seat, AreTogether, Has}
use Rattle.vh_hands.specs.Hands.{in_hand, not_held}
use Rattle.vh_hands.proofs.counts.count_hands.Given as goal

abbrev pub invariant-loop-editor : goal.invariant-loop-editor
invariant-loop-editor g l =
    let nodes = g.E.Worked.nodes l.editors in
    let scripts = g.E.Worked.scripts l.editors in
    record {
      references : Has controller_table (kept_beside (2 * (length scripts - l.editor) + sum_by (in_hand nodes l.node) (take l.editor scripts))) (64 * (length scripts - l.editor) + sum_by (not_held nodes l.node) (take l.editor scripts)) (opener_seat l.opener);
      held : AreTogether (object_of l.object) (opener_seat l.opener ∷ []);
      value : value_of_opened l.opener ≡ value_of_opened l.initial.opener;
    }

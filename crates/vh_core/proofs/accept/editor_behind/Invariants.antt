use Rattle.std.proofs.Common.{◌≡◌, ◌≤◌, ◌+◌, length, drop}
use Rattle.vh_params.specs.Nodes.{nodes_of}
use Rattle.vh_gesture.specs.Scripts.{commands}
use Rattle.vh_gesture.specs.Tables.{IsOf, fresh, accepted_by, table_after}
use Rattle.vh_core.specs.Accepting.{words_by, edits_by}
use Rattle.vh_core.proofs.accept.editor_behind.Given as goal

-- what the puts that are left come to, behind those that were heard
abbrev pub invariant-loop-put : goal.invariant-loop-put
invariant-loop-put l =
    let nodes = nodes_of l.nodes in
    let left = words_by nodes l.editor (drop l.put-index l.puts) in
    record {
      of : IsOf nodes l.gestures;
      table : table_after nodes l.gestures left ≡ table_after nodes (fresh nodes) (words_by nodes l.editor l.puts);
      edits : l.edits + length (commands (accepted_by nodes l.gestures left)) ≡ length (edits_by nodes l.editor l.puts);
      few : l.edits ≤ l.put-index;
    }

use Rattle.std.proofs.Common.{◌≡◌, ◌++◌, drop}
use Rattle.vh_params.specs.Nodes.{nodes_of}
use Rattle.vh_gesture.specs.Scripts.{commands, edits}
use Rattle.vh_gesture.specs.Tables.{IsOf, accepted_by}
use Rattle.vh_legal.proofs.script.edits.Given as goal

abbrev pub invariant-loop-word : goal.invariant-loop-word
invariant-loop-word l = record {
  of : IsOf (nodes_of l.nodes) l.gestures;
  rest : l.commands.items ++ commands (accepted_by (nodes_of l.nodes) l.gestures (drop l.word-index l.script)) ≡ edits (nodes_of l.nodes) l.script;
}

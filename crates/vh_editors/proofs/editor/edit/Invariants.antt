use Rattle.std.proofs.Common.{◌≡◌, drop}
use Rattle.vh_params.specs.Nodes.{nodes_of}
use Rattle.vh_editors.specs.Editing.{through, MayRun}
use Rattle.vh_editors.proofs.editor.edit.Given as goal

abbrev pub invariant-loop-i : goal.invariant-loop-i
invariant-loop-i g l = record {
  may : MayRun (nodes_of l.nodes) l.desk (drop l.i l.script);
  rest : through (nodes_of l.nodes) l.desk (drop l.i l.script) ≡ through (nodes_of l.nodes) l.initial.desk l.script;
}

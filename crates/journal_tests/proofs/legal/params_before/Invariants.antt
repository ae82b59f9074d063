use Rattle.std.proofs.Common.{◌≡◌, ◌*◌, ◌≤◌, take}
use Rattle.vh_params.specs.Nodes.{nodes_of}
use Rattle.vh_legal.specs.Values.{param_count}
use Rattle.journal_tests.proofs.legal.params_before.Given as goal

abbrev pub invariant-loop-before : goal.invariant-loop-before
invariant-loop-before l = record {
  count_is : l.count ≡ param_count (take l.before (nodes_of l.nodes));
  small : l.count ≤ 64 * l.before;
}

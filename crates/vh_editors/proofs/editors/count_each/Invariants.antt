use Rattle.std.proofs.Common.{◌≡◌, map, take, vec_capacity}
use Rattle.vh_editors.specs.Scripts.{quotas_of}
use Rattle.vh_editors.proofs.editors.count_each.Given as goal

abbrev pub invariant-loop-script : goal.invariant-loop-script
invariant-loop-script l = record {
  counts : l.counts.items ≡ quotas_of (map (λ script. script.items) (take l.script-index l.scripts));
  capacity : vec_capacity l.counts ≡ vec_capacity l.initial.counts;
}

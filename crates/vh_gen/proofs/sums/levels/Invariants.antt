use Rattle.std.proofs.Common.{◌≡◌, ◌≤◌, ◌*◌, take, sum_by}
use Rattle.vh_gen.specs.Summary.{level}
use Rattle.vh_gen.proofs.sums.levels.Given as goal

abbrev pub invariant-loop-sample : goal.invariant-loop-sample
invariant-loop-sample l = (l.sum ≡ sum_by level (take l.sample-index l.samples)) × (l.sum ≤ 65535 * l.sample-index)

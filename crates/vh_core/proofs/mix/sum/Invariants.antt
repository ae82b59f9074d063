use Rattle.std.proofs.Common.{◌≡◌, ◌*◌, ◌^◌, take, pos, neg_ℤ, ◌≤ℤ◌}
use Rattle.vh_num.specs.Laws.{sum_of, in_lane}
use Rattle.vh_meaning.specs.Mix.{arriving}
use Rattle.vh_core.specs.Stage.{frames_in}
use Rattle.vh_core.proofs.mix.sum.Given as goal

abbrev pub invariant-loop-wire : goal.invariant-loop-wire
invariant-loop-wire l = record {
  sum : l.sum ≡ sum_of (in_lane l.channel (arriving (take l.wire-index l.wires) l.input (frames_in l.frames) l.to l.aux));
  low : neg_ℤ (pos (2 ^ 31 * l.wire-index)) ≤ℤ l.sum;
  high : l.sum ≤ℤ pos (2 ^ 31 * l.wire-index);
}

use Rattle.std.proofs.Common.{◌≡◌, ℕ, ◌<◌, length, get_or, pos}
use Rattle.vh_num.specs.Samples.{clamp_of}
use Rattle.vh_num.specs.Laws.{sum_of, in_lane}
use Rattle.vh_meaning.specs.Mix.{arriving}
use Rattle.vh_core.specs.Stage.{frames_in}
use Rattle.vh_core.proofs.mix.mix.Given as goal

abbrev pub invariant-loop-channel : goal.invariant-loop-channel
invariant-loop-channel l = record {
  long : length l.out ≡ length l.fn.out;
  mixed : (k : ℕ) → k < l.channel → get_or l.out k (pos 0) ≡ clamp_of (sum_of (in_lane k (arriving l.wires l.input (frames_in l.frames) l.to l.aux)));
}

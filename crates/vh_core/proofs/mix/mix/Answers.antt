use Rattle.std.proofs.Common.{pos, length, arith}
use Rattle.std.proofs.lemmas.List.FromFn.{fill_by_all}
use Rattle.vh_num.specs.Samples.{clamp_of}
use Rattle.vh_num.specs.Laws.{sum_of, in_lane}
use Rattle.vh_meaning.specs.Mix.{arriving}
use Rattle.vh_core.specs.Stage.{frames_in}
use Rattle.vh_core.proofs.mix.mix.Goals as goal

pub returns : goal.returns
returns c =
    let frames = arriving c.args.wires.now c.args.input.now (frames_in c.args.frames.now) c.args.to c.args.aux in
    let all = c.loop-channel-test.false in
    fill_by_all (λ channel. clamp_of (sum_of (in_lane channel frames))) c.loop-channel.out (length c.args.out.now) (pos 0) c.loop-channel.invariant.long
    (λ k lt. c.loop-channel.invariant.mixed k (omega (arith, all, lt)))

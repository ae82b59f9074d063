use Rattle.std.proofs.Common.{◌≡◌, ◌≤◌, ◌*◌, List, [], length, map, take}
use Rattle.vh_num.specs.Frames.{Frame}
use Rattle.vh_engine.specs.Kept.{Stands, IsSameEngine}
use Rattle.vh_render.specs.Playing.{IsUnderWay, IsPlaying, called}
use Rattle.vh_render.proofs.Cuts.{start_in}
use Rattle.vh_gen.proofs.Summed.{level_from}
use Rattle.vh_gen.proofs.sums.sum_pieces.Given as goal

abbrev pub invariant-loop-piece : goal.invariant-loop-piece
invariant-loop-piece g l = record {
  way : IsUnderWay g.P.Processor.class_of l.engine l.score (start_in l.score (length l.yielded)) l.progress.taken;
  count : l.progress.sums.pieces ≡ length l.yielded;
  most : l.progress.sums.sum ≤ 65535 * (2 * start_in l.score (length l.yielded));
  stands : (input : List Frame) → IsPlaying g.P.Processor.class_of l.fn.engine l.score.sound.now input [] → Stands g.P.Processor.class_of l.engine input (take l.progress.taken l.score.entries.now);
  sum : (input : List Frame) → IsPlaying g.P.Processor.class_of l.fn.engine l.score.sound.now input []
      → l.progress.sums.sum ≡ level_from g.P.Processor.class_of l.fn.engine input l.score 0 (start_in l.score (length l.yielded));
  calls : l.engine.calls ≡ map (called (length l.yielded)) l.fn.engine.calls;
  same : IsSameEngine l.fn.engine l.engine;
}

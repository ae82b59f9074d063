use Rattle.std.proofs.Common.{◌≡◌, ◌*◌, false, length}
use Rattle.vh_engine.specs.Kept.{IsSameEngine}
use Rattle.engine_part.proofs.repeats.repeat_blocks.Given as goal

abbrev pub invariant-loop : goal.invariant-loop
invariant-loop g l = record {
  at : l.engine.at ≡ l.counter * l.size;
  going : l.engine.flushed ≡ false;
  same : IsSameEngine l.fn.engine l.engine;
  long : length l.outs ≡ length l.fn.outs;
}

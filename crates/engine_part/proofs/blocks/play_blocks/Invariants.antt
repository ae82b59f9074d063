use Rattle.std.proofs.Common.{◌≡◌, ◌≤◌, ◌+◌, ◌*◌, ◌-◌, false, length}
use Rattle.vh_engine.specs.Kept.{IsSameEngine}
use Rattle.engine_part.proofs.blocks.play_blocks.Given as goal

abbrev pub invariant-loop-at : goal.invariant-loop-at
invariant-loop-at g l = record {
  at : l.engine.at ≡ l.at;
  within : l.at ≤ l.score.frames;
  going : l.engine.flushed ≡ false;
  taken : l.taken ≤ length l.score.entries.now;
  room : length l.score.entries.now ≤ l.engine.room + l.taken;
  same : IsSameEngine l.fn.engine l.engine;
}

abbrev pub decreases-loop-at : goal.decreases-loop-at
decreases-loop-at g l = l.score.frames - l.at

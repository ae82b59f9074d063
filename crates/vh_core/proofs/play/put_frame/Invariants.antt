use Rattle.std.proofs.Common.{◌≡◌, ◌+◌, ◌++◌, take}
use Rattle.std.specs.Prelude.{vec_len, vec_capacity}
use Rattle.vh_core.proofs.play.put_frame.Given as goal

abbrev pub invariant-loop-x : goal.invariant-loop-x
invariant-loop-x l = record {
  items : l.frames.items ≡ l.fn.frames.items ++ take l.x-index l.frame;
  long : vec_len l.frames ≡ vec_len l.fn.frames + l.x-index;
  same : vec_capacity l.frames ≡ vec_capacity l.fn.frames;
}

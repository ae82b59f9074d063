use Rattle.std.proofs.Common.{◌≡◌, ◌++◌, ◌+◌, ◌*◌, take, vec_len, vec_capacity}
use Rattle.vh_wav.specs.InMemory.{woven}
use Rattle.vh_wav.proofs.list_frames.weave.Given as goal

abbrev pub invariant-loop-k : goal.invariant-loop-k
invariant-loop-k l = record {
  items : l.outs.items ≡ l.initial.outs.items ++ woven (take l.k l.left) (take l.k l.right);
  len : vec_len l.outs ≡ vec_len l.initial.outs + 2 * l.k;
  capacity : vec_capacity l.outs ≡ vec_capacity l.initial.outs;
}

use Rattle.std.proofs.Common.{◌≡◌, ◌++◌, ◌+◌, take, vec_len, vec_capacity}
use Rattle.vh_wav.proofs.list_frames.add.Given as goal

abbrev pub invariant-loop-k : goal.invariant-loop-k
invariant-loop-k l = record {
  items : l.outs.items ≡ l.initial.outs.items ++ take l.k l.samples;
  len : vec_len l.outs ≡ vec_len l.initial.outs + l.k;
  capacity : vec_capacity l.outs ≡ vec_capacity l.initial.outs;
}

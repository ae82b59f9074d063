use Rattle.std.proofs.Common.{◌≡◌, take, vec_len, vec_capacity}
use Rattle.vh_stage.proofs.stage.copy_replies.Given as goal

abbrev pub invariant-loop-i : goal.invariant-loop-i
invariant-loop-i l = record {
  items : l.copy.items ≡ take l.i l.replies;
  len : vec_len l.copy ≡ l.i;
  capacity : vec_capacity l.copy ≡ vec_capacity l.initial.copy;
}

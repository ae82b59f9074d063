use Rattle.std.proofs.Common.{◌≡◌, ◌≤◌, ◌*◌, length, take}
use Rattle.std.specs.Prelude.{vec_len, vec_capacity}
use Rattle.vh_wav.specs.InMemory.{woven}
use Rattle.vh_live_host.proofs.frames.weave.Given as goal

abbrev pub invariant-loop-place : goal.invariant-loop-place
invariant-loop-place l = record {
  woven : l.samples.items ≡ woven (take l.place l.left) (take l.place l.right);
  long : vec_len l.samples ≡ 2 * l.place;
  room : 2 * length l.left ≤ vec_capacity l.samples;
}

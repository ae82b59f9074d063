use Rattle.std.proofs.Common.{◌≡◌, ℕ, ◌+◌, ◌*◌, ◌<◌, get_or, pos}
use Rattle.vh_wav.proofs.list_frames.copy_channel.Given as goal

abbrev pub invariant-loop-k : goal.invariant-loop-k
invariant-loop-k l = (l.at ≡ l.from + l.k * l.stride) × ((j : ℕ) → j < l.k → get_or l.out j (pos 0) ≡ get_or l.ins (l.from + j * l.stride) (pos 0))

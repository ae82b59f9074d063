use Rattle.std.proofs.Common.{◌≡◌, ◌-◌, ◌≤◌, length, false}
use Rattle.wav_copy.proofs.copy_frames.Given as goal

abbrev pub invariant-loop-done : goal.invariant-loop-done
invariant-loop-done g l =
    (g.F.Files.complete l.files ≡ false) × (l.done ≤ l.head.frames) × (length l.frames.items ≡ 131072) × (length l.bytes.items ≡ 393216)

abbrev pub decreases-loop-done : goal.decreases-loop-done
decreases-loop-done g l = l.head.frames - l.done

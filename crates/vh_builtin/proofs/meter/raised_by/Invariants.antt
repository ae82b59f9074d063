use Rattle.std.proofs.Common.{◌≡◌, ◌≤◌, pos}
use Rattle.vh_builtin.specs.Peaks.{peak_after}
use Rattle.vh_builtin.proofs.meter.raised_by.Given as goal

abbrev pub invariant-loop-i : goal.invariant-loop-i
invariant-loop-i l = (pos l.after ≡ peak_after (pos l.peak) l.samples l.i) × (l.after ≤ 8388608)

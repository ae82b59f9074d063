use Rattle.std.proofs.Common.{◌≡◌}
use Rattle.vh_live_host.proofs.Counted.{counted_to}
use Rattle.vh_live_host.proofs.counts.counts.Given as goal

abbrev pub invariant-loop-editor : goal.invariant-loop-editor
invariant-loop-editor l = l.counts.items ≡ counted_to l.entries l.refused l.editor

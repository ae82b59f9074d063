use Rattle.std.proofs.Common.{◌≡◌, take}
use Rattle.vh_meaning.specs.Rendering.{stops}
use Rattle.vh_host.proofs.journal.stops.Given as goal

abbrev pub invariant-loop-entry : goal.invariant-loop-entry
invariant-loop-entry l = l.samples.items ≡ stops (take l.entry-index l.entries)

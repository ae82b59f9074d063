use Rattle.std.proofs.Common.{take}
use Rattle.vh_engine.specs.Between.{AreElsewhere}
use Rattle.vh_engine.proofs.send.is_edited.Given as goal

abbrev pub invariant-loop-entry : goal.invariant-loop-entry
invariant-loop-entry l = AreElsewhere l.node l.id (take l.entry-index l.entries)

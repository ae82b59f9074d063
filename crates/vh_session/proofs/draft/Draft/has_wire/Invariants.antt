use Rattle.std.proofs.Common.{◌≡◌, take, false}
use Rattle.std.specs.List.{list_any}
use Rattle.vh_session.specs.Lines.{same_wire}
use Rattle.vh_session.proofs.draft.Draft.has_wire.Given as goal

abbrev pub invariant-loop-other : goal.invariant-loop-other
invariant-loop-other l = list_any (same_wire l.wire) (take l.other-index l.self.wires.items) ≡ false

use Rattle.std.proofs.Common.{◌≡◌, take}
use Rattle.vh_session.specs.Content.{sources_into}
use Rattle.vh_session.proofs.session.Session.sources.Given as goal

abbrev pub invariant-loop-wire : goal.invariant-loop-wire
invariant-loop-wire l = l.sources.items ≡ sources_into (take l.wire-index l.self.wires.items) l.to l.aux

use Rattle.std.proofs.Common.{◌≡◌, drop}
use Rattle.vh_session.specs.Reading.{is_skipped}
use Rattle.vh_session.proofs.reader.is_skipped.Given as goal

abbrev pub invariant-loop-b : goal.invariant-loop-b
invariant-loop-b l = is_skipped l.text ≡ is_skipped (drop l.b-index l.text)

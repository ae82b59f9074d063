use Rattle.std.proofs.Common.{◌≡◌, drop}
use Rattle.vh_session.specs.Content.{value_in}
use Rattle.vh_session.proofs.finish.first_value.Given as goal

abbrev pub invariant-loop-i : goal.invariant-loop-i
invariant-loop-i l = value_in l.firsts l.id ≡ value_in (drop l.i-index l.firsts) l.id

use Rattle.std.proofs.Common.{◌≡◌, ◌++◌, take}
use Rattle.vh_live_host.proofs.values.push_values.Given as goal

abbrev pub invariant-loop-param : goal.invariant-loop-param
invariant-loop-param g l = l.values.items ≡ l.initial.values.items ++ take l.param-index (g.C.Controller.values l.controller)

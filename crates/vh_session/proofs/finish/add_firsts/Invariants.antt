use Rattle.std.proofs.Common.{◌≡◌, ◌++◌, take}
use Rattle.std.specs.List.{filter_map}
use Rattle.vh_session.specs.Content.{first_of}
use Rattle.vh_session.proofs.finish.add_firsts.Given as goal

abbrev pub invariant-loop-param : goal.invariant-loop-param
invariant-loop-param l = l.firsts.items ≡ l.fn.firsts.items ++ filter_map (first_of l.node l.given) (take l.param-index l.params)

use Rattle.std.proofs.Common.{◌≡◌, drop}
use Rattle.vh_params.specs.Params.{param_in}
use Rattle.vh_params.proofs.table.ParamTable.find.Given as goal

abbrev pub invariant-loop-param : goal.invariant-loop-param
invariant-loop-param l = param_in (drop l.param-index l.self.params.items) l.id ≡ param_in l.self.params.items l.id

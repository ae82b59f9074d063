-- What callers see of a table.
use Rattle.std.specs.Prelude.{List}
use Rattle.vh_params.specs.declared.param.ParamInfo.{ParamInfo}
use Rattle.vh_params.specs.declared.param.UnitInfo.{UnitInfo}
use Rattle.vh_params.specs.declared.table.ParamTable.{ParamTable}

abbrev pub params_of : ParamTable → List ParamInfo
params_of table = table.params.items

abbrev pub units_of : ParamTable → List UnitInfo
units_of table = table.units.items

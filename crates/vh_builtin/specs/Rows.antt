-- The tables of the classes: what is told of each parameter and of each unit.
use Rattle.std.specs.Prelude.{ℕ, List, map, Option, Some, None, codes}
use Rattle.vh_params.specs.declared.param.ParamInfo.{ParamInfo}
use Rattle.vh_params.specs.declared.param.UnitInfo.{UnitInfo}
use Rattle.vh_params.specs.Short.{label_text}
use Rattle.vh_plugin.specs.Class.{Param}

-- a parameter's row: its id, its title, the units of its values, its steps, its default, its unit and its flags
pub record Row : Type 0 where
  pub id : ℕ
  pub title : List ℕ
  pub units : List ℕ
  pub steps : ℕ
  pub first : ℕ
  pub unit : ℕ
  pub flags : ℕ

abbrev pub row : ℕ → List ℕ → List ℕ → ℕ → ℕ → ℕ → ℕ → Row
row id title units steps first unit flags = record { id = id; title = title; units = units; steps = steps; first = first; unit = unit; flags = flags }

-- the row that is told of a parameter
abbrev pub row_of : ParamInfo → Row
row_of info = row info.id (label_text info.title) (label_text info.units) info.steps info.first info.unit info.flags

-- what of a row bears on a class's meaning
abbrev pub row_param : Row → Param
row_param row = record { id = row.id; steps = row.steps; first = row.first; flags = row.flags }

abbrev pub params_in : List Row → List Param
params_in rows = map row_param rows

-- a unit's row: its id, the unit that it stands in, and its name
pub record UnitRow : Type 0 where
  pub id : ℕ
  pub parent : Option ℕ
  pub name : List ℕ

abbrev pub unit_row : UnitInfo → UnitRow
unit_row info = record { id = info.id; parent = info.parent; name = label_text info.name }

-- the root unit, in which all parameters stand but the crusher's Hold, which has a unit of its own
abbrev pub root_unit : UnitRow
root_unit = record { id = 0; parent = None; name = codes "Root" }

abbrev pub hold_unit : UnitRow
hold_unit = record { id = 1; parent = Some 0; name = codes "Hold" }

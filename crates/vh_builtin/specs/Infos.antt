-- What the set tells of its classes.
use Rattle.std.specs.Prelude.{◌≡◌, ℕ, zero, suc, ◌+◌, ◌<◌, List, length, map, slice_index_or, codes}
use Rattle.vh_params.specs.declared.class.ClassInfo.{ClassInfo}
use Rattle.vh_params.specs.Short.{label_text}
use Rattle.vh_params.specs.Tables.{params_of, units_of}
use Rattle.vh_plugin.specs.Sets.{IsClassOf}
use Rattle.vh_builtin.specs.Builtins.{builtin, class_rows, class_units}
use Rattle.vh_builtin.specs.Rows.{row_of, unit_row}
use Rattle.vh_builtin.specs.Partners.{component_of}

-- their names
abbrev pub name_text : ℕ → List ℕ
name_text zero = codes "gain"
name_text (suc zero) = codes "balance"
name_text (suc (suc zero)) = codes "delay"
name_text (suc (suc (suc zero))) = codes "onepole"
name_text (suc (suc (suc (suc zero)))) = codes "crusher"
name_text (suc (suc (suc (suc (suc zero))))) = codes "gate"
name_text (suc (suc (suc (suc (suc (suc zero)))))) = codes "meter"
name_text (suc (suc (suc (suc (suc (suc (suc k))))))) = codes "tap"

-- the class of this number: its name, its identifiers, the rows of its parameters and of its units, whether it has an aux bus
pub record IsBuiltIn (k : ℕ) (info : ClassInfo) : Type 0 where
  pub name : label_text info.name ≡ name_text k
  pub component : info.component.0 ≡ component_of (k + 1)
  pub rows : map row_of (params_of info.params) ≡ class_rows k
  pub units : map unit_row (units_of info.params) ≡ class_units k
  pub means : IsClassOf (builtin k) info

-- the eight, in this order
pub record AreBuiltIn (infos : List ClassInfo) : Type 0 where
  pub eight : length infos ≡ 8
  pub each : (k : ℕ) (d : ClassInfo) → k < 8 → IsBuiltIn k (slice_index_or infos k d)

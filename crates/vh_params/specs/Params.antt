-- Parameters, and the tables that they make.
use Rattle.std.specs.Prelude.{◌≡◌, ◌≢◌, ℕ, ◌<◌, ◌≤◌, ◌^◌, Bool, true, false, not, ◌||◌, ◌==◌, nat_lt, bit_and, List, [], ◌∷◌, ◌++◌, length, take, slice_index_or, Option, Some, None, if◌then◌else◌}
use Rattle.std.specs.List.{find, list_any}
use Rattle.std.specs.Option.{option_or}
use Rattle.vh_num.specs.Values.{quant_of}
use Rattle.vh_params.specs.declared.param.ParamInfo.{ParamInfo}
use Rattle.vh_params.specs.declared.param.UnitInfo.{UnitInfo}
use Rattle.vh_params.specs.declared.table.TableFault.{TableFault}
use Rattle.vh_params.specs.declared.table.TableFault.TheVariants.{Duplicate, BadStep, BadDefault, BadUnit}

abbrev pub has_flag : ℕ → ParamInfo → Bool
has_flag flag param = not (bit_and param.flags flag == 0)

-- the parameter of this id, the first where there are several
abbrev pub param_in : List ParamInfo → ℕ → Option ParamInfo
param_in params id = find (λ param. param.id == id) params

-- a unit of this id is there
abbrev pub has_unit : List UnitInfo → ℕ → Bool
has_unit units id = list_any (λ unit. unit.id == id) units

-- the fault of the first of these rules that holds
abbrev pub first_fault : List (Bool × TableFault) → Option TableFault
first_fault [] = None
first_fault (rule ∷ rules) = if rule.0 then Some rule.1 else first_fault rules

-- the rules that a parameter may break, where these stand before it
abbrev pub param_rules : List UnitInfo → List ParamInfo → ParamInfo → List (Bool × TableFault)
param_rules units before param =
    (list_any (λ other. other.id == param.id) before, Duplicate param.id)
    ∷ (nat_lt 4095 param.steps, BadStep param.id)
    ∷ (nat_lt (2 ^ 24) param.first || not (quant_of param.first param.steps == param.first), BadDefault param.id)
    ∷ (not (has_unit units param.unit), BadUnit param.id)
    ∷ []

-- the first fault of the parameters behind those
abbrev pub fault_behind : List UnitInfo → List ParamInfo → List ParamInfo → Option TableFault
fault_behind units before [] = None
fault_behind units before (param ∷ params) = option_or (first_fault (param_rules units before param)) (fault_behind units (before ++ param ∷ []) params)

-- the first fault, by parameter and then by rule
abbrev pub table_fault : List ParamInfo → List UnitInfo → Option TableFault
table_fault params units = fault_behind units [] params

-- a unit with this parent stands in one of these
abbrev pub stands_in : List UnitInfo → Option ℕ → Bool
stands_in units None = false
stands_in units (Some parent) = has_unit units parent

-- units: the root first, which has id 0 and no parent; each other stands in one before it; ids differ
pub record AreUnits (units : List UnitInfo) : Type 0 where
  pub root : (d : UnitInfo) → 0 < length units → ((slice_index_or units 0 d).id ≡ 0) × ((slice_index_or units 0 d).parent ≡ None)
  pub parents : (i : ℕ) (d : UnitInfo) → 0 < i → i < length units → stands_in (take i units) (slice_index_or units i d).parent ≡ true
  pub ids : (i j : ℕ) (d : UnitInfo) → i < j → j < length units → (slice_index_or units i d).id ≢ (slice_index_or units j d).id

-- a parameter that a table may have, beside these units
pub record IsLawful (units : List UnitInfo) (param : ParamInfo) : Type 0 where
  pub steps : param.steps ≤ 4095
  pub first : param.first ≤ 2 ^ 24
  pub quantised : quant_of param.first param.steps ≡ param.first
  pub unit : has_unit units param.unit ≡ true

-- the ids rise
abbrev pub AreRising : List ParamInfo → Type 0
AreRising params = (i j : ℕ) (d : ParamInfo) → i < j → j < length params → (slice_index_or params i d).id < (slice_index_or params j d).id

-- What a set of plug-ins says of its classes.
use Rattle.std.specs.Prelude.{◌≡◌, ℕ, List, map}
use Rattle.vh_params.specs.declared.class.ClassInfo.{ClassInfo}
use Rattle.vh_params.specs.Tables.{params_of}
use Rattle.vh_plugin.specs.Class.{Class, param_of}

-- a class means what is said of it
pub record IsClassOf (class : Class) (info : ClassInfo) : Type 0 where
  pub params : class.params ≡ map param_of (params_of info.params)
  pub aux : class.aux ≡ info.aux
  pub partner : class.partner ≡ info.controller.0

-- the same bytes hold the same values for both
abbrev pub AgreeOnBytes : Class → Class → Type 0
AgreeOnBytes one other = (bytes : List ℕ) → one.state_of bytes ≡ other.state_of bytes

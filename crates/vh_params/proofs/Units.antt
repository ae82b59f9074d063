-- Lists of units.
use Rattle.std.proofs.Common.{◌≡◌, [], ◌∷◌, None, arith}
use Rattle.vh_params.specs.declared.param.UnitInfo.{UnitInfo}
use Rattle.vh_params.specs.Params.{AreUnits}

-- the root alone
pub root_alone : (unit : UnitInfo) → unit.id ≡ 0 → unit.parent ≡ None → AreUnits (unit ∷ [])
root_alone unit id parent = record {
  root = λ d lt. (id, parent);
  parents = λ i d some lt. absurd (omega arith);
  ids = λ i j d before lt. absurd (omega arith);
}

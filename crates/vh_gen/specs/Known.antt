-- The classes from which nodes are drawn.
use Rattle.std.specs.Prelude.{ℕ, ◌≤◌, ◌<◌, List, length, slice_index_or}
use Rattle.vh_params.specs.declared.class.ClassInfo.{ClassInfo}
use Rattle.vh_builtin.specs.Infos.{IsBuiltIn}

-- the first eight have the names, identifiers and tables of the built-in classes, in their order
pub record BeginsBuiltIn (known : List ClassInfo) : Type 0 where
  pub eight : 8 ≤ length known
  pub each : (k : ℕ) (d : ClassInfo) → k < 8 → IsBuiltIn k (slice_index_or known k d)

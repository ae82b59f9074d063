-- The classes of the set.
use Rattle.std.specs.Prelude.{ℕ, ◌<◌, List, length, slice_index_or}
use Rattle.std.proofs.Common.{arith}
use Rattle.vh_params.specs.declared.class.ClassInfo.{ClassInfo}
use Rattle.vh_plugin.specs.Sets.{IsClassOf}
use Rattle.vh_builtin.specs.Builtins.{builtin}
use Rattle.vh_builtin.specs.Infos.{AreBuiltIn}

-- a class's code is its number
abbrev pub number_of_class : ℕ → ℕ
number_of_class class = class

pub each_means : (infos : List ClassInfo) → AreBuiltIn infos → (class : ℕ) (d : ClassInfo) → class < length infos → IsClassOf (builtin (number_of_class class)) (slice_index_or infos class d)
each_means infos are class d lt = (are.each class d (let e = are.eight in omega (arith, e, lt))).means

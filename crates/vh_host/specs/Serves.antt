-- The sets that a command can be run with.
use Rattle.std.specs.Prelude.{◌≡◌, ℕ, List, Option, Some}
use Rattle.vh_params.specs.declared.class.ClassInfo.{ClassInfo}
use Rattle.vh_gen.specs.Known.{BeginsBuiltIn}
use Rattle.vh_host.specs.Words.{Command, Generates}

-- for `gen` a set's first eight classes are the built-in ones; every other command takes any set
abbrev pub Serves : Option Command → List ClassInfo → Type 0
Serves command infos = (number : ℕ) → command ≡ Some (Generates number) → BeginsBuiltIn infos

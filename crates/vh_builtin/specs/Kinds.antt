-- The number of a kind.
use Rattle.std.specs.Prelude.{ℕ}
use Rattle.vh_builtin.specs.declared.kind.Kind.{Kind}
use Rattle.vh_builtin.specs.declared.kind.Kind.TheVariants as kind

abbrev pub kind_number : Kind → ℕ
kind_number kind.Gain = 0
kind_number kind.Balance = 1
kind_number kind.Delay = 2
kind_number kind.OnePole = 3
kind_number kind.Crusher = 4
kind_number kind.Gate = 5
kind_number kind.Meter = 6
kind_number kind.Tap = 7

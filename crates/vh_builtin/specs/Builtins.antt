-- The eight classes, by their numbers in the set.
use Rattle.std.specs.Prelude.{ℕ, zero, suc, List, [], ◌∷◌}
use Rattle.vh_plugin.specs.Class.{Class}
use Rattle.vh_builtin.specs.Rows.{Row, UnitRow, root_unit, hold_unit}
use Rattle.vh_builtin.specs.Gain.{gain, gain_rows}
use Rattle.vh_builtin.specs.Balance.{balance, balance_rows}
use Rattle.vh_builtin.specs.Delay.{delay, delay_rows}
use Rattle.vh_builtin.specs.OnePole.{onepole, onepole_rows}
use Rattle.vh_builtin.specs.Crusher.{crusher, crusher_rows}
use Rattle.vh_builtin.specs.Gate.{gate, gate_rows}
use Rattle.vh_builtin.specs.Meter.{meter, meter_rows}
use Rattle.vh_builtin.specs.Tap.{tap, tap_rows}

-- a code that is no class's number means the first class
abbrev pub builtin : ℕ → Class
builtin zero = gain
builtin (suc zero) = balance
builtin (suc (suc zero)) = delay
builtin (suc (suc (suc zero))) = onepole
builtin (suc (suc (suc (suc zero)))) = crusher
builtin (suc (suc (suc (suc (suc zero))))) = gate
builtin (suc (suc (suc (suc (suc (suc zero)))))) = meter
builtin (suc (suc (suc (suc (suc (suc (suc zero))))))) = tap
builtin (suc (suc (suc (suc (suc (suc (suc (suc k)))))))) = gain

-- and their tables
abbrev pub class_rows : ℕ → List Row
class_rows zero = gain_rows
class_rows (suc zero) = balance_rows
class_rows (suc (suc zero)) = delay_rows
class_rows (suc (suc (suc zero))) = onepole_rows
class_rows (suc (suc (suc (suc zero)))) = crusher_rows
class_rows (suc (suc (suc (suc (suc zero))))) = gate_rows
class_rows (suc (suc (suc (suc (suc (suc zero)))))) = meter_rows
class_rows (suc (suc (suc (suc (suc (suc (suc zero))))))) = tap_rows
class_rows (suc (suc (suc (suc (suc (suc (suc (suc k)))))))) = gain_rows

-- the crusher's Hold has a unit of its own
abbrev pub class_units : ℕ → List UnitRow
class_units (suc (suc (suc (suc zero)))) = root_unit ∷ hold_unit ∷ []
class_units k = root_unit ∷ []

-- What a delay keeps.
use Rattle.std.specs.Prelude.{List, ℤ, ◌++◌}
use Rattle.vh_builtin.specs.declared.delay.Delay.{Delay}
use Rattle.vh_builtin.specs.Rings.{history}

abbrev pub delay_state : Delay → List ℤ
delay_state it = history it.left.places.items it.left.at ++ history it.right.places.items it.right.at

-- A parameter as the entries so far left it.
use Rattle.std.specs.Prelude.{◌≤◌, ◌<◌, ◌^◌, ◌+◌, ℕ}
use Rattle.vh_meaning.specs.Stands.{Touch}
use Rattle.vh_legal.specs.declared.touch.Touch.{Touch as Kept}

abbrev pub touch_of : Kept → Touch
touch_of touch = record { value = touch.value; begun = touch.begun; ended = touch.ended }

-- its value is in range, and its counts have room for so many more gestures
pub record IsTouch (room : ℕ) (touch : Kept) : Type 0 where
  pub value : touch.value ≤ 2 ^ 24
  pub begun : touch.begun + room < 2 ^ 64
  pub ended : touch.ended + room < 2 ^ 64

-- Laws of value texts.
use Rattle.std.specs.Prelude.{◌≡◌, ℕ, ◌≤◌, ◌^◌, List, Option, Some}
use Rattle.vh_num.specs.Values.{quant_of}
use Rattle.vh_params.specs.ValueText.{value_text, IsTextValue}

-- the value that is read from a value's text has that text
abbrev pub TextIsRead : Type 0
TextIsRead = (steps : ℕ) (units : List ℕ) (v : ℕ) (answer : Option ℕ) → v ≤ 2 ^ 24 → IsTextValue steps units (value_text steps units v) answer
    → (w : ℕ) × (answer ≡ Some w) × (value_text steps units w ≡ value_text steps units v)

-- a text stands for one value at most
abbrev pub TextStandsForOne : Type 0
TextStandsForOne = (steps : ℕ) (units text : List ℕ) (one other : Option ℕ) → steps ≤ 4095 → IsTextValue steps units text one → IsTextValue steps units text other → one ≡ other

-- a parameter with steps has another text at each of its values
abbrev pub TextsDiffer : Type 0
TextsDiffer = (steps : ℕ) (units : List ℕ) (v w : ℕ) → 1 ≤ steps → steps ≤ 4095 → quant_of v steps ≡ v → quant_of w steps ≡ w → value_text steps units v ≡ value_text steps units w → v ≡ w

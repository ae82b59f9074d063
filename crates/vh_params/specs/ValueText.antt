-- Texts of values.
use Rattle.std.specs.Prelude.{◌≡◌, ◌≢◌, ℕ, zero, suc, ◌+◌, ◌*◌, ◌/◌, ◌%◌, ◌^◌, ◌≤◌, ◌==◌, List, [], ◌∷◌, ◌++◌, Option, Some, None, if◌then◌else◌, codes}
use Rattle.std.specs.Fmt.{decimal}
use Rattle.vh_num.specs.Values.{index_of, quant_of}

-- the last four digits of a number
abbrev pub four_digits : ℕ → List ℕ
four_digits n = (48 + n / 1000 % 10) ∷ (48 + n / 100 % 10) ∷ (48 + n / 10 % 10) ∷ (48 + n % 10) ∷ []

-- so many ten-thousandths, with four decimals
abbrev pub fraction_text : ℕ → List ℕ
fraction_text parts = decimal (parts / 10000) ++ 46 ∷ four_digits parts

-- the text of a value of a parameter of this step count, without units
abbrev pub number_text : ℕ → ℕ → List ℕ
number_text zero v = fraction_text (v * 10000 / 2 ^ 24)
number_text (suc zero) v = if index_of v 1 == 0 then codes "Off" else codes "On"
number_text (suc (suc n)) v = decimal (index_of v (suc (suc n)))

-- the units behind a number
abbrev pub units_text : List ℕ → List ℕ
units_text [] = []
units_text (b ∷ bs) = 32 ∷ b ∷ bs

-- the text of a value
abbrev pub value_text : ℕ → List ℕ → ℕ → List ℕ
value_text steps units v = number_text steps v ++ units_text units

-- of the values with one text the one that the text stands for: of a continuous parameter the least,
-- else the value of their step
abbrev pub IsChosen : ℕ → (ℕ → List ℕ) → ℕ → Type 0
IsChosen zero text v = (w : ℕ) → w ≤ 2 ^ 24 → text w ≡ text v → v ≤ w
IsChosen (suc n) text v = quant_of v (suc n) ≡ v

-- the value that a text stands for, where a value's text is this function; none where no value has it
abbrev pub IsValueIn : ℕ → (ℕ → List ℕ) → List ℕ → Option ℕ → Type 0
IsValueIn steps text read None = (w : ℕ) → w ≤ 2 ^ 24 → text w ≢ read
IsValueIn steps text read (Some v) = (v ≤ 2 ^ 24) × (text v ≡ read) × IsChosen steps text v

-- the value that a text stands for
abbrev pub IsTextValue : ℕ → List ℕ → List ℕ → Option ℕ → Type 0
IsTextValue steps units read answer = IsValueIn steps (value_text steps units) read answer

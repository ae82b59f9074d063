-- Numbers in decimal.
use Rattle.std.specs.Prelude.{ℕ, ◌+◌, ◌-◌, ◌*◌, ◌^◌, Bool, not, ◌&&◌, nat_le, nat_lt, List, [], ◌∷◌, length, Option, Some, None, Result, Ok, if◌then◌else◌}
use Rattle.std.specs.List.{list_all}
use Rattle.std.specs.Option.{ok_or}
use Rattle.vh_text.specs.Chains.{given, fault_if}

abbrev pub is_digit : ℕ → Bool
is_digit b = nat_le 48 b && nat_le b 57

-- each digit counts by its place
abbrev pub value_of : List ℕ → ℕ
value_of [] = 0
value_of (d ∷ ds) = (d - 48) * 10 ^ length ds + value_of ds

-- 1 to 10 digits of a number below 2^32
abbrev pub is_number : List ℕ → Bool
is_number text = (nat_le 1 (length text) && nat_le (length text) 10) && (list_all is_digit text && nat_lt (value_of text) (2 ^ 32))

abbrev pub number_of : List ℕ → Option ℕ
number_of text = if is_number text then Some (value_of text) else None

-- the number of a text, or this kind of fault
abbrev pub number_or : {K : Type 0} → K → List ℕ → Result ℕ K
number_or kind text = ok_or (number_of text) kind

abbrev pub is_within : ℕ → ℕ → ℕ → Bool
is_within least most n = nat_le least n && nat_le n most

-- a number that passes a test
abbrev pub passing_number : {K : Type 0} → K → (ℕ → Bool) → List ℕ → Result ℕ K
passing_number kind passes text = given (number_or kind text) (λ n. fault_if (not (passes n)) kind (Ok n))

-- such numbers, or the first fault of them from the left
abbrev pub passing_numbers : {K : Type 0} → K → (ℕ → Bool) → List (List ℕ) → Result (List ℕ) K
passing_numbers kind passes [] = Ok []
passing_numbers kind passes (text ∷ texts) = given (passing_number kind passes text) (λ n. given (passing_numbers kind passes texts) (λ ns. Ok (n ∷ ns)))

-- A class of the tests with state and an aux bus: one parameter switches between the main and the aux frame, and it
-- counts its samples.
use Rattle.std.specs.Prelude.{◌≡◌, ℕ, ◌+◌, ◌-◌, ◌^◌, ◌≤◌, ◌<◌, ◌&&◌, ◌==◌, nat_le, min, slice_index_or, List, [], ◌∷◌, length, replicate, Option, Some, None, All, pos, negsuc, if◌then◌else◌}
use Rattle.std.specs.Int.{w32, to_le_bytes, from_le_bytes}
use Rattle.std.proofs.Common.{Bool, true, false, zero, suc, refl, ap, sym, subst, arith}
use Rattle.std.proofs.lemmas.Bool.{le-leb, leb-true}
use Rattle.std.proofs.lemmas.Nat.{from_le_bytes-to_le_bytes_4}
use Rattle.vh_num.specs.Frames.{Frame}
use Rattle.vh_params.specs.Flags.{is_read_only}
use Rattle.vh_plugin.specs.Class.{Param, Class, State, IsLawful, AreValues, writable_of}

abbrev pub side : Param
side = record { id = 3; steps = 0; first = 0; flags = 1 }

-- and the lamp shows whether there were any
abbrev pub lamp : Param
lamp = record { id = 4; steps = 0; first = 0; flags = 2 }

abbrev pub lit : State → ℕ → ℕ
lit [] id = 0
lit (negsuc n ∷ state) id = 0
lit (pos n ∷ state) id = if n == 0 then 0 else 2 ^ 24

-- the aux frame from half on, where there is one
abbrev pub chosen : List ℕ → Frame → Option Frame → Frame
chosen [] main aux = main
chosen (value ∷ values) main None = main
chosen (value ∷ values) main (Some aux) = if nat_le (2 ^ 23) value then aux else main

-- the number of samples, which stays at its last value
abbrev pub counted : State → State
counted [] = []
counted (negsuc n ∷ state) = negsuc n ∷ state
counted (pos n ∷ state) = pos (min (2 ^ 64 - 1) (n + 1)) ∷ []

-- as a word of a reply
abbrev pub told_count : State → List ℕ
told_count [] = []
told_count (negsuc n ∷ state) = []
told_count (pos n ∷ state) = min (2 ^ 32 - 1) n ∷ []

abbrev pub value_of_bytes : List ℕ → Option (List ℕ)
value_of_bytes bytes = if (length bytes == 4) && nat_le (from_le_bytes w32 bytes) (2 ^ 24) then Some (from_le_bytes w32 bytes ∷ []) else None

abbrev pub bytes_of_value : List ℕ → List ℕ
bytes_of_value [] = []
bytes_of_value (value ∷ values) = to_le_bytes w32 value

abbrev pub switch : Class
switch = record {
  params = side ∷ lamp ∷ [];
  aux = true;
  start = pos 0 ∷ [];
  next = λ channels state values main aux. counted state;
  output = λ channels state values main aux. chosen values main aux;
  told = λ state values words. pos 0 ∷ [];
  reply = λ state values words. told_count state;
  shown = lit;
  state_of = value_of_bytes;
  state_text = bytes_of_value;
  partner = replicate 16 1;
}

pub switch_valued : (value light : ℕ) → value ≤ 2 ^ 24 → light ≤ 2 ^ 24 → AreValues (side ∷ lamp ∷ []) (value ∷ light ∷ [])
switch_valued value light within too = record { each = refl; within = both value light within too }
  where
    both : (value light : ℕ) → value ≤ 2 ^ 24 → light ≤ 2 ^ 24 → (i d : ℕ) → i < 2 → slice_index_or (value ∷ light ∷ []) i d ≤ 2 ^ 24
    both value light within too zero d lt = within
    both value light within too (suc zero) d lt = too
    both value light within too (suc (suc i)) d lt = absurd (omega (arith, lt))

one_within : (value : ℕ) → value ≤ 2 ^ 24 → (i d : ℕ) → i < 1 → slice_index_or (value ∷ []) i d ≤ 2 ^ 24
one_within value within zero d lt = within
one_within value within (suc i) d lt = absurd (omega (arith, lt))

params_rise : (i j : ℕ) (d : Param) → i < j → j < 2 → (slice_index_or (side ∷ lamp ∷ []) i d).id < (slice_index_or (side ∷ lamp ∷ []) j d).id
params_rise zero zero d lt within = absurd (omega (arith, lt))
params_rise zero (suc zero) d lt within = omega arith
params_rise (suc i) (suc zero) d lt within = absurd (omega (arith, lt))
params_rise i (suc (suc j)) d lt within = absurd (omega (arith, within))
params_rise (suc i) zero d lt within = absurd (omega (arith, lt))

starts_unlit : (i : ℕ) (d : Param) → i < 2 → is_read_only (slice_index_or (side ∷ lamp ∷ []) i d).flags ≡ true → switch.shown switch.start (slice_index_or (side ∷ lamp ∷ []) i d).id ≡ (slice_index_or (side ∷ lamp ∷ []) i d).first
starts_unlit zero d lt shown = refl
starts_unlit (suc zero) d lt shown = refl
starts_unlit (suc (suc i)) d lt shown = absurd (omega (arith, lt))

some_held : (a b : List ℕ) → Some a ≡ Some b → a ≡ b
some_held a b e = cc

none_held : (a : List ℕ) → None ≡ Some a → ⊥
none_held a e = cc

choice_held : (t : Bool) (a : ℕ) (values : List ℕ) → (if t && nat_le a (2 ^ 24) then Some (a ∷ []) else None) ≡ Some values → (length values ≡ 1) × All (λ value. value ≤ 2 ^ 24) values
choice_held false a values e = absurd (none_held values e)
choice_held true a values e =
    elim (nat_le a (2 ^ 24)) as (λ t. nat_le a (2 ^ 24) ≡ t → (if t then Some (a ∷ []) else None) ≡ Some values → (length values ≡ 1) × All (λ value. value ≤ 2 ^ 24) values) [
      | true ↦ λ test h. subst (λ (vs : List ℕ). (length vs ≡ 1) × All (λ value. value ≤ 2 ^ 24) vs) (some_held (a ∷ []) values h) (refl, one_within a (leb-true a (2 ^ 24) test))
      | false ↦ λ test h. absurd (none_held values h)
    ] refl e

two_values : (values : List ℕ) → length values ≡ 2 → (value light : ℕ) × (values ≡ value ∷ light ∷ [])
two_values [] long = absurd (omega (arith, long))
two_values (value ∷ []) long = absurd (omega (arith, long))
two_values (value ∷ light ∷ []) long = (value, light, refl)
two_values (value ∷ light ∷ more ∷ values) long = absurd (omega (arith, long))

value_again : (value light : ℕ) → value ≤ 2 ^ 24 → value_of_bytes (bytes_of_value (value ∷ light ∷ [])) ≡ Some (value ∷ [])
value_again value light within =
    rw (from_le_bytes-to_le_bytes_4 value (omega (arith, within))) (rw (le-leb value (2 ^ 24) within) refl)

few_told : (state : State) → length (told_count state) ≤ 4
few_told [] = omega arith
few_told (negsuc n ∷ state) = omega arith
few_told (pos n ∷ state) = omega arith

pub switch_lawful : (code : ℕ) → IsLawful switch
switch_lawful code = record {
  rising = params_rise;
  few = omega arith;
  starts = starts_unlit;
  held = λ bytes values e. choice_held (length bytes == 4) (from_le_bytes w32 bytes) values e;
  reads_back = λ values are.
      let two = two_values values are.each in
      subst (λ (vs : List ℕ). value_of_bytes (bytes_of_value vs) ≡ Some (writable_of (side ∷ lamp ∷ []) vs)) (sym two.2) (value_again two.0 two.1 (subst (λ (vs : List ℕ). slice_index_or vs 0 0 ≤ 2 ^ 24) two.2 (are.within 0 0 (omega (arith, are.each)))));
  short = λ values are.
      let two = two_values values are.each in
      subst (λ (vs : List ℕ). length (bytes_of_value vs) ≤ 1048576) (sym two.2) (omega arith);
  replies = λ state values words few. few_told state;
  partner = refl;
}

-- the code of its one class
abbrev pub switch_code : ℕ → ℕ
switch_code class = 0

-- the value that bytes hold
abbrev pub IsValueIn : List ℕ → Option ℕ → Type 0
IsValueIn bytes None = value_of_bytes bytes ≡ None
IsValueIn bytes (Some value) = (value_of_bytes bytes ≡ Some (value ∷ [])) × (value ≤ 2 ^ 24)

pub same_switch_values : (a b c d e f g h : ℕ) → ◌≡◌ {A = ℕ × ℕ × ℕ × ℕ} (a, c, e, g) (b, d, f, h) → a ∷ c ∷ [] ≡ b ∷ d ∷ []
same_switch_values a b c d e f g h same = ap (λ (rest : ℕ × ℕ × ℕ × ℕ). rest.0 ∷ rest.1 ∷ []) same

pub same_switch_state : (a b c d e f g h : ℕ) → ◌≡◌ {A = ℕ × ℕ × ℕ × ℕ} (a, c, e, g) (b, d, f, h) → pos e ∷ [] ≡ pos f ∷ []
same_switch_state a b c d e f g h same = ap (λ (rest : ℕ × ℕ × ℕ × ℕ). pos rest.2 ∷ []) same

pub same_switch_calls : (a b c d e f g h : ℕ) → ◌≡◌ {A = ℕ × ℕ × ℕ × ℕ} (a, c, e, g) (b, d, f, h) → g ≡ h
same_switch_calls a b c d e f g h same = ap (λ (rest : ℕ × ℕ × ℕ × ℕ). rest.3) same

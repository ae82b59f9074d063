-- The built-in classes keep to the rules of classes.
use Rattle.std.specs.Prelude.{◌≡◌, ℕ, ◌^◌, ◌<◌, ◌≤◌, Bool, true, false, ◌&&◌, nat_lt, nat_le, List, [], ◌∷◌, length, not, Option, All, slice_index_or, if◌then◌else◌}
use Rattle.std.proofs.Common.{zero, suc, refl, sym, ap, ◌∙◌, arith}
use Rattle.std.proofs.lemmas.Bool.{ltb-true, leb-true, true≢false}
use Rattle.vh_params.specs.Flags.{is_read_only, is_writable}
use Rattle.vh_plugin.specs.Class.{Param, Class, State, IsLawful, writable_of, firsts_of}
use Rattle.vh_builtin.specs.Bytes.{held_in, held_by, text_by, writable_ids}
use Rattle.vh_builtin.specs.ByteLaws.{text_held, length_text, held_values, all_rest, all_more, none_le}
use Rattle.vh_builtin.specs.Builtins.{builtin}
use Rattle.vh_builtin.specs.Gain.{gain}
use Rattle.vh_builtin.specs.Balance.{balance}
use Rattle.vh_builtin.specs.Delay.{delay, delay_reply}
use Rattle.vh_builtin.specs.OnePole.{onepole}
use Rattle.vh_builtin.specs.Crusher.{crusher}
use Rattle.vh_builtin.specs.Gate.{gate}
use Rattle.vh_builtin.specs.Meter.{meter, meter_params, meter_reply}
use Rattle.vh_builtin.specs.Tap.{tap, tap_reply}

pub both : (a b : Bool) → (a && b) ≡ true → (a ≡ true) × (b ≡ true)
both true true e = (refl, refl)
both true false e = absurd (true≢false (sym e))
both false b e = absurd (true≢false (sym e))

-- the ids rise from one parameter to the next
abbrev pub rises : List Param → Bool
rises [] = true
rises (param ∷ []) = true
rises (param ∷ next ∷ params) = nat_lt param.id next.id && rises (next ∷ params)

first_below : (p : Param) (ps : List Param) → rises (p ∷ ps) ≡ true → (j : ℕ) (d : Param) → j < length ps → p.id < (slice_index_or ps j d).id
first_below p [] e j d lt = absurd (omega (arith, lt))
first_below p (q ∷ ps) e zero d lt = ltb-true p.id q.id (both (nat_lt p.id q.id) _ e).0
first_below p (q ∷ ps) e (suc j) d lt =
    let two = both (nat_lt p.id q.id) (rises (q ∷ ps)) e in
    let near = ltb-true p.id q.id two.0 in
    let far = first_below q ps two.1 j d (omega (arith, lt)) in
    omega (arith, near, far)

rises_rest : (p : Param) (ps : List Param) → rises (p ∷ ps) ≡ true → rises ps ≡ true
rises_rest p [] e = refl
rises_rest p (q ∷ ps) e = (both (nat_lt p.id q.id) (rises (q ∷ ps)) e).1

all_rise : (ps : List Param) → rises ps ≡ true → (i j : ℕ) (d : Param) → i < j → j < length ps → (slice_index_or ps i d).id < (slice_index_or ps j d).id
all_rise [] e i j d lt within = absurd (omega (arith, within))
all_rise (p ∷ ps) e zero zero d lt within = absurd (omega (arith, lt))
all_rise (p ∷ ps) e zero (suc j) d lt within = first_below p ps e j d (omega (arith, within))
all_rise (p ∷ ps) e (suc i) zero d lt within = absurd (omega (arith, lt))
all_rise (p ∷ ps) e (suc i) (suc j) d lt within = all_rise ps (rises_rest p ps e) i j d (omega (arith, lt)) (omega (arith, within))

-- the values of the parameters that can be set are one for each of their ids, and no greater than all values
pub length_written : (params : List Param) (values : List ℕ) → length values ≡ length params → length (writable_of params values) ≡ length (writable_ids params)
length_written [] values long = refl
length_written (param ∷ params) [] long = absurd (omega (arith, long))
length_written (param ∷ params) (value ∷ values) long =
    let rest = length_written params values (omega (arith, long)) in
    elim (is_writable param.flags) as (λ t. length (if t then value ∷ writable_of params values else writable_of params values) ≡ length (if t then param.id ∷ writable_ids params else writable_ids params)) [
      | true ↦ ap (λ n. suc n) rest
      | false ↦ rest
    ]

within_written : (params : List Param) (values : List ℕ) (most : ℕ) → All (λ value. value ≤ most) values → All (λ value. value ≤ most) (writable_of params values)
within_written [] values most are = none_le most
within_written (param ∷ params) [] most are = none_le most
within_written (param ∷ params) (value ∷ values) most are =
    let rest = within_written params values most (all_rest value values most are) in
    elim (is_writable param.flags) as (λ t. All (λ value. value ≤ most) (if t then value ∷ writable_of params values else writable_of params values)) [
      | true ↦ all_more value (writable_of params values) most (are 0 0 (omega arith)) rest
      | false ↦ rest
    ]

pub fewer_ids : (params : List Param) → length (writable_ids params) ≤ length params
fewer_ids [] = omega arith
fewer_ids (param ∷ params) =
    let rest = fewer_ids params in
    elim (is_writable param.flags) as (λ t. length (if t then param.id ∷ writable_ids params else writable_ids params) ≤ suc (length params)) [
      | true ↦ omega (arith, rest)
      | false ↦ omega (arith, rest)
    ]

length_firsts : (params : List Param) → length (firsts_of params) ≡ length params
length_firsts [] = refl
length_firsts (param ∷ params) = ap (λ n. suc n) (length_firsts params)

-- no number of a list passes another
abbrev pub none_over : ℕ → List ℕ → Bool
none_over most [] = true
none_over most (n ∷ ns) = nat_le n most && none_over most ns

all_under : (most : ℕ) (ns : List ℕ) → none_over most ns ≡ true → All (λ n. n ≤ most) ns
all_under most [] e = none_le most
all_under most (n ∷ ns) e = let two = both (nat_le n most) (none_over most ns) e in all_more n ns most (leb-true n most two.0) (all_under most ns two.1)

-- a class whose state bytes go by its table
lawful : (class : Class) → rises class.params ≡ true → nat_le (length class.params) 64 ≡ true → none_over (2 ^ 24) (writable_ids class.params) ≡ true
    → class.state_of ≡ held_by class.params → class.state_text ≡ text_by class.params
    → All (λ param. is_read_only param.flags ≡ true → class.shown class.start param.id ≡ param.first) class.params
    → ((state : State) (values words : List ℕ) → length (class.reply state values words) ≤ 4) → length class.partner ≡ 16 → IsLawful class
lawful class up few small is_held is_text starts replies partner =
    let ids = writable_ids class.params in
    let most : length class.params ≤ 64 = leb-true (length class.params) 64 few in
    let fewer = fewer_ids class.params in
    record {
      rising = all_rise class.params up;
      few = most;
      starts = starts;
      held = λ bytes values e.
          let two = held_values ids bytes values (sym (ap (λ (f : List ℕ → Option (List ℕ)). f bytes) is_held) ∙ e) in
          (two.0 ∙ sym (length_written class.params (firsts_of class.params) (length_firsts class.params)), two.1);
      reads_back = λ values are.
          ap (λ (f : List ℕ → Option (List ℕ)). f (class.state_text values)) is_held ∙ ap (λ (f : List ℕ → List ℕ). held_in ids (f values)) is_text
          ∙ text_held ids (writable_of class.params values) (length_written class.params values are.each) (all_under (2 ^ 24) ids small) (within_written class.params values (2 ^ 24) are.within);
      short = λ values are. (let e = ap (λ (f : List ℕ → List ℕ). length (f values)) is_text in let f = length_text ids (writable_of class.params values) (length_written class.params values are.each) in omega (arith, e, f, fewer, most));
      replies = λ state values words most. replies state values words;
      partner = partner;
    }

-- of a class all of whose parameters can be set none is only shown
abbrev pub writes : List Param → Bool
writes [] = true
writes (param ∷ params) = is_writable param.flags && writes params

not_shown : (p : Param) → is_writable p.flags ≡ true → is_read_only p.flags ≡ true → ⊥
not_shown p e f = true≢false (sym f ∙ ap (λ t. not t) e)

all_writable : (params : List Param) → writes params ≡ true → (i : ℕ) (d : Param) → i < length params → is_writable (slice_index_or params i d).flags ≡ true
all_writable [] e i d lt = absurd (omega (arith, lt))
all_writable (param ∷ params) e zero d lt = (both (is_writable param.flags) (writes params) e).0
all_writable (param ∷ params) e (suc i) d lt = all_writable params (both (is_writable param.flags) (writes params) e).1 i d (omega (arith, lt))

none_shown : (class : Class) (params : List Param) → writes params ≡ true → All (λ param. is_read_only param.flags ≡ true → class.shown class.start param.id ≡ param.first) params
none_shown class params e i d lt shown = absurd (not_shown (slice_index_or params i d) (all_writable params e i d lt) shown)

no_words : (state : State) (values words : List ℕ) → 0 ≤ 4
no_words state values words = omega arith

delay_words : (state : State) (values words : List ℕ) → length (delay_reply state values words) ≤ 4
delay_words state values [] = omega arith
delay_words state values (zero ∷ words) = omega arith
delay_words state values (suc zero ∷ []) = omega arith
delay_words state values (suc zero ∷ word ∷ words) = omega arith
delay_words state values (suc (suc n) ∷ words) = omega arith

meter_words : (state : State) (values words : List ℕ) → length (meter_reply state values words) ≤ 4
meter_words [] values words = omega arith
meter_words (left ∷ []) values words = omega arith
meter_words (left ∷ right ∷ more ∷ state) values words = omega arith
meter_words (left ∷ right ∷ []) values [] = omega arith
meter_words (left ∷ right ∷ []) values (zero ∷ words) = omega arith
meter_words (left ∷ right ∷ []) values (suc zero ∷ []) = omega arith
meter_words (left ∷ right ∷ []) values (suc zero ∷ word ∷ words) = omega arith
meter_words (left ∷ right ∷ []) values (suc (suc n) ∷ words) = omega arith

tap_words : (state : State) (values words : List ℕ) → length (tap_reply state values words) ≤ 4
tap_words [] values words = omega arith
tap_words (seen ∷ []) values words = omega arith
tap_words (seen ∷ left ∷ []) values words = omega arith
tap_words (seen ∷ left ∷ right ∷ more ∷ state) values words = omega arith
tap_words (seen ∷ left ∷ right ∷ []) values [] = omega arith
tap_words (seen ∷ left ∷ right ∷ []) values (zero ∷ []) = omega arith
tap_words (seen ∷ left ∷ right ∷ []) values (zero ∷ word ∷ words) = omega arith
tap_words (seen ∷ left ∷ right ∷ []) values (suc zero ∷ []) = omega arith
tap_words (seen ∷ left ∷ right ∷ []) values (suc zero ∷ word ∷ words) = omega arith
tap_words (seen ∷ left ∷ right ∷ []) values (suc (suc zero) ∷ []) = omega arith
tap_words (seen ∷ left ∷ right ∷ []) values (suc (suc zero) ∷ word ∷ words) = omega arith
tap_words (seen ∷ left ∷ right ∷ []) values (suc (suc (suc n)) ∷ words) = omega arith

-- the meter's parameters are only shown
meter_starts : All (λ param. is_read_only param.flags ≡ true → meter.shown meter.start param.id ≡ param.first) meter_params
meter_starts zero d lt shown = refl
meter_starts (suc zero) d lt shown = refl
meter_starts (suc (suc i)) d lt shown = absurd (omega (arith, lt))

meter_lawful : IsLawful meter
meter_lawful = lawful meter refl refl refl refl refl meter_starts meter_words refl

gain_lawful : IsLawful gain
gain_lawful = lawful gain refl refl refl refl refl (none_shown gain gain.params refl) no_words refl

pub builtin_lawful : (code : ℕ) → IsLawful (builtin code)
builtin_lawful zero = gain_lawful
builtin_lawful (suc zero) = lawful balance refl refl refl refl refl (none_shown balance balance.params refl) no_words refl
builtin_lawful (suc (suc zero)) = lawful delay refl refl refl refl refl (none_shown delay delay.params refl) delay_words refl
builtin_lawful (suc (suc (suc zero))) = lawful onepole refl refl refl refl refl (none_shown onepole onepole.params refl) no_words refl
builtin_lawful (suc (suc (suc (suc zero)))) = lawful crusher refl refl refl refl refl (none_shown crusher crusher.params refl) no_words refl
builtin_lawful (suc (suc (suc (suc (suc zero))))) = lawful gate refl refl refl refl refl (none_shown gate gate.params refl) no_words refl
builtin_lawful (suc (suc (suc (suc (suc (suc zero)))))) = meter_lawful
builtin_lawful (suc (suc (suc (suc (suc (suc (suc zero))))))) = lawful tap refl refl refl refl refl (none_shown tap tap.params refl) tap_words refl
builtin_lawful (suc (suc (suc (suc (suc (suc (suc (suc k)))))))) = gain_lawful

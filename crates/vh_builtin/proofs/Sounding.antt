-- Laws about the sound.
use Rattle.std.proofs.Common.{◌≡◌, ℕ, zero, suc, ◌+◌, ◌-◌, ◌*◌, ◌/◌, ◌^◌, ◌<◌, ◌≤◌, ◌||◌, ◌==◌, Bool, true, false, nat_lt, if◌then◌else◌, inl, inr, List, [], ◌∷◌, ◌++◌, map, length, replicate, get_or, All, Option, ℤ, pos, negsuc, ◌*ℤ◌, ◌+ℤ◌, neg_ℤ, refl, sym, ap, ap₂, ◌∙◌, arith}
use Rattle.std.proofs.lemmas.Int.{ints}
use Rattle.std.proofs.lemmas.Bool.{ltb-true, ltb-false, lt-ltb, le-ltb, eq-eqb}
use Rattle.std.proofs.lemmas.List.{take_at, length-replicate, get_or-take}
use Rattle.vh_num.specs.Frames.{Frame}
use Rattle.vh_num.specs.Samples.{clamp_of, floor_div}
use Rattle.vh_plugin.specs.Class.{State}
use Rattle.vh_plugin.specs.Runs.{mono, run_state, run_output}
use Rattle.vh_builtin.specs.Frames.{value, step}
use Rattle.vh_builtin.specs.Ranges.{IsSample, IsBetween}
use Rattle.vh_builtin.specs.Gain.{gain_of, gain_frame}
use Rattle.vh_builtin.specs.Balance.{share_of}
use Rattle.vh_builtin.specs.OnePole.{pole_of}
use Rattle.vh_builtin.specs.Gate.{gate_frame, is_loud, is_open}
use Rattle.vh_builtin.specs.Meter.{peaks_of, peak_word}
use Rattle.vh_builtin.specs.Delay.{delay, delay_frame, fed_of, delayed_of, ago, all_silent}
use Rattle.vh_builtin.specs.Rings.{kept_after}
use Rattle.vh_builtin.proofs.Shares.{share_between, clamp_sample}
use Rattle.vh_builtin.proofs.Delays.{state_mono, length_after}

pub law_pole : (cutoff : ℕ) (z x : ℤ) → cutoff ≤ 2 ^ 24 → IsBetween z (pole_of cutoff z x) x
law_pole cutoff z x le =
    elim (share_between (x +ℤ neg_ℤ z) cutoff (2 ^ 24) le (omega arith)) [
      | inl up ↦ inl (omega (arith, ints, up.0), omega (arith, ints, up.1))
      | inr below ↦ inr (omega (arith, ints, below.0), omega (arith, ints, below.1))
    ]

-- a number times the divisor, divided
whole_unit : (x : ℤ) → floor_div (x *ℤ pos 8388608) 8388608 ≡ x
whole_unit (pos n) = ap (λ k. pos k) (let e : n * 8388608 / 8388608 ≡ n = omega arith in e)
whole_unit (negsuc n) = down (suc n * 8388608) n (omega arith)
  where
    down : (m n : ℕ) → m ≡ suc n * 8388608 → floor_div (neg_ℤ (pos m)) 8388608 ≡ negsuc n
    down zero n e = absurd (omega (arith, e))
    down (suc m) n e = ap (λ k. negsuc k) (let f : m / 8388608 ≡ n = omega (arith, e) in f)

all_unity : (main : Frame) → All IsSample main → map (gain_of 8388608) main ≡ main
all_unity [] are = refl
all_unity (x ∷ main) are =
    ap₂ (λ (y : ℤ) (ys : Frame). y ∷ ys) (ap clamp_of (whole_unit x) ∙ clamp_sample x (are 0 x (omega arith))) (all_unity main (λ i d lt. are (suc i) d (omega (arith, lt))))

pub law_unity : (values : List ℕ) (main : Frame) → value values 0 ≡ 8388608 → All IsSample main → gain_frame values main ≡ main
law_unity values main is are = cases (step values 1 1 == 1)
  where
    cases : (b : Bool) → (if b then main else map (gain_of (value values 0)) main) ≡ main
    cases true = refl
    cases false = ap (λ level. map (gain_of level) main) is ∙ all_unity main are

pub law_bypass : (threshold bypass : ℕ) (state : State) (key main : Frame) → bypass ≡ 1 → gate_frame threshold bypass state key main ≡ main
law_bypass threshold bypass state key main is = rw (eq-eqb bypass 1 is) (cases (is_loud threshold key) (is_open state))
  where
    cases : (a b : Bool) → (if a || b || true then main else map (λ x. pos 0) main) ≡ main
    cases true b = refl
    cases false true = refl
    cases false false = refl

-- the numbers that a delay without feedback keeps are what came in
fed_nothing : (x w : ℤ) → IsSample x → fed_of 0 x w ≡ x
fed_nothing x w is = ap clamp_of (let e : x +ℤ floor_div (w *ℤ pos 0) 33554432 ≡ x = ap (λ (y : ℤ). x +ℤ floor_div y 33554432) (times_zero w) ∙ omega (arith, ints) in e) ∙ clamp_sample x is
  where
    times_zero : (w : ℤ) → w *ℤ pos 0 ≡ pos 0
    times_zero (pos n) = ap (λ k. pos k) (let e : n * 0 ≡ 0 = omega arith in e)
    times_zero (negsuc n) = ap (λ k. neg_ℤ (pos k)) (let e : suc n * 0 ≡ 0 = omega arith in e)

-- what is kept, i numbers back
kept_back : (time : ℕ) (us samples : List ℤ) (k i : ℕ) → All IsSample samples → k ≤ length samples → i < 4095
    → get_or (kept_after time 0 us samples k) i (pos 0) ≡ (if nat_lt i k then get_or samples (k - 1 - i) (pos 0) else get_or us (i - k) (pos 0))
kept_back time us samples zero i are le lt = rw (le-ltb i 0 (omega arith)) (ap (λ n. get_or us n (pos 0)) (let e : i ≡ i - 0 = omega arith in e))
kept_back time us samples (suc k) zero are le lt =
    rw (lt-ltb 0 (suc k) (omega arith)) (fed_nothing (get_or samples k (pos 0)) (ago time (kept_after time 0 us samples k) (get_or samples k (pos 0))) (are k (pos 0) (omega (arith, le))) ∙ ap (λ n. get_or samples n (pos 0)) (let e : k ≡ suc k - 1 - 0 = omega arith in e))
kept_back time us samples (suc k) (suc i) are le lt =
    get_or-take 4094 (kept_after time 0 us samples k) i (pos 0) (omega (arith, lt))
    ∙ kept_back time us samples k i are (omega (arith, le)) (omega (arith, lt))
    ∙ elim (nat_lt i k) as (λ t. nat_lt i k ≡ t → (if t then get_or samples (k - 1 - i) (pos 0) else get_or us (i - k) (pos 0)) ≡ (if nat_lt (suc i) (suc k) then get_or samples (suc k - 1 - suc i) (pos 0) else get_or us (suc i - suc k) (pos 0))) [
      | true ↦ λ test. rw (lt-ltb (suc i) (suc k) (let h = ltb-true i k test in omega (arith, h))) (ap (λ n. get_or samples n (pos 0)) (let e : k - 1 - i ≡ suc k - 1 - suc i = omega arith in e))
      | false ↦ λ test. rw (le-ltb (suc i) (suc k) (let h = ltb-false i k test in omega (arith, h))) (ap (λ n. get_or us n (pos 0)) (let e : i - k ≡ suc i - suc k = omega arith in e))
    ] refl

zeros : (n k : ℕ) → get_or (replicate n (pos 0)) k (pos 0) ≡ pos 0
zeros zero k = refl
zeros (suc n) zero = refl
zeros (suc n) (suc k) = zeros n k

-- all mix gives what was kept
all_mixed : (x w : ℤ) → IsSample w → delayed_of (2 ^ 24) x w ≡ w
all_mixed x w is = ap clamp_of (ap (λ (y : ℤ). floor_div (y +ℤ (w *ℤ pos (2 ^ 24))) (2 ^ 24)) (nothing x) ∙ whole w) ∙ clamp_sample w is
  where
    nothing : (x : ℤ) → x *ℤ pos (2 ^ 24 - 2 ^ 24) ≡ pos 0
    nothing (pos n) = ap (λ k. pos k) (let e : n * 0 ≡ 0 = omega arith in e)
    nothing (negsuc n) = ap (λ k. neg_ℤ (pos k)) (let e : suc n * 0 ≡ 0 = omega arith in e)

    down : (m n : ℕ) → m ≡ suc n * 16777216 → floor_div (pos 0 +ℤ neg_ℤ (pos m)) 16777216 ≡ negsuc n
    down zero n e = absurd (omega (arith, e))
    down (suc m) n e = ap (λ (y : ℤ). floor_div y 16777216) (let g : pos 0 +ℤ neg_ℤ (pos (suc m)) ≡ negsuc m = omega (arith, ints) in g) ∙ ap (λ k. negsuc k) (let f : m / 16777216 ≡ n = omega (arith, e) in f)

    whole : (w : ℤ) → floor_div (pos 0 +ℤ (w *ℤ pos (2 ^ 24))) (2 ^ 24) ≡ w
    whole (pos n) = ap (λ k. pos k) (let e : (0 + n * 16777216) / 16777216 ≡ n = omega arith in e)
    whole (negsuc n) = down (suc n * 16777216) n (omega arith)

zero_sample : IsSample (pos 0)
zero_sample = record { low = omega (arith, ints); high = omega (arith, ints) }

ago_is : (time : ℕ) (samples : List ℤ) (place : ℕ) (x : ℤ) → 1 ≤ time → time ≤ 4095 → All IsSample samples → place < length samples
    → ago time (kept_after time 0 (replicate 4095 (pos 0)) samples place) x ≡ (if nat_lt place time then pos 0 else get_or samples (place - time) (pos 0))
ago_is zero samples place x some most are lt = absurd (omega (arith, some))
ago_is (suc time) samples place x some most are lt =
    kept_back (suc time) (replicate 4095 (pos 0)) samples place time are (omega (arith, lt)) (omega (arith, most))
    ∙ elim (nat_lt place (suc time)) as (λ t. nat_lt place (suc time) ≡ t → (if nat_lt time place then get_or samples (place - 1 - time) (pos 0) else get_or (replicate 4095 (pos 0)) (time - place) (pos 0)) ≡ (if t then pos 0 else get_or samples (place - suc time) (pos 0))) [
      | true ↦ λ test. rw (le-ltb time place (let h = ltb-true place (suc time) test in omega (arith, h))) (zeros 4095 (time - place))
      | false ↦ λ test. rw (lt-ltb time place (let h = ltb-false place (suc time) test in omega (arith, h))) (ap (λ n. get_or samples n (pos 0)) (let e : place - 1 - time ≡ place - suc time = omega arith in e))
    ] refl

ago_sample : (time : ℕ) (samples : List ℤ) (place : ℕ) → All IsSample samples → place < length samples → IsSample (if nat_lt place time then pos 0 else get_or samples (place - time) (pos 0))
ago_sample time samples place are lt = cases (nat_lt place time)
  where
    cases : (b : Bool) → IsSample (if b then pos 0 else get_or samples (place - time) (pos 0))
    cases true = zero_sample
    cases false = are (place - time) (pos 0) (omega (arith, lt))

pub law_delay : (values : List ℕ) (samples : List ℤ) (aux : ℕ → Option Frame) (time place : ℕ) → step values 0 4095 ≡ time → 1 ≤ time → value values 1 ≡ 2 ^ 24 → value values 2 ≡ 0 → All IsSample samples → place < length samples
    → run_output delay 1 all_silent values (mono samples) aux place ≡ (if nat_lt place time then pos 0 else get_or samples (place - time) (pos 0)) ∷ []
unfolding all_silent
law_delay values samples aux time place is_time some is_mix is_feedback are lt =
    let us = replicate 4095 (pos 0) in
    let x = get_or samples place (pos 0) in
    let silence : length us ≡ 4095 = length-replicate 4095 (pos 0) in
    let kept = kept_after time 0 us samples place in
    let most : time ≤ 4095 = (let e : step values 0 4095 ≤ 4095 = omega arith in omega (arith, e, is_time)) in
    let state : run_state delay 1 (us ++ us) values (mono samples) aux place ≡ kept ++ us =
    state_mono us us values samples aux place silence ∙ ap₂ (λ t f. kept_after t f us samples place ++ us) is_time is_feedback in
    ap (λ (s : State). delay_frame (step values 0 4095) (value values 1) s (x ∷ [])) state
    ∙ ap₂ (λ t m. delay_frame t m (kept ++ us) (x ∷ [])) is_time is_mix
    ∙ ap (λ (y : ℤ). y ∷ []) (ap (λ (vs : List ℤ). delayed_of (2 ^ 24) x (ago time vs x)) (take_at kept us 4095 (length_after time 0 us samples place silence))
    ∙ ap (λ (w : ℤ). delayed_of (2 ^ 24) x w) (ago_is time samples place x some most are lt)
    ∙ all_mixed x _ (ago_sample time samples place are lt))

pub law_centre : (left right : ℤ) → share_of 8388608 left ∷ share_of 8388608 right ∷ [] ≡ left ∷ right ∷ []
law_centre left right = ap₂ (λ (x y : ℤ). x ∷ y ∷ []) (whole_unit left) (whole_unit right)

pub law_peaks : (left right : ℕ) (x y : ℤ) (p q : ℤ) → peaks_of (pos left ∷ pos right ∷ []) (x ∷ y ∷ []) ≡ p ∷ q ∷ [] → (left ≤ peak_word p) × (right ≤ peak_word q)
law_peaks left right x y p q is =
    let first : peak_word p ≡ _ = sym (ap (λ (s : State). peak_word (get_or s 0 (pos 0))) is) in
    let second : peak_word q ≡ _ = sym (ap (λ (s : State). peak_word (get_or s 1 (pos 0))) is) in
    (omega (arith, first), omega (arith, second))

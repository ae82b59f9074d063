-- A delay over a stretch.
use Rattle.std.proofs.Common.{◌≡◌, ℕ, zero, suc, List, [], ◌∷◌, ◌++◌, length, get_or, ℤ, pos, Option, refl, sym, ap, ap₂, ◌∙◌, arith}
use Rattle.std.proofs.lemmas.List.{take_at, drop_at, length-take-le}
use Rattle.vh_num.specs.Frames.{Frame}
use Rattle.vh_plugin.specs.Class.{State}
use Rattle.vh_plugin.specs.Runs.{mono, stereo, run_state, IsRun}
use Rattle.vh_builtin.specs.Frames.{value, step}
use Rattle.vh_builtin.specs.Delay.{delay, kept_of, delay_next, delay_frame, delayed_of, ago}
use Rattle.vh_builtin.specs.Rings.{kept_after, IsEcho}

-- what is kept stays as long
length_kept : (time feedback : ℕ) (us : List ℤ) (x : ℤ) → length us ≡ 4095 → length (kept_of time feedback us x) ≡ 4095
length_kept time feedback us x long = ap (λ n. suc n) (length-take-le 4094 us (omega (arith, long)))

pub length_after : (time feedback : ℕ) (us samples : List ℤ) (k : ℕ) → length us ≡ 4095 → length (kept_after time feedback us samples k) ≡ 4095
length_after time feedback us samples zero long = long
length_after time feedback us samples (suc k) long = length_kept time feedback (kept_after time feedback us samples k) (get_or samples k (pos 0)) (length_after time feedback us samples k long)

next_mono : (time feedback : ℕ) (us vs : List ℤ) (x : ℤ) → length us ≡ 4095 → delay_next time feedback (us ++ vs) (x ∷ []) ≡ kept_of time feedback us x ++ vs
next_mono time feedback us vs x long = ap₂ (λ (a b : List ℤ). kept_of time feedback a x ++ b) (take_at us vs 4095 long) (drop_at us vs 4095 long)

next_stereo : (time feedback : ℕ) (us vs : List ℤ) (x y : ℤ) → length us ≡ 4095 → delay_next time feedback (us ++ vs) (x ∷ y ∷ []) ≡ kept_of time feedback us x ++ kept_of time feedback vs y
next_stereo time feedback us vs x y long = ap₂ (λ (a b : List ℤ). kept_of time feedback a x ++ kept_of time feedback b y) (take_at us vs 4095 long) (drop_at us vs 4095 long)

pub state_mono : (us vs : List ℤ) (values : List ℕ) (main : List ℤ) (aux : ℕ → Option Frame) (k : ℕ) → length us ≡ 4095
    → run_state delay 1 (us ++ vs) values (mono main) aux k ≡ kept_after (step values 0 4095) (value values 2) us main k ++ vs
state_mono us vs values main aux zero long = refl
state_mono us vs values main aux (suc k) long =
    let time = step values 0 4095 in let feedback = value values 2 in
    ap (λ (s : State). delay_next time feedback s (mono main k)) (state_mono us vs values main aux k long)
    ∙ next_mono time feedback (kept_after time feedback us main k) vs (get_or main k (pos 0)) (length_after time feedback us main k long)

state_stereo : (us vs : List ℤ) (values : List ℕ) (left right : List ℤ) (aux : ℕ → Option Frame) (k : ℕ) → length us ≡ 4095
    → run_state delay 2 (us ++ vs) values (stereo left right) aux k ≡ kept_after (step values 0 4095) (value values 2) us left k ++ kept_after (step values 0 4095) (value values 2) vs right k
state_stereo us vs values left right aux zero long = refl
state_stereo us vs values left right aux (suc k) long =
    let time = step values 0 4095 in let feedback = value values 2 in
    ap (λ (s : State). delay_next time feedback s (stereo left right k)) (state_stereo us vs values left right aux k long)
    ∙ next_stereo time feedback (kept_after time feedback us left k) (kept_after time feedback vs right k) (get_or left k (pos 0)) (get_or right k (pos 0)) (length_after time feedback us left k long)

pub mono_echo : (us vs kept : List ℤ) (values : List ℕ) (main out : List ℤ) (aux : ℕ → Option Frame) (n : ℕ) → length us ≡ 4095
    → IsEcho (step values 0 4095) (value values 1) (value values 2) us main n kept out
    → IsRun delay 1 (us ++ vs) values (mono main) aux n (mono out) × (kept ++ vs ≡ run_state delay 1 (us ++ vs) values (mono main) aux n)
mono_echo us vs kept values main out aux n long is =
    let time = step values 0 4095 in let mix = value values 1 in let feedback = value values 2 in (
      (λ place lt.
          ap (λ (y : ℤ). y ∷ []) (is.given place lt ∙ ap (λ (a : List ℤ). delayed_of mix (get_or main place (pos 0)) (ago time a (get_or main place (pos 0)))) (sym (take_at (kept_after time feedback us main place) vs 4095 (length_after time feedback us main place long))))
          ∙ ap (λ (s : State). delay_frame time mix s (mono main place)) (sym (state_mono us vs values main aux place long))),
      ap (λ (a : List ℤ). a ++ vs) is.kept_are ∙ sym (state_mono us vs values main aux n long),
    )

pub stereo_echo : (us vs kept kept_right : List ℤ) (values : List ℕ) (left right out out_right : List ℤ) (aux : ℕ → Option Frame) (n : ℕ) → length us ≡ 4095
    → IsEcho (step values 0 4095) (value values 1) (value values 2) us left n kept out → IsEcho (step values 0 4095) (value values 1) (value values 2) vs right n kept_right out_right
    → IsRun delay 2 (us ++ vs) values (stereo left right) aux n (stereo out out_right) × (kept ++ kept_right ≡ run_state delay 2 (us ++ vs) values (stereo left right) aux n)
stereo_echo us vs kept kept_right values left right out out_right aux n long is too =
    let time = step values 0 4095 in let mix = value values 1 in let feedback = value values 2 in (
      (λ place lt.
          let a = kept_after time feedback us left place in let b = kept_after time feedback vs right place in
          let is_long = length_after time feedback us left place long in
          ap₂ (λ (y z : ℤ). y ∷ z ∷ [])
          (is.given place lt ∙ ap (λ (a : List ℤ). delayed_of mix (get_or left place (pos 0)) (ago time a (get_or left place (pos 0)))) (sym (take_at a b 4095 is_long)))
          (too.given place lt ∙ ap (λ (b : List ℤ). delayed_of mix (get_or right place (pos 0)) (ago time b (get_or right place (pos 0)))) (sym (drop_at a b 4095 is_long)))
          ∙ ap (λ (s : State). delay_frame time mix s (stereo left right place)) (sym (state_stereo us vs values left right aux place long))),
      ap₂ (λ (a b : List ℤ). a ++ b) is.kept_are too.kept_are ∙ sym (state_stereo us vs values left right aux n long),
    )

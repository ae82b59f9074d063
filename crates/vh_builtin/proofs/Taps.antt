-- What a tap has seen after a stretch.
use Rattle.std.proofs.Common.{◌≡◌, ℕ, zero, suc, ◌+◌, ◌-◌, ◌^◌, ◌<◌, min, List, [], ◌∷◌, ℤ, pos, Option, ap, ap₂, ◌∙◌, arith}
use Rattle.vh_num.specs.Frames.{Frame}
use Rattle.vh_plugin.specs.Class.{State}
use Rattle.vh_plugin.specs.Runs.{mono, stereo, run_state}
use Rattle.vh_builtin.specs.Tap.{tap, tap_next}
use Rattle.vh_builtin.specs.Lasts.{last_after}

abbrev count : ℕ → ℕ → ℕ
count n k = min (n + k) (2 ^ 32 - 1)

mono_run : (n : ℕ) (p q : ℤ) (values : List ℕ) (main : List ℤ) (aux : ℕ → Option Frame) (k : ℕ) → n < 2 ^ 32 → pos (count n k) ∷ last_after p main k ∷ q ∷ [] ≡ run_state tap 1 (pos n ∷ p ∷ q ∷ []) values (mono main) aux k
mono_run n p q values main aux zero fits = ap (λ c. pos c ∷ p ∷ q ∷ []) (let e : count n 0 ≡ n = omega (arith, fits) in e)
mono_run n p q values main aux (suc k) fits =
    ap (λ c. pos c ∷ last_after p main (suc k) ∷ q ∷ []) (let e : count n (suc k) ≡ min (count n k + 1) (2 ^ 32 - 1) = omega arith in e)
    ∙ ap (λ (s : State). tap_next s (mono main k)) (mono_run n p q values main aux k fits)

stereo_run : (n : ℕ) (p q : ℤ) (values : List ℕ) (left right : List ℤ) (aux : ℕ → Option Frame) (k : ℕ) → n < 2 ^ 32
    → pos (count n k) ∷ last_after p left k ∷ last_after q right k ∷ [] ≡ run_state tap 2 (pos n ∷ p ∷ q ∷ []) values (stereo left right) aux k
stereo_run n p q values left right aux zero fits = ap (λ c. pos c ∷ p ∷ q ∷ []) (let e : count n 0 ≡ n = omega (arith, fits) in e)
stereo_run n p q values left right aux (suc k) fits =
    ap (λ c. pos c ∷ last_after p left (suc k) ∷ last_after q right (suc k) ∷ []) (let e : count n (suc k) ≡ min (count n k + 1) (2 ^ 32 - 1) = omega arith in e)
    ∙ ap (λ (s : State). tap_next s (stereo left right k)) (stereo_run n p q values left right aux k fits)

pub mono_seen : (n n' : ℕ) (p q p' : ℤ) (values : List ℕ) (main : List ℤ) (aux : ℕ → Option Frame) (k : ℕ) → n < 2 ^ 32 → n' ≡ count n k → p' ≡ last_after p main k
    → pos n' ∷ p' ∷ q ∷ [] ≡ run_state tap 1 (pos n ∷ p ∷ q ∷ []) values (mono main) aux k
mono_seen n n' p q p' values main aux k fits is last = ap (λ c. pos c ∷ p' ∷ q ∷ []) is ∙ ap (λ (x : ℤ). pos (count n k) ∷ x ∷ q ∷ []) last ∙ mono_run n p q values main aux k fits

pub stereo_seen : (n n' : ℕ) (p q p' q' : ℤ) (values : List ℕ) (left right : List ℤ) (aux : ℕ → Option Frame) (k : ℕ) → n < 2 ^ 32 → n' ≡ count n k → p' ≡ last_after p left k → q' ≡ last_after q right k
    → pos n' ∷ p' ∷ q' ∷ [] ≡ run_state tap 2 (pos n ∷ p ∷ q ∷ []) values (stereo left right) aux k
stereo_seen n n' p q p' q' values left right aux k fits is last too =
    ap (λ c. pos c ∷ p' ∷ q' ∷ []) is ∙ ap₂ (λ (x y : ℤ). pos (count n k) ∷ x ∷ y ∷ []) last too ∙ stereo_run n p q values left right aux k fits

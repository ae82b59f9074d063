-- The peaks of a stretch.
use Rattle.std.proofs.Common.{◌≡◌, ℕ, zero, suc, List, [], ◌∷◌, ℤ, Option, refl, ap, ap₂, ◌∙◌}
use Rattle.vh_num.specs.Frames.{Frame}
use Rattle.vh_plugin.specs.Class.{State}
use Rattle.vh_plugin.specs.Runs.{mono, stereo, run_state}
use Rattle.vh_builtin.specs.Meter.{meter, peaks_of}
use Rattle.vh_builtin.specs.Peaks.{peak_after}

mono_run : (p q : ℤ) (values : List ℕ) (main : List ℤ) (aux : ℕ → Option Frame) (k : ℕ) → peak_after p main k ∷ q ∷ [] ≡ run_state meter 1 (p ∷ q ∷ []) values (mono main) aux k
mono_run p q values main aux zero = refl
mono_run p q values main aux (suc k) = ap (λ (s : State). peaks_of s (mono main k)) (mono_run p q values main aux k)

stereo_run : (p q : ℤ) (values : List ℕ) (left right : List ℤ) (aux : ℕ → Option Frame) (k : ℕ) → peak_after p left k ∷ peak_after q right k ∷ [] ≡ run_state meter 2 (p ∷ q ∷ []) values (stereo left right) aux k
stereo_run p q values left right aux zero = refl
stereo_run p q values left right aux (suc k) = ap (λ (s : State). peaks_of s (stereo left right k)) (stereo_run p q values left right aux k)

pub mono_peaks : (p q p' : ℤ) (values : List ℕ) (main : List ℤ) (aux : ℕ → Option Frame) (k : ℕ) → p' ≡ peak_after p main k → p' ∷ q ∷ [] ≡ run_state meter 1 (p ∷ q ∷ []) values (mono main) aux k
mono_peaks p q p' values main aux k is = ap (λ (x : ℤ). x ∷ q ∷ []) is ∙ mono_run p q values main aux k

pub stereo_peaks : (p q p' q' : ℤ) (values : List ℕ) (left right : List ℤ) (aux : ℕ → Option Frame) (k : ℕ) → p' ≡ peak_after p left k → q' ≡ peak_after q right k
    → p' ∷ q' ∷ [] ≡ run_state meter 2 (p ∷ q ∷ []) values (stereo left right) aux k
stereo_peaks p q p' q' values left right aux k is too = ap₂ (λ (x y : ℤ). x ∷ y ∷ []) is too ∙ stereo_run p q values left right aux k

-- The count of the tests' class.
use Rattle.std.proofs.Common.{◌≡◌, ℕ, zero, suc, ◌+◌, ◌-◌, ◌^◌, ◌<◌, min, List, [], ◌∷◌, pos, Option, ap, ◌∙◌, arith}
use Rattle.vh_num.specs.Frames.{Frame}
use Rattle.vh_plugin.specs.Runs.{run_state}
use Rattle.plugin_example.specs.Switches.{switch, counted}

counted_run : (channels seen : ℕ) (values : List ℕ) (main : ℕ → Frame) (aux : ℕ → Option Frame) (k : ℕ) → seen < 2 ^ 64
    → pos (min (2 ^ 64 - 1) (seen + k)) ∷ [] ≡ run_state switch channels (pos seen ∷ []) values main aux k
counted_run channels seen values main aux zero fits = ap (λ n. pos n ∷ []) (let e : min (2 ^ 64 - 1) (seen + 0) ≡ seen = omega (arith, fits) in e)
counted_run channels seen values main aux (suc k) fits =
    ap (λ n. pos n ∷ []) (let e : min (2 ^ 64 - 1) (seen + suc k) ≡ min (2 ^ 64 - 1) (min (2 ^ 64 - 1) (seen + k) + 1) = omega arith in e)
    ∙ ap counted (counted_run channels seen values main aux k fits)

pub counts : (channels seen size after : ℕ) (values : List ℕ) (main : ℕ → Frame) (aux : ℕ → Option Frame) → seen < 2 ^ 64 → after ≡ min (seen + size) (2 ^ 64 - 1)
    → pos after ∷ [] ≡ run_state switch channels (pos seen ∷ []) values main aux size
counts channels seen size after values main aux fits is =
    ap (λ n. pos n ∷ []) (let e : after ≡ min (2 ^ 64 - 1) (seen + size) = omega (arith, is) in e) ∙ counted_run channels seen values main aux size fits

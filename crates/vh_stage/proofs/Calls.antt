-- How often processors are called.
use Rattle.std.proofs.Common.{◌≡◌, ◌∙◌, ℕ, suc, ◌+◌, List, [], ◌∷◌, map, refl, ap, arith}
use Rattle.vh_plugin.specs.Counts.{raised}
use Rattle.vh_render.specs.Playing.{called}

called_next : (times calls : ℕ) → raised (called times calls) ≡ called (times + 1) calls
called_next times calls = ap (λ n. called n calls) (let e : suc times ≡ times + 1 = omega arith in e)

-- one call more of each
pub calls_more : (times : ℕ) (calls : List ℕ) → map raised (map (called times) calls) ≡ map (called (times + 1)) calls
calls_more times [] = refl
calls_more times (count ∷ calls) =
    ap (λ n. n ∷ map raised (map (called times) calls)) (called_next times count) ∙ ap (λ (l : List ℕ). called (times + 1) count ∷ l) (calls_more times calls)

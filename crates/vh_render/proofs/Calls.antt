-- How often processors are called.
use Rattle.std.proofs.Common.{◌≡◌, ◌∙◌, ℕ, zero, suc, ◌+◌, ◌-◌, ◌^◌, min, List, [], ◌∷◌, map, refl, ap, arith}
use Rattle.vh_plugin.specs.Counts.{raised, raised_by}
use Rattle.vh_render.specs.Playing.{called}

called_next : (times calls : ℕ) → raised (called times calls) ≡ called (times + 1) calls
called_next times calls = ap (λ n. called n calls) (let e : suc times ≡ times + 1 = omega arith in e)

-- one call more of each
pub calls_more : (times : ℕ) (calls : List ℕ) → map raised (map (called times) calls) ≡ map (called (times + 1)) calls
calls_more times [] = refl
calls_more times (count ∷ calls) =
    ap (λ n. n ∷ map raised (map (called times) calls)) (called_next times count) ∙ ap (λ (l : List ℕ). called (times + 1) count ∷ l) (calls_more times calls)

-- no call as yet
pub calls_none : (calls : List ℕ) → map (called 0) calls ≡ calls
calls_none [] = refl
calls_none (count ∷ calls) = ap (λ (l : List ℕ). count ∷ l) (calls_none calls)

called_is : (times calls : ℕ) → called (suc times) calls ≡ raised_by (times + 1) calls
called_is zero calls = refl
called_is (suc times) calls =
    let before = called_is times calls in
    let same : min (2 ^ 64 - 1) (raised_by (times + 1) calls + 1) ≡ raised_by (suc times + 1) calls = omega arith in
    ap raised before ∙ same

-- all calls at once
pub calls_all : (times : ℕ) (calls : List ℕ) → map raised (map (called times) calls) ≡ map (raised_by (times + 1)) calls
calls_all times [] = refl
calls_all times (count ∷ calls) =
    ap (λ n. n ∷ map raised (map (called times) calls)) (called_is times count) ∙ ap (λ (l : List ℕ). raised_by (times + 1) count ∷ l) (calls_all times calls)

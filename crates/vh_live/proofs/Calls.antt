-- How often processors are called.
use Rattle.std.proofs.Common.{◌≡◌, ◌∙◌, ℕ, zero, suc, ◌+◌, List, [], ◌∷◌, map, refl, ap, arith}
use Rattle.vh_plugin.specs.Counts.{raised, raised_by}
use Rattle.vh_render.specs.Playing.{called}

-- one raised so many times and once more
raised_once_more : (times count : ℕ) → raised (raised_by times count) ≡ raised_by (times + 1) count
raised_once_more times count = omega arith

called_by : (times count : ℕ) → raised (called times count) ≡ raised_by (times + 1) count
called_by zero count = omega arith
called_by (suc times) count =
    let before = called_by times count in
    ap raised before ∙ raised_once_more (times + 1) count ∙ (let e : (times + 1) + 1 ≡ suc times + 1 = omega arith in ap (λ n. raised_by n count) e)

-- each of so many processors is called for every piece and once more
pub called_at_end : (times : ℕ) (calls : List ℕ) → map raised (map (called times) calls) ≡ map (raised_by (times + 1)) calls
called_at_end times [] = refl
called_at_end times (count ∷ calls) =
    ap (λ n. n ∷ map raised (map (called times) calls)) (called_by times count) ∙ ap (λ (l : List ℕ). raised_by (times + 1) count ∷ l) (called_at_end times calls)

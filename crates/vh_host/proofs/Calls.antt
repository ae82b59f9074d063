-- How often processors are called.
use Rattle.std.proofs.Common.{◌≡◌, ◌∙◌, ℕ, zero, suc, ◌+◌, ◌-◌, ◌*◌, ◌^◌, ◌≤◌, true, false, cond, List, [], ◌∷◌, length, map, replicate, sum, ap, arith}
use Rattle.std.specs.Prelude.{nat_lt}
use Rattle.std.proofs.lemmas.List.Sums.{sum-map}
use Rattle.std.proofs.lemmas.List.Folds.{sum_by-replicate}
use Rattle.vh_cut.specs.Cut.{piece_length, pieces_from, pieces_of}
use Rattle.vh_plugin.specs.Counts.{raised_by}

-- there are no more pieces than samples
few_from : (most samples : ℕ) (pattern stops : List ℕ) (k at : ℕ) → length (pieces_from most samples pattern stops k at) ≤ most
few_from zero samples pattern stops k at = omega arith
few_from (suc most) samples pattern stops k at =
    let later = few_from most samples pattern stops (k + 1) (at + piece_length samples pattern stops k at) in
    elim (nat_lt at samples) as (λ b. length (cond b (record { start = at; length = piece_length samples pattern stops k at } ∷ pieces_from most samples pattern stops (k + 1) (at + piece_length samples pattern stops k at)) []) ≤ suc most) [
      | true ↦ omega (arith, later)
      | false ↦ omega arith
    ]

pub few_pieces : (samples : ℕ) (pattern stops : List ℕ) → length (pieces_of samples pattern stops) ≤ samples
few_pieces samples pattern stops = few_from samples samples pattern stops 0 0

-- each of so many processors is called so often
pub called_each : (calls n : ℕ) → calls ≤ 2 ^ 64 - 1 → sum (map (raised_by calls) (replicate n 0)) ≡ n * calls
called_each calls n most =
    let here : raised_by calls 0 ≡ calls = omega (arith, most) in
    sum-map (raised_by calls) (replicate n 0) ∙ sum_by-replicate (raised_by calls) n 0 ∙ ap (λ k. n * k) here

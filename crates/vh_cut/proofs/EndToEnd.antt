-- Pieces lie end to end.
use Rattle.std.proofs.Common.{◌≡◌, ℕ, zero, suc, ◌+◌, ◌-◌, ◌%◌, ◌<◌, ◌≤◌, min, true, false, cond, nat_lt, List, [], ◌∷◌, length, get_or, take, slice_index, refl, subst, arith}
use Rattle.std.proofs.lemmas.Bool.{ltb-true, ltb-false, lt-ltb}
use Rattle.std.proofs.lemmas.List.Sums.{sum_by-cons}
use Rattle.vh_cut.specs.declared.piece.Piece.{Piece}
use Rattle.vh_cut.specs.Cut.{IsPattern, to_stop, piece_length, pieces_from}
use Rattle.vh_cut.specs.Laws.{samples_of, IsCrossed, LieEndToEnd, PiecesLieEndToEnd}
use Rattle.vh_cut.proofs.Lengths.{to_stop_most, some_samples}

samples_more : (piece : Piece) (pieces : List Piece) → samples_of (piece ∷ pieces) ≡ piece.length + samples_of pieces
samples_more piece pieces = sum_by-cons (λ (p : Piece). p.length) piece pieces

-- a piece ends at the latest at each stop after it begins
within_stop : (at most : ℕ) (stops : List ℕ) (j e : ℕ) → j < length stops → at < get_or stops j e → at + to_stop at most stops ≤ get_or stops j e
within_stop at most [] j e within after = absurd (omega arith)
within_stop at most (stop ∷ stops) zero e within after = rw (lt-ltb at stop after) (omega (arith, after))
within_stop at most (stop ∷ stops) (suc j) e within after =
    let rest = within_stop at most stops j e (omega arith) after in
    elim (nat_lt at stop) as (λ t. at + cond t (min (stop - at) (to_stop at most stops)) (to_stop at most stops) ≤ get_or stops j e) [
      | true ↦ omega (arith, rest)
      | false ↦ rest
    ]

begin_more : (samples : ℕ) (pattern stops : List ℕ) (k at : ℕ) (piece : Piece) (pieces : List Piece) → LieEndToEnd samples pattern stops (k + 1) (at + piece.length) pieces → piece.start ≡ at
    → (i : ℕ) (d : Piece) → i < length (piece ∷ pieces) → (get_or (piece ∷ pieces) i d).start ≡ at + samples_of (take i (piece ∷ pieces))
begin_more samples pattern stops k at piece pieces rest start zero d within = omega (arith, start)
begin_more samples pattern stops k at piece pieces rest start (suc i) d within = omega (arith, rest.begin i d (omega arith), samples_more piece (take i pieces))

filled_more : (samples : ℕ) (pattern stops : List ℕ) (k at : ℕ) (piece : Piece) (pieces : List Piece) → LieEndToEnd samples pattern stops (k + 1) (at + piece.length) pieces → 1 ≤ piece.length
    → (i : ℕ) (d : Piece) → i < length (piece ∷ pieces) → 1 ≤ (get_or (piece ∷ pieces) i d).length
filled_more samples pattern stops k at piece pieces rest some zero d within = some
filled_more samples pattern stops k at piece pieces rest some (suc i) d within = rest.filled i d (omega arith)

sized_more : (samples : ℕ) (pattern stops : List ℕ) (k at : ℕ) (piece : Piece) (pieces : List Piece) → LieEndToEnd samples pattern stops (k + 1) (at + piece.length) pieces → piece.length ≤ slice_index pattern (k % length pattern)
    → (i : ℕ) (d : Piece) → i < length (piece ∷ pieces) → (get_or (piece ∷ pieces) i d).length ≤ slice_index pattern ((k + i) % length pattern)
sized_more samples pattern stops k at piece pieces rest size zero d within = subst (λ n. piece.length ≤ slice_index pattern (n % length pattern)) (let e : k ≡ k + 0 = omega arith in e) size
sized_more samples pattern stops k at piece pieces rest size (suc i) d within =
    subst (λ n. (get_or pieces i d).length ≤ slice_index pattern (n % length pattern)) (let e : k + 1 + i ≡ k + suc i = omega arith in e) (rest.sized i d (omega arith))

uncrossed_more : (samples : ℕ) (pattern stops : List ℕ) (k at : ℕ) (piece : Piece) (pieces : List Piece) → LieEndToEnd samples pattern stops (k + 1) (at + piece.length) pieces
    → ((j e : ℕ) → j < length stops → ¬ IsCrossed (get_or stops j e) piece)
    → (i : ℕ) (d : Piece) (j e : ℕ) → i < length (piece ∷ pieces) → j < length stops → ¬ IsCrossed (get_or stops j e) (get_or (piece ∷ pieces) i d)
uncrossed_more samples pattern stops k at piece pieces rest none zero d j e within stop = none j e stop
uncrossed_more samples pattern stops k at piece pieces rest none (suc i) d j e within stop = rest.uncrossed i d j e (omega arith) stop

nothing_left : (samples : ℕ) (pattern stops : List ℕ) (k at : ℕ) → at ≡ samples → LieEndToEnd samples pattern stops k at []
nothing_left samples pattern stops k at e = record {
  begin = λ i d within. absurd (omega (arith, within));
  cover = omega (arith, e);
  filled = λ i d within. absurd (omega (arith, within));
  sized = λ i d within. absurd (omega (arith, within));
  uncrossed = λ i d j e within. absurd (omega (arith, within));
}

lie_from : (most samples : ℕ) (pattern stops : List ℕ) (k at : ℕ) → IsPattern pattern → at ≤ samples → samples - at ≤ most → LieEndToEnd samples pattern stops k at (pieces_from most samples pattern stops k at)
lie_from zero samples pattern stops k at sizes le few = nothing_left samples pattern stops k at (omega arith)
lie_from (suc most) samples pattern stops k at sizes le few =
    let here = piece_length samples pattern stops k at in
    let piece : Piece = record { start = at; length = here } in
    elim (nat_lt at samples) as (λ t. nat_lt at samples ≡ t → LieEndToEnd samples pattern stops k at (cond t (piece ∷ pieces_from most samples pattern stops (k + 1) (at + here)) [])) [
      | true ↦ λ test.
          let left = ltb-true at samples test in
          let some = some_samples samples pattern stops k at sizes left in
          let least = to_stop_most at (min (slice_index pattern (k % length pattern)) (samples - at)) stops in
          let rest = lie_from most samples pattern stops (k + 1) (at + here) sizes (omega (arith, least)) (omega (arith, some)) in
          record {
            begin = begin_more samples pattern stops k at piece (pieces_from most samples pattern stops (k + 1) (at + here)) rest refl;
            cover = omega (arith, rest.cover, samples_more piece (pieces_from most samples pattern stops (k + 1) (at + here)));
            filled = filled_more samples pattern stops k at piece (pieces_from most samples pattern stops (k + 1) (at + here)) rest some;
            sized = sized_more samples pattern stops k at piece (pieces_from most samples pattern stops (k + 1) (at + here)) rest (omega (arith, least));
            uncrossed = uncrossed_more samples pattern stops k at piece (pieces_from most samples pattern stops (k + 1) (at + here)) rest
                (λ j e within crossed. let end = within_stop at (min (slice_index pattern (k % length pattern)) (samples - at)) stops j e within crossed.0 in omega (arith, end, crossed.1));
          }
      | false ↦ λ test. nothing_left samples pattern stops k at (let done = ltb-false at samples test in omega (arith, done))
    ] refl

pub law_pieces_lie_end_to_end : PiecesLieEndToEnd
law_pieces_lie_end_to_end samples pattern stops sizes = lie_from samples samples pattern stops 0 0 sizes (omega arith) (omega arith)

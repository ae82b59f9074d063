-- Lengths of pieces, and what passed stops have to do with them.
use Rattle.std.proofs.Common.{◌≡◌, ℕ, zero, suc, ◌+◌, ◌-◌, ◌%◌, ◌<◌, ◌≤◌, min, true, false, cond, nat_lt, List, [], ◌∷◌, length, get_or, slice_index, slice_get, Some, None, ◌≢◌, refl, sym, ap, ◌∙◌, mod-lt, arith}
use Rattle.std.proofs.lemmas.Bool.{ltb-true, ltb-false, lt-ltb, le-ltb}
use Rattle.std.proofs.lemmas.List.Elements.{All-get_or}
use Rattle.std.specs.List.Sorted.{IsNonDecreasing}
use Rattle.vh_cut.specs.declared.piece.Piece.{Piece}
use Rattle.vh_cut.specs.Cut.{IsPattern, AreLater, to_stop, later_stops, piece_length, pieces_from}

passed : (at b most stop : ℕ) (stops : List ℕ) → at ≤ b → nat_lt at stop ≡ false → to_stop b most (stop ∷ stops) ≡ to_stop b most stops
passed at b most stop stops le test =
    let before = ltb-false at stop test in
    rw (le-ltb b stop (omega (arith, before))) refl

-- the stops that are passed at `at` have no part in what comes from b on
pub to_stop_later : (at b most : ℕ) (stops : List ℕ) → at ≤ b → to_stop b most (later_stops at stops) ≡ to_stop b most stops
to_stop_later at b most [] le = refl
to_stop_later at b most (stop ∷ stops) le =
    elim (nat_lt at stop) as (λ t. nat_lt at stop ≡ t → to_stop b most (cond t (stop ∷ stops) (later_stops at stops)) ≡ to_stop b most (stop ∷ stops)) [
      | true ↦ λ test. refl
      | false ↦ λ test. to_stop_later at b most stops le ∙ sym (passed at b most stop stops le test)
    ] refl

pub to_stop_most : (at most : ℕ) (stops : List ℕ) → to_stop at most stops ≤ most
to_stop_most at most [] = omega arith
to_stop_most at most (stop ∷ stops) =
    let rest = to_stop_most at most stops in
    elim (nat_lt at stop) as (λ t. cond t (min (stop - at) (to_stop at most stops)) (to_stop at most stops) ≤ most) [
      | true ↦ omega (arith, rest)
      | false ↦ rest
    ]

pub to_stop_some : (at most : ℕ) (stops : List ℕ) → 1 ≤ most → 1 ≤ to_stop at most stops
to_stop_some at most [] some = some
to_stop_some at most (stop ∷ stops) some =
    let rest = to_stop_some at most stops some in
    elim (nat_lt at stop) as (λ t. nat_lt at stop ≡ t → 1 ≤ cond t (min (stop - at) (to_stop at most stops)) (to_stop at most stops)) [
      | true ↦ λ test. let lt = ltb-true at stop test in omega (arith, rest, lt)
      | false ↦ λ test. rest
    ] refl

some_injective : (a b : ℕ) → Some a ≡ Some b → a ≡ b
some_injective a b e = cc

none_some : (a : ℕ) → None ≢ Some a
none_some a e = cc

-- of stops that don't fall, the first is the nearest
farther : (at most stop : ℕ) (stops : List ℕ) → ((i d : ℕ) → i < length stops → stop ≤ get_or stops i d) → min (stop - at) (to_stop at most stops) ≡ min (stop - at) most
farther at most stop [] from = refl
farther at most stop (next ∷ stops) from =
    let rest = farther at most stop stops (λ i d h. from (suc i) d (omega arith)) in
    let after = from 0 0 (omega arith) in
    elim (nat_lt at next) as (λ t. min (stop - at) (cond t (min (next - at) (to_stop at most stops)) (to_stop at most stops)) ≡ min (stop - at) most) [
      | true ↦ omega (arith, rest, after)
      | false ↦ rest
    ]

pub nearest_is_first : (at most stop : ℕ) (stops : List ℕ) → slice_get stops 0 ≡ Some stop → AreLater at stops → IsNonDecreasing stops → to_stop at most stops ≡ min most (stop - at)
nearest_is_first at most stop [] e later rising = absurd (none_some stop e)
nearest_is_first at most stop (first ∷ stops) e later rising =
    let same : first ≡ stop = some_injective first stop e in
    let nearest = farther at most first stops (λ i d h. rising 0 (suc i) d (omega arith) (omega arith)) in
    rw (lt-ltb at first later) (omega (arith, nearest, same))

-- a piece has a sample or more, and no more than are left
pub some_samples : (samples : ℕ) (pattern stops : List ℕ) (k at : ℕ) → IsPattern pattern → at < samples → 1 ≤ piece_length samples pattern stops k at
some_samples samples pattern stops k at sizes some =
    let within : k % length pattern < length pattern = mod-lt k sizes.some in
    let size = All-get_or (λ size. (1 ≤ size) × (size ≤ 8192)) pattern (k % length pattern) 0 within sizes.sizes in
    to_stop_some at (min (slice_index pattern (k % length pattern)) (samples - at)) stops (omega (arith, size.0))

-- any two bounds that the samples left keep to give the same pieces
pub same_pieces : (f g samples : ℕ) (pattern stops : List ℕ) (k at : ℕ) → IsPattern pattern → samples - at ≤ f → samples - at ≤ g → pieces_from f samples pattern stops k at ≡ pieces_from g samples pattern stops k at
same_pieces zero zero samples pattern stops k at sizes m n = refl
same_pieces zero (suc g) samples pattern stops k at sizes m n = rw (le-ltb at samples (omega arith)) refl
same_pieces (suc f) zero samples pattern stops k at sizes m n = rw (le-ltb at samples (omega arith)) refl
same_pieces (suc f) (suc g) samples pattern stops k at sizes m n =
    let here = piece_length samples pattern stops k at in
    elim (nat_lt at samples) as (λ t. nat_lt at samples ≡ t → cond t (record { start = at; length = here } ∷ pieces_from f samples pattern stops (k + 1) (at + here)) [] ≡ cond t (record { start = at; length = here } ∷ pieces_from g samples pattern stops (k + 1) (at + here)) []) [
      | true ↦ λ test.
          let some = some_samples samples pattern stops k at sizes (ltb-true at samples test) in
          ap (λ (pieces : List Piece). record { start = at; length = here } ∷ pieces) (same_pieces f g samples pattern stops (k + 1) (at + here) sizes (omega (arith, some)) (omega (arith, some)))
      | false ↦ λ test. refl
    ] refl

pub pieces_later : (most samples : ℕ) (pattern stops : List ℕ) (k at b : ℕ) → at ≤ b → pieces_from most samples pattern (later_stops at stops) k b ≡ pieces_from most samples pattern stops k b
pieces_later zero samples pattern stops k at b le = refl
pieces_later (suc most) samples pattern stops k at b le =
    let same = to_stop_later at b (min (slice_index pattern (k % length pattern)) (samples - b)) stops le in
    let here = piece_length samples pattern stops k b in
    rw same (ap (λ (pieces : List Piece). cond (nat_lt b samples) (record { start = b; length = here } ∷ pieces) []) (pieces_later most samples pattern stops (k + 1) at (b + here) (omega arith)))

-- the next piece, and those after it
pub first_piece : (samples : ℕ) (pattern stops : List ℕ) (k at n : ℕ) → IsPattern pattern → at < samples → n ≡ piece_length samples pattern (later_stops at stops) k at
    → pieces_from (samples - at) samples pattern stops k at ≡ record { start = at; length = n } ∷ pieces_from (samples - (at + n)) samples pattern (later_stops at stops) (k + 1) (at + n)
first_piece samples pattern stops k at n sizes some e =
    let here = piece_length samples pattern stops k at in
    let same : n ≡ here = e ∙ to_stop_later at at (min (slice_index pattern (k % length pattern)) (samples - at)) stops (omega arith) in
    let one = some_samples samples pattern stops k at sizes some in
    let turn : samples - at ≡ suc (samples - at - 1) = omega (arith, some) in
    ap (λ f. pieces_from f samples pattern stops k at) turn
    ∙ rw (lt-ltb at samples some) (rw same (ap (λ (pieces : List Piece). record { start = at; length = here } ∷ pieces)
    (same_pieces (samples - at - 1) (samples - (at + here)) samples pattern stops (k + 1) (at + here) sizes (omega (arith, one)) (omega arith)
    ∙ sym (pieces_later (samples - (at + here)) samples pattern stops (k + 1) at (at + here) (omega arith)))))

-- Stops where blocks begin anyway cut nothing.
use Rattle.std.proofs.Common.{◌≡◌, ◌∙◌, ◌⊎◌, inl, inr, ℕ, zero, suc, ◌+◌, ◌-◌, ◌%◌, ◌<◌, ◌≤◌, min, true, false, cond, nat_lt, List, [], ◌∷◌, length, slice_index, refl, sym, ap, arith}
use Rattle.std.specs.Prelude.{Contains, All}
use Rattle.std.specs.List.{AllByRecursion, cons_option}
use Rattle.std.proofs.lemmas.Bool.{ltb-true}
use Rattle.std.proofs.lemmas.List.Elements.{recursion_from_All, All-from_recursion}
use Rattle.vh_cut.specs.declared.piece.Piece.{Piece}
use Rattle.vh_cut.specs.Cut.{IsPattern, to_stop, piece_length, pieces_from}
use Rattle.vh_params.specs.declared.command.Command.{Command}
use Rattle.vh_params.specs.declared.command.Command.TheVariants.{Begin, Perform, End, Tell}
use Rattle.vh_journal.specs.declared.entry.Entry.{Entry}
use Rattle.vh_session.specs.Names.{content_of}
use Rattle.vh_session.proofs.Wired.{is_pattern}
use Rattle.vh_meaning.specs.Rendering.{message_sample, stops}
use Rattle.vh_legal.specs.Blocks.{starts_of, IsAtBlock}
use Rattle.vh_legal.specs.Laws.{StopsCutNothing, LegalIsCutAsPlayed}
use Rattle.vh_legal.proofs.Turns.{contains_cons}

starts_from : (most samples : ℕ) (pattern : List ℕ) (k at s : ℕ) → Contains (starts_of (pieces_from most samples pattern [] k at)) s → at ≤ s
starts_from zero samples pattern k at s has = absurd (omega (arith, has.1))
starts_from (suc most) samples pattern k at s has =
    let here = piece_length samples pattern [] k at in
    elim (nat_lt at samples) as (λ t. Contains (starts_of (cond t (record { start = at; length = here } ∷ pieces_from most samples pattern [] (k + 1) (at + here)) [])) s → at ≤ s) [
      | true ↦ λ found. elim (contains_cons at (starts_of (pieces_from most samples pattern [] (k + 1) (at + here))) s found) [
        | inl is ↦ omega (arith, is)
        | inr more ↦ let rest = starts_from most samples pattern (k + 1) (at + here) s more in omega (arith, rest)
      ]
      | false ↦ λ found. absurd (omega (arith, found.1))
    ] has

-- a stop that is passed, lies at the end or behind it, or where one of these pieces begins
abbrev IsAhead : ℕ → ℕ → List ℕ → ℕ → ℕ → ℕ → Type 0
IsAhead most samples pattern k at stop = (stop ≤ at) ⊎ ((samples ≤ stop) ⊎ Contains (starts_of (pieces_from most samples pattern [] k at)) stop)

-- no such stop ends the next piece before it would end
uncut : (at most : ℕ) (stops : List ℕ) → AllByRecursion (λ stop. (stop ≤ at) ⊎ (at + most ≤ stop)) stops → to_stop at most stops ≡ most
uncut at most [] ahead = refl
uncut at most (stop ∷ stops) ahead =
    let rest = uncut at most stops ahead.1 in
    elim (nat_lt at stop) as (λ t. nat_lt at stop ≡ t → cond t (min (stop - at) (to_stop at most stops)) (to_stop at most stops) ≡ most) [
      | true ↦ λ test. let later = ltb-true at stop test in elim ahead.0 [ inl passed ↦ absurd (omega (arith, passed, later)) | inr far ↦ omega (arith, rest, far, later) ]
      | false ↦ λ test. rest
    ] refl

far_enough : (most samples : ℕ) (pattern : List ℕ) (k at stop : ℕ) → at < samples → IsAhead (suc most) samples pattern k at stop → (stop ≤ at) ⊎ (at + piece_length samples pattern [] k at ≤ stop)
far_enough most samples pattern k at stop within ahead =
    let here = piece_length samples pattern [] k at in
    elim ahead [
      | inl passed ↦ inl passed
      | inr later ↦ elim later [
        | inl past ↦ inr (omega (arith, past, within))
        | inr has ↦ elim (nat_lt at samples) as (λ t. Contains (starts_of (cond t (record { start = at; length = here } ∷ pieces_from most samples pattern [] (k + 1) (at + here)) [])) stop → (stop ≤ at) ⊎ (at + here ≤ stop)) [
          | true ↦ λ found. elim (contains_cons at (starts_of (pieces_from most samples pattern [] (k + 1) (at + here))) stop found) [
            | inl is ↦ inl (omega (arith, is))
            | inr more ↦ inr (starts_from most samples pattern (k + 1) (at + here) stop more)
          ]
          | false ↦ λ found. absurd (omega (arith, found.1))
        ] has
      ]
    ]

still_ahead : (most samples : ℕ) (pattern : List ℕ) (k at stop : ℕ) → at < samples → IsAhead (suc most) samples pattern k at stop → IsAhead most samples pattern (k + 1) (at + piece_length samples pattern [] k at) stop
still_ahead most samples pattern k at stop within ahead =
    let here = piece_length samples pattern [] k at in
    elim ahead [
      | inl passed ↦ inl (omega (arith, passed))
      | inr later ↦ elim later [
        | inl past ↦ inr (inl past)
        | inr has ↦ elim (nat_lt at samples) as (λ t. Contains (starts_of (cond t (record { start = at; length = here } ∷ pieces_from most samples pattern [] (k + 1) (at + here)) [])) stop → IsAhead most samples pattern (k + 1) (at + here) stop) [
          | true ↦ λ found. elim (contains_cons at (starts_of (pieces_from most samples pattern [] (k + 1) (at + here))) stop found) [
            | inl is ↦ inl (omega (arith, is))
            | inr more ↦ inr (inr more)
          ]
          | false ↦ λ found. absurd (omega (arith, found.1))
        ] has
      ]
    ]

all_of : (P Q : ℕ → Type 0) → ((n : ℕ) → P n → Q n) → (ns : List ℕ) → AllByRecursion P ns → AllByRecursion Q ns
all_of P Q each [] all = tt
all_of P Q each (n ∷ ns) all = (each n all.0, all_of P Q each ns all.1)

cut_same : (most samples : ℕ) (pattern stops : List ℕ) (k at : ℕ) → AllByRecursion (IsAhead most samples pattern k at) stops → pieces_from most samples pattern stops k at ≡ pieces_from most samples pattern [] k at
cut_same zero samples pattern stops k at ahead = refl
cut_same (suc most) samples pattern stops k at ahead =
    let whole = piece_length samples pattern [] k at in
    let here = piece_length samples pattern stops k at in
    elim (nat_lt at samples) as (λ t. nat_lt at samples ≡ t → cond t (record { start = at; length = here } ∷ pieces_from most samples pattern stops (k + 1) (at + here)) [] ≡ cond t (record { start = at; length = whole } ∷ pieces_from most samples pattern [] (k + 1) (at + whole)) []) [
      | true ↦ λ test.
          let within = ltb-true at samples test in
          let same : here ≡ whole = uncut at whole stops (all_of (IsAhead (suc most) samples pattern k at) (λ stop. (stop ≤ at) ⊎ (at + whole ≤ stop)) (λ stop. far_enough most samples pattern k at stop within) stops ahead) in
          let rest = cut_same most samples pattern stops (k + 1) (at + whole) (all_of (IsAhead (suc most) samples pattern k at) (IsAhead most samples pattern (k + 1) (at + whole)) (λ stop. still_ahead most samples pattern k at stop within) stops ahead) in
          let piece : ℕ → Piece = λ n. record { start = at; length = n } in
          ap (λ n. piece n ∷ pieces_from most samples pattern stops (k + 1) (at + n)) same ∙ ap (λ (pieces : List Piece). piece whole ∷ pieces) rest
      | false ↦ λ test. refl
    ] refl

pub law_stops_cut_nothing : StopsCutNothing
law_stops_cut_nothing samples pattern stops are at =
    cut_same samples samples pattern stops 0 0
    (all_of (IsAtBlock samples pattern) (IsAhead samples samples pattern 0 0) (λ stop block. elim block [ inl same ↦ inr (inl (omega (arith, same))) | inr has ↦ inr (inr has) ]) stops
    (recursion_from_All (IsAtBlock samples pattern) stops at))

stop_more : (P : ℕ → Type 0) (sample : ℕ) (command : Command) (others : List ℕ) → P sample → AllByRecursion P others → AllByRecursion P (cons_option (message_sample sample command) others)
stop_more P sample (Begin node id) others here rest = rest
stop_more P sample (Perform node id value) others here rest = rest
stop_more P sample (End node id) others here rest = rest
stop_more P sample (Tell node words) others here rest = (here, rest)

stops_at : (P : ℕ → Type 0) (entries : List Entry) → AllByRecursion (λ entry. P entry.sample) entries → AllByRecursion P (stops entries)
stops_at P [] all = tt
stops_at P (entry ∷ entries) all = stop_more P entry.sample entry.command (stops entries) all.0 (stops_at P entries all.1)

pub law_legal_is_cut_as_played : LegalIsCutAsPlayed
law_legal_is_cut_as_played session entries legal =
    let pattern = (content_of session).pattern in
    let at = stops_at (IsAtBlock session.length pattern) entries (recursion_from_All (λ (entry : Entry). IsAtBlock session.length pattern entry.sample) entries legal.blocks) in
    law_stops_cut_nothing session.length pattern (stops entries) (is_pattern session) (All-from_recursion (IsAtBlock session.length pattern) (stops entries) at)

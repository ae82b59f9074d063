-- Gestures, one by one.
use Rattle.std.proofs.Common.{◌≡◌, ◌∙◌, ℕ, suc, ◌+◌, ◌-◌, ◌*◌, ◌≤◌, true, false, cond, List, [], ◌∷◌, ◌++◌, length, drop, replicate, refl, sym, ap, arith}
use Rattle.std.proofs.Props.{props}
use Rattle.std.proofs.lemmas.List.{length-append}
use Rattle.vh_journal.specs.declared.entry.Entry.{Entry}
use Rattle.vh_params.specs.declared.command.Command.TheVariants.{Tell}
use Rattle.vh_params.specs.declared.label.Words.{Words}
use Rattle.vh_gen.specs.Draws.{drawn_value}
use Rattle.vh_gen.specs.Gestures.{touched_node, touches_meter, one_zero, entry, edit_of, gesture_from, behind_gesture, gesture_state, entries_to}

abbrev made : (list : List ℕ) (len : ℕ) → len ≤ 4 → drop len list ≡ replicate (4 - len) 0 → Words
made list len within clear = record { list = list; len = len; within = within; clear = clear }

abbrev zeros : List ℕ
zeros = 0 ∷ 0 ∷ 0 ∷ 0 ∷ []

-- the message of one word, 0, however its length is known
pub one_zero_is : (within : 1 ≤ 4) (clear : drop 1 zeros ≡ replicate (4 - 1) 0) → made zeros 1 within clear ≡ one_zero
one_zero_is within clear =
    let within_prop : IsProp (1 ≤ 4) = hlevel props in
    let clear_prop : IsProp (drop 1 zeros ≡ replicate (4 - 1) 0) = hlevel props in
    λ i. made zeros 1 (within_prop within one_zero.within i) (clear_prop clear one_zero.clear i)

few_more : (kinds : List ℕ) (state gesture seq : ℕ) → length (gesture_from kinds state gesture seq) ≤ 3
few_more kinds state gesture seq =
    elim (touches_meter kinds state) as (λ b. length (cond b (entry gesture seq (Tell (touched_node kinds state) one_zero) ∷ []) (edit_of gesture seq (touched_node kinds state) (drawn_value state 1))) ≤ 3) [
      | true ↦ omega arith
      | false ↦ omega arith
    ]

module _ (kinds : List ℕ) (state n : ℕ) where
  pub entries_none : entries_to kinds state 0 ≡ []
  unfolding entries_to
  entries_none = refl

  pub state_first : gesture_state kinds state 0 ≡ state
  unfolding gesture_state
  state_first = refl

  entries_next : entries_to kinds state (suc n) ≡ entries_to kinds state n ++ gesture_from kinds (gesture_state kinds state n) n (length (entries_to kinds state n))
  unfolding entries_to
  entries_next = refl

  state_next : gesture_state kinds state (suc n) ≡ behind_gesture kinds (gesture_state kinds state n)
  unfolding gesture_state
  state_next = refl

  -- one gesture more
  pub entries_more : (before after : List Entry) (now : ℕ) → before ≡ entries_to kinds state n → now ≡ gesture_state kinds state n
      → after ≡ before ++ gesture_from kinds now n (length before) → after ≡ entries_to kinds state (n + 1)
  entries_more before after now were at is =
      let e : suc n ≡ n + 1 = omega arith in
      is ∙ ap (λ s. before ++ gesture_from kinds s n (length before)) at ∙ ap (λ l. l ++ gesture_from kinds (gesture_state kinds state n) n (length l)) were
      ∙ sym entries_next ∙ ap (entries_to kinds state) e

  pub state_more : (now later : ℕ) → now ≡ gesture_state kinds state n → later ≡ behind_gesture kinds now → later ≡ gesture_state kinds state (n + 1)
  state_more now later at is = let e : suc n ≡ n + 1 = omega arith in is ∙ ap (behind_gesture kinds) at ∙ sym state_next ∙ ap (gesture_state kinds state) e

pub few_entries : (kinds : List ℕ) (now n : ℕ) (before after : List Entry) → length before ≤ 3 * n → after ≡ before ++ gesture_from kinds now n (length before) → length after ≤ 3 * (n + 1)
few_entries kinds now n before after few is =
    let more = few_more kinds now n (length before) in
    let long = ap length is ∙ length-append before (gesture_from kinds now n (length before)) in
    omega (arith, more, long, few)

-- What comes back, and what waits to be told.
use Rattle.std.proofs.Common.{◌≡◌, ◌≢◌, ◌∙◌, ◌⊎◌, inl, inr, ℕ, zero, suc, ◌+◌, ◌<◌, ◌≤◌, Bool, true, false, not, ◌==◌, ◌&&◌, ◌||◌, cond, List, [], ◌∷◌, ◌++◌, length, map, filter, take, drop, get_or, set, refl, sym, ap, subst, arith}
use Rattle.std.specs.Prelude.{slice_index, slice_index_or}
use Rattle.std.specs.List.{range_with_len, flat_map}
use Rattle.std.proofs.lemmas.Bool.{eqb-true, eq-eqb, true≢false, not-false, cases_order}
use Rattle.std.proofs.lemmas.List.{take-append-drop, get_or-set_same, get_or-set_other, length-set}
use Rattle.std.proofs.lemmas.List.FromFn.{get_or-map-range_with_len}
use Rattle.vh_meaning.specs.Rendering.{Answer}
use Rattle.vh_core.specs.State.{Return, Echo, Reply}
use Rattle.vh_core.specs.Steps.{given, has_changed, is_due}

pub given_append : (one other : List Return) (controllers : List ℕ) → given (one ++ other) controllers ≡ given other (given one controllers)
given_append [] other controllers = refl
given_append (Echo place value ∷ one) other controllers = given_append one other (set controllers place value)
given_append (Reply answer ∷ one) other controllers = given_append one other controllers

pub given_long : (returns : List Return) (controllers : List ℕ) → length (given returns controllers) ≡ length controllers
given_long [] controllers = refl
given_long (Echo place value ∷ returns) controllers = given_long returns (set controllers place value) ∙ length-set controllers place value
given_long (Reply answer ∷ returns) controllers = given_long returns controllers

-- replies change no controller's values
given_replies : (answers : List Answer) (controllers : List ℕ) → given (map Reply answers) controllers ≡ controllers
given_replies [] controllers = refl
given_replies (answer ∷ answers) controllers = given_replies answers controllers

pub given_all_replies : (answers : ℕ → List Answer) (samples : List ℕ) (controllers : List ℕ) → given (flat_map (λ s. map Reply (answers s)) samples) controllers ≡ controllers
given_all_replies answers [] controllers = refl
given_all_replies answers (s ∷ samples) controllers =
    given_append (map Reply (answers s)) (flat_map (λ t. map Reply (answers t)) samples) controllers
    ∙ ap (given (flat_map (λ t. map Reply (answers t)) samples)) (given_replies (answers s) controllers)
    ∙ given_all_replies answers samples controllers

pub given_back : (count : ℕ) (returns : List Return) (controllers : List ℕ) → given (drop count returns) (given (take count returns) controllers) ≡ given returns controllers
given_back count returns controllers =
    sym (given_append (take count returns) (drop count returns) controllers) ∙ ap (λ (l : List Return). given l controllers) (take-append-drop count returns)

-- of each place that a test picks, the value that it is told
module _ (value : ℕ → ℕ) (picks : ℕ → Bool) where
  abbrev echo : ℕ → Return
  echo place = Echo place (value place)

  -- a place that isn't picked stays
  unpicked : (places : List ℕ) (controllers : List ℕ) (place : ℕ) → picks place ≡ false → get_or (given (map echo (filter picks places)) controllers) place 0 ≡ get_or controllers place 0
  unpicked [] controllers place none = refl
  unpicked (other ∷ places) controllers place none = elim (picks other) as (λ t. picks other ≡ t → get_or (given (map echo (cond t (other ∷ filter picks places) (filter picks places))) controllers) place 0 ≡ get_or controllers place 0) [
    | true ↦ λ is.
        let apart : place ≢ other = λ same. true≢false (sym is ∙ ap picks (sym same) ∙ none) in
        unpicked places (set controllers other (value other)) place none ∙ get_or-set_other controllers other place (value other) 0 apart
    | false ↦ λ is. unpicked places controllers place none
  ] refl

  -- a place that has its value keeps it
  kept : (places : List ℕ) (controllers : List ℕ) (place : ℕ) → place < length controllers → get_or controllers place 0 ≡ value place
      → get_or (given (map echo (filter picks places)) controllers) place 0 ≡ value place
  kept [] controllers place lt is = is
  kept (other ∷ places) controllers place lt is = elim (picks other) as (λ t. get_or (given (map echo (cond t (other ∷ filter picks places) (filter picks places))) controllers) place 0 ≡ value place) [
    | true ↦
        let long = length-set controllers other (value other) in
        kept places (set controllers other (value other)) place (omega (arith, long, lt)) (elim (place == other) as (λ t. (place == other) ≡ t → get_or (set controllers other (value other)) place 0 ≡ value place) [
          | true ↦ λ same.
              let at : place ≡ other = eqb-true place other same in
              subst (λ p. get_or (set controllers other (value other)) p 0 ≡ value p) (sym at) (get_or-set_same controllers other (value other) 0 (subst (λ p. p < length controllers) at lt))
          | false ↦ λ apart. get_or-set_other controllers other place (value other) 0 (λ same. true≢false (sym (eq-eqb place other same) ∙ apart)) ∙ is
        ] refl)
    | false ↦ kept places controllers place lt is
  ]

  -- a place that is picked has it
  picked : (from count : ℕ) (controllers : List ℕ) (place : ℕ) → place < length controllers → picks place ≡ true → from ≤ place → place < from + count
      → get_or (given (map echo (filter picks (range_with_len from count))) controllers) place 0 ≡ value place
  picked from zero controllers place lt is low high = absurd (omega (arith, low, high))
  picked from (suc count) controllers place lt is low high = elim (cases_order from place) [
    | inl same ↦
        let long = length-set controllers from (value from) in
        let here : picks from ≡ true = ap picks same ∙ is in
        let has : get_or (set controllers from (value from)) place 0 ≡ value place =
        subst (λ p. get_or (set controllers from (value from)) p 0 ≡ value p) same (get_or-set_same controllers from (value from) 0 (omega (arith, same, lt))) in
        ap (λ t. get_or (given (map echo (cond t (from ∷ filter picks (range_with_len (from + 1) count)) (filter picks (range_with_len (from + 1) count)))) controllers) place 0) here
        ∙ kept (range_with_len (from + 1) count) (set controllers from (value from)) place (omega (arith, long, lt)) has
    | inr apart ↦ elim apart [
      | inl below ↦ elim (picks from) as (λ t. get_or (given (map echo (cond t (from ∷ filter picks (range_with_len (from + 1) count)) (filter picks (range_with_len (from + 1) count)))) controllers) place 0 ≡ value place) [
        | true ↦
            let long = length-set controllers from (value from) in
            picked (from + 1) count (set controllers from (value from)) place (omega (arith, long, lt)) is (omega (arith, below)) (omega (arith, high))
        | false ↦ picked (from + 1) count controllers place lt is (omega (arith, below)) (omega (arith, high))
      ]
      | inr above ↦ absurd (omega (arith, above, low))
    ]
  ]

left_false : (a b : Bool) → (a || b) ≡ false → a ≡ false
left_false true b is = absurd (true≢false is)
left_false false b is = refl

right_true : (a b : Bool) → b ≡ true → (a || b) ≡ true
right_true true b is = refl
right_true false b is = is

-- Where each controller had what was seen before, or a change of it waits, each has what is seen now once it was told,
-- or its change waits.
pub told_or_waits : (tells : ℕ → Bool) (old new : List ℕ) (flags : List Bool) (returns : List Return) (controllers : List ℕ) (place : ℕ) → place < length new → length controllers ≡ length new
    → (get_or (given returns controllers) place 0 ≡ get_or old place 0) ⊎ (slice_index_or flags place false ≡ true)
    → (get_or (given (returns ++ map (λ p. Echo p (slice_index new p)) (filter (λ p. is_due old new flags p && tells p) (range_with_len 0 (length new)))) controllers) place 0 ≡ get_or new place 0)
    ⊎ (slice_index_or (map (λ p. is_due old new flags p && not (tells p)) (range_with_len 0 (length new))) place false ≡ true)
told_or_waits tells old new flags returns controllers place lt each before =
    let picks : ℕ → Bool = λ p. is_due old new flags p && tells p in
    let waits : ℕ → Bool = λ p. is_due old new flags p && not (tells p) in
    let echoes = map (λ p. Echo p (slice_index new p)) (filter picks (range_with_len 0 (length new))) in
    let here = given returns controllers in
    let long = given_long returns controllers in
    let joined : get_or (given (returns ++ echoes) controllers) place 0 ≡ get_or (given echoes here) place 0 = ap (λ l. get_or l place 0) (given_append returns echoes controllers) in
    let flag : slice_index_or (map waits (range_with_len 0 (length new))) place false ≡ waits place = get_or-map-range_with_len waits 0 (length new) place place false lt (omega arith) in
    elim (is_due old new flags place) as (λ t. is_due old new flags place ≡ t → (get_or (given (returns ++ echoes) controllers) place 0 ≡ get_or new place 0) ⊎ (slice_index_or (map waits (range_with_len 0 (length new))) place false ≡ true)) [
      | true ↦ λ due. elim (tells place) as (λ u. tells place ≡ u → (get_or (given (returns ++ echoes) controllers) place 0 ≡ get_or new place 0) ⊎ (slice_index_or (map waits (range_with_len 0 (length new))) place false ≡ true)) [
        | true ↦ λ told.
            let pick : picks place ≡ true = ap (λ b. b && tells place) due ∙ told in
            inl (joined ∙ picked (λ p. slice_index new p) picks 0 (length new) here place (omega (arith, long, each, lt)) pick (omega arith) (omega (arith, lt)))
        | false ↦ λ kept. inr (flag ∙ ap (λ b. b && not (tells place)) due ∙ ap not kept)
      ] refl
      | false ↦ λ still.
          let none : picks place ≡ false = ap (λ b. b && tells place) still in
          let same : get_or new place 0 ≡ get_or old place 0 = eqb-true (get_or new place 0) (get_or old place 0) (not-false (get_or new place 0 == get_or old place 0) (left_false (has_changed old new place) (slice_index_or flags place false) still)) in
          elim before [
            | inl was ↦ inl (joined ∙ unpicked (λ p. slice_index new p) picks (range_with_len 0 (length new)) here place none ∙ was ∙ sym same)
            | inr waited ↦ absurd (true≢false (sym (right_true (has_changed old new place) (slice_index_or flags place false) waited) ∙ still))
          ]
    ] refl

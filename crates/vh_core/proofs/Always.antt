-- Where each change is told at once.
use Rattle.std.proofs.Common.{◌≡◌, ◌∙◌, ℕ, zero, suc, ◌+◌, Bool, true, false, not, ◌&&◌, ◌||◌, cond, List, [], ◌∷◌, ◌++◌, length, map, filter, get_or, replicate, refl, ap}
use Rattle.std.specs.Prelude.{slice_index, slice_index_or}
use Rattle.std.specs.List.{range_with_len}
use Rattle.std.proofs.lemmas.Bool.{eq-eqb}
use Rattle.std.proofs.lemmas.List.Elements.{filter_agree}
use Rattle.vh_params.specs.declared.command.Word.{Word}
use Rattle.vh_num.specs.Frames.{Frame}
use Rattle.vh_journal.specs.declared.entry.Entry.{Entry}
use Rattle.vh_core.specs.declared.sent.Sent.{Sent}
use Rattle.vh_core.specs.State.{Setting, Return, Echo, State, seen}
use Rattle.vh_core.specs.Steps.{has_changed, is_due, tell, always}

none_set : (n place : ℕ) → get_or (replicate n false) place false ≡ false
none_set zero zero = refl
none_set zero (suc place) = refl
none_set (suc n) zero = refl
none_set (suc n) (suc place) = none_set n place

alone_due : (t : Bool) → ((t || false) && true) ≡ t
alone_due true = refl
alone_due false = refl

never : (t : Bool) → (t && not true) ≡ false
never true = refl
never false = refl

all_same : {A : Type 0} (f : ℕ → A) (x : A) → ((place : ℕ) → f place ≡ x) → (from count : ℕ) → map f (range_with_len from count) ≡ replicate count x
all_same f x each from zero = refl
all_same f x each from (suc count) = ap (λ y. y ∷ map f (range_with_len (from + 1) count)) (each from) ∙ ap (λ l. x ∷ l) (all_same f x each (from + 1) count)

-- a state is its parts
pub same_state : (a b : State) → a.puts ≡ b.puts → a.inbox ≡ b.inbox → a.journal ≡ b.journal → a.pos ≡ b.pos → a.frames ≡ b.frames → a.flushed ≡ b.flushed → a.returns ≡ b.returns → a.flags ≡ b.flags → a.controllers ≡ b.controllers
    → a ≡ b
same_state a b puts inbox journal pos frames flushed returns flags controllers =
    ap (λ (x : List (ℕ × Word)). record a { puts = x }) puts
    ∙ ap (λ (x : List Sent). record a { puts = b.puts; inbox = x }) inbox
    ∙ ap (λ (x : List Entry). record a { puts = b.puts; inbox = b.inbox; journal = x }) journal
    ∙ ap (λ (x : ℕ). record a { puts = b.puts; inbox = b.inbox; journal = b.journal; pos = x }) pos
    ∙ ap (λ (x : List Frame). record a { puts = b.puts; inbox = b.inbox; journal = b.journal; pos = b.pos; frames = x }) frames
    ∙ ap (λ (x : Bool). record a { puts = b.puts; inbox = b.inbox; journal = b.journal; pos = b.pos; frames = b.frames; flushed = x }) flushed
    ∙ ap (λ (x : List Return). record b { returns = x; flags = a.flags; controllers = a.controllers }) returns
    ∙ ap (λ (x : List Bool). record b { flags = x; controllers = a.controllers }) flags
    ∙ ap (λ (x : List ℕ). record b { controllers = x }) controllers

-- what is told, where no change waits
abbrev pub echoes : List ℕ → List ℕ → List Return
echoes old new = map (λ place. Echo place (slice_index new place)) (filter (has_changed old new) (range_with_len 0 (length new)))

-- no flag is set by it, nor was
pub tell_always : (setting : Setting) (old : List ℕ) (state : State) (n : ℕ) → state.flags ≡ replicate n false
    → tell setting always old state ≡ record state { returns = state.returns ++ echoes old (seen setting state); flags = replicate (length (seen setting state)) false }
tell_always setting old state n clear =
    let new = seen setting state in
    let places = range_with_len 0 (length new) in
    let echo : ℕ → Return = λ place. Echo place (slice_index new place) in
    let due : ℕ → Bool = λ place. is_due old new state.flags place && always place in
    let made : List Return → List Bool → State = λ returns flags. record state { returns = returns; flags = flags } in
    let unset : (place : ℕ) → slice_index_or state.flags place false ≡ false = λ place. ap (λ (l : List Bool). get_or l place false) clear ∙ none_set n place in
    let picks : (place : ℕ) → due place ≡ has_changed old new place =
    λ place. ap (λ t. (has_changed old new place || t) && true) (unset place) ∙ alone_due (has_changed old new place) in
    ap (λ l. made (state.returns ++ map echo l) (map (λ place. is_due old new state.flags place && not (always place)) places)) (filter_agree due (has_changed old new) picks places)
    ∙ ap (made (state.returns ++ echoes old new)) (all_same (λ place. is_due old new state.flags place && not (always place)) false (λ place. never (is_due old new state.flags place)) 0 (length new))

-- nothing is told where nothing changed
same_here : (old : List ℕ) (place : ℕ) → has_changed old old place ≡ false
same_here old place = ap not (eq-eqb (slice_index old place) (slice_index old place) refl)

unchanged : (old : List ℕ) (places : List ℕ) → filter (has_changed old old) places ≡ []
unchanged old [] = refl
unchanged old (place ∷ places) = ap (λ t. cond t (place ∷ filter (has_changed old old) places) (filter (has_changed old old) places)) (same_here old place) ∙ unchanged old places

pub no_echoes : (old new : List ℕ) → new ≡ old → echoes old new ≡ []
no_echoes old new same = ap (echoes old) same ∙ ap (map (λ place. Echo place (slice_index old place))) (unchanged old (range_with_len 0 (length old)))

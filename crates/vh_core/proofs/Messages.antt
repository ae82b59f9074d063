-- The messages of a sample, one entry more.
use Rattle.std.proofs.Common.{◌≡◌, ◌≢◌, ◌∙◌, ℕ, ◌+◌, ◌<◌, Bool, true, false, ◌==◌, cond, List, [], ◌∷◌, ◌++◌, length, filter, take, get_or, refl, sym, ap}
use Rattle.std.proofs.lemmas.List.{append_assoc, append-nil, take_more}
use Rattle.std.proofs.lemmas.List.Elements.{filter-append}
use Rattle.std.proofs.lemmas.Bool.{eq-eqb, ne_eqb}
use Rattle.vh_num.specs.Frames.{Frame}
use Rattle.vh_plugin.specs.Class.{State}
use Rattle.vh_params.specs.declared.command.Command.{Command}
use Rattle.vh_params.specs.declared.command.Command.TheVariants.{Begin, Perform, End, Tell}
use Rattle.vh_journal.specs.declared.entry.Entry.{Entry}
use Rattle.vh_meaning.specs.Scene.{Scene}
use Rattle.vh_meaning.specs.Values.{values_at}
use Rattle.vh_meaning.specs.World.{told_by, after_messages, world}
use Rattle.vh_meaning.specs.Rendering.{Answer, answers_by, answer_to, answers_from}

-- the states behind an entry
abbrev told_once : Scene → ℕ → List Entry → Entry → (ℕ → State) → ℕ → State
told_once scene s before entry states = cond (entry.sample == s) (told_by scene (values_at scene before s) entry.command states) states

messages_more : (scene : Scene) (s : ℕ) (before entries : List Entry) (entry : Entry) (states : ℕ → State)
    → after_messages scene s before (entries ++ entry ∷ []) states ≡ told_once scene s (before ++ entries) entry (after_messages scene s before entries states)
messages_more scene s before [] entry states = ap (λ (l : List Entry). told_once scene s l entry states) (sym (append-nil before))
messages_more scene s before (first ∷ entries) entry states =
    let next = told_once scene s before first states in
    messages_more scene s (before ++ first ∷ []) entries entry next
    ∙ ap (λ (l : List Entry). told_once scene s l entry (after_messages scene s (before ++ first ∷ []) entries next)) (append_assoc before (first ∷ []) entries)

pub messages_next : (scene : Scene) (s : ℕ) (entries : List Entry) (i : ℕ) (entry : Entry) (states : ℕ → State) → entry ≡ get_or entries i entry → i < length entries
    → after_messages scene s [] (take (i + 1) entries) states ≡ told_once scene s (take i entries) entry (after_messages scene s [] (take i entries) states)
messages_next scene s entries i entry states is within =
    ap (λ (l : List Entry). after_messages scene s [] l states) (take_more entries i entry within ∙ ap (λ (e : Entry). take i entries ++ e ∷ []) (sym is))
    ∙ messages_more scene s [] (take i entries) entry states

answers_more : (scene : Scene) (input : List Frame) (h before entries : List Entry) (entry : Entry)
    → answers_from scene input h before (entries ++ entry ∷ []) ≡ answers_from scene input h before entries ++ answer_to scene input h (before ++ entries) entry
answers_more scene input h before [] entry = append-nil (answer_to scene input h before entry) ∙ ap (λ (l : List Entry). answer_to scene input h l entry) (sym (append-nil before))
answers_more scene input h before (first ∷ entries) entry =
    let here = answer_to scene input h before first in
    ap (λ (l : List Answer). here ++ l) (answers_more scene input h (before ++ first ∷ []) entries entry
    ∙ ap (λ (l : List Entry). answers_from scene input h (before ++ first ∷ []) entries ++ answer_to scene input h l entry) (append_assoc before (first ∷ []) entries))
    ∙ sym (append_assoc here (answers_from scene input h (before ++ first ∷ []) entries) (answer_to scene input h (before ++ first ∷ entries) entry))

abbrev pub is_of : ℕ → Answer → Bool
is_of s answer = answer.sample == s

nothing : (t : Bool) → ◌≡◌ {A = List Answer} [] (cond t [] [])
nothing true = refl
nothing false = refl

-- an entry's answers are of its sample
own_answers : (scene : Scene) (states : ℕ → State) (values : ℕ → List ℕ) (sample s : ℕ) (command : Command) → filter (is_of s) (answers_by scene states values sample command) ≡ cond (sample == s) (answers_by scene states values sample command) []
own_answers scene states values sample s (Begin node id) = nothing (sample == s)
own_answers scene states values sample s (Perform node id value) = nothing (sample == s)
own_answers scene states values sample s (End node id) = nothing (sample == s)
own_answers scene states values sample s (Tell node words) = refl

-- the answers of a sample, among those to the entries so far
abbrev pub answered : Scene → List Frame → List Entry → ℕ → List Entry → List Answer
answered scene input h s entries = filter (is_of s) (answers_from scene input h [] entries)

pub answers_next : (scene : Scene) (input : List Frame) (h entries : List Entry) (s i : ℕ) (entry : Entry) → entry ≡ get_or entries i entry → i < length entries
    → answered scene input h s (take (i + 1) entries) ≡ answered scene input h s (take i entries) ++ cond (entry.sample == s) (answer_to scene input h (take i entries) entry) []
answers_next scene input h entries s i entry is within =
    let before = take i entries in
    ap (answered scene input h s) (take_more entries i entry within ∙ ap (λ (e : Entry). take i entries ++ e ∷ []) (sym is))
    ∙ ap (filter (is_of s)) (answers_more scene input h [] before entry)
    ∙ filter-append (is_of s) (answers_from scene input h [] before) (answer_to scene input h before entry)
    ∙ ap (λ (l : List Answer). answered scene input h s before ++ l)
    (own_answers scene (after_messages scene entry.sample [] before (world scene input h entry.sample)) (values_at scene before entry.sample) entry.sample s entry.command)

-- An entry of the sample is given behind those before it, and answered; and one of another sample is not.
module _ (scene : Scene) (h : List Entry) (s i : ℕ) (entry : Entry) (is : entry ≡ get_or h i entry) (within : i < length h) where
  pub given_next : (states : ℕ → State) → entry.sample ≡ s
      → after_messages scene s [] (take (i + 1) h) states ≡ told_by scene (values_at scene (take i h) s) entry.command (after_messages scene s [] (take i h) states)
  given_next states same =
      let before = after_messages scene s [] (take i h) states in
      messages_next scene s h i entry states is within ∙ ap (λ t. cond t (told_by scene (values_at scene (take i h) s) entry.command before) before) (eq-eqb entry.sample s same)

  pub passed_next : (states : ℕ → State) → entry.sample ≢ s → after_messages scene s [] (take (i + 1) h) states ≡ after_messages scene s [] (take i h) states
  passed_next states other =
      let before = after_messages scene s [] (take i h) states in
      messages_next scene s h i entry states is within ∙ ap (λ t. cond t (told_by scene (values_at scene (take i h) s) entry.command before) before) (ne_eqb entry.sample s other)

  pub answered_next : entry.sample ≡ s
      → answered scene [] h s (take (i + 1) h) ≡ answered scene [] h s (take i h) ++ answers_by scene (after_messages scene s [] (take i h) (world scene [] h s)) (values_at scene (take i h) s) s entry.command
  answered_next same =
      let before = take i h in
      let so_far = answered scene [] h s before in
      answers_next scene [] h h s i entry is within
      ∙ ap (λ t. so_far ++ cond t (answer_to scene [] h before entry) []) (eq-eqb entry.sample s same)
      ∙ ap (λ t. so_far ++ answers_by scene (after_messages scene t [] before (world scene [] h t)) (values_at scene before t) t entry.command) same

  pub unanswered_next : entry.sample ≢ s → answered scene [] h s (take (i + 1) h) ≡ answered scene [] h s (take i h)
  unanswered_next other =
      let so_far = answered scene [] h s (take i h) in
      answers_next scene [] h h s i entry is within
      ∙ ap (λ t. so_far ++ cond t (answer_to scene [] h (take i h) entry) []) (ne_eqb entry.sample s other)
      ∙ append-nil so_far

-- Each message has its answer.
use Rattle.std.proofs.Common.{◌≡◌, ◌∙◌, ℕ, List, [], ◌∷◌, ◌++◌, map, refl, ap}
use Rattle.std.specs.List.{cons_option}
use Rattle.std.proofs.lemmas.List.{map-append}
use Rattle.vh_params.specs.declared.command.Command.{Command}
use Rattle.vh_params.specs.declared.command.Command.TheVariants.{Begin, Perform, End, Tell}
use Rattle.vh_num.specs.Frames.{Frame}
use Rattle.vh_plugin.specs.Class.{State}
use Rattle.vh_journal.specs.declared.entry.Entry.{Entry}
use Rattle.vh_meaning.specs.Scene.{Scene}
use Rattle.vh_meaning.specs.Rendering.{Answer, answers_by, answer_to, answers_from, message_sample, stops}
use Rattle.vh_meaning.specs.Laws.{EachIsAnswered}

one_answered : (scene : Scene) (states : ℕ → State) (values : ℕ → List ℕ) (sample : ℕ) (command : Command) (later : List ℕ)
    → map (λ (answer : Answer). answer.sample) (answers_by scene states values sample command) ++ later ≡ cons_option (message_sample sample command) later
one_answered scene states values sample (Begin node id) later = refl
one_answered scene states values sample (Perform node id value) later = refl
one_answered scene states values sample (End node id) later = refl
one_answered scene states values sample (Tell node words) later = refl

all_answered : (scene : Scene) (input : List Frame) (h before later : List Entry) → map (λ (answer : Answer). answer.sample) (answers_from scene input h before later) ≡ stops later
all_answered scene input h before [] = refl
all_answered scene input h before (entry ∷ later) =
    map-append (λ (answer : Answer). answer.sample) (answer_to scene input h before entry) (answers_from scene input h (before ++ entry ∷ []) later)
    ∙ ap (λ (l : List ℕ). map (λ (answer : Answer). answer.sample) (answer_to scene input h before entry) ++ l) (all_answered scene input h (before ++ entry ∷ []) later)
    ∙ one_answered scene _ _ entry.sample entry.command (stops later)

pub law_each_is_answered : EachIsAnswered
law_each_is_answered scene input h = all_answered scene input h [] h

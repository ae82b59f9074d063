-- Each reply is a node's.
use Rattle.std.proofs.Common.{◌≡◌, ℕ, ◌<◌, List, [], ◌∷◌, ◌++◌, map, get_or, sym, subst, arith}
use Rattle.std.specs.Prelude.{All}
use Rattle.std.proofs.lemmas.List.{get_or-map, length-map}
use Rattle.std.proofs.lemmas.List.Elements.{All-nil, All-append, All-tail}
use Rattle.vh_num.specs.Frames.{Frame}
use Rattle.vh_journal.specs.declared.entry.Entry.{Entry}
use Rattle.vh_params.specs.declared.command.Command.{Command}
use Rattle.vh_params.specs.declared.command.Command.TheVariants.{Begin, Perform, End, Tell}
use Rattle.vh_params.specs.declared.command.Reply.{Reply}
use Rattle.vh_plugin.specs.Class.{State}
use Rattle.vh_meaning.specs.Scene.{Scene, node_count}
use Rattle.vh_meaning.specs.Rendering.{Answer, answers_by, answer_to, answers_from, answers}
use Rattle.vh_engine.specs.Kept.{IsFor}
use Rattle.vh_answers.specs.Report.{answer_of}

one : (n : ℕ) (answer : Answer) → answer.node < n → All (λ (a : Answer). a.node < n) (answer ∷ [])
one n answer lt = λ k d within. let z : k ≡ 0 = omega (arith, within) in subst (λ j. (get_or (answer ∷ []) j d).node < n) (sym z) lt

answered : (scene : Scene) (states : ℕ → State) (values : ℕ → List ℕ) (sample : ℕ) (command : Command) → IsFor scene command → All (λ (a : Answer). a.node < node_count scene) (answers_by scene states values sample command)
answered scene states values sample (Begin node id) is = All-nil (λ (a : Answer). a.node < node_count scene)
answered scene states values sample (Perform node id value) is = All-nil (λ (a : Answer). a.node < node_count scene)
answered scene states values sample (End node id) is = All-nil (λ (a : Answer). a.node < node_count scene)
answered scene states values sample (Tell node words) is = one (node_count scene) _ is

from_there : (scene : Scene) (input : List Frame) (h before later : List Entry) → All (λ (e : Entry). IsFor scene e.command) later → All (λ (a : Answer). a.node < node_count scene) (answers_from scene input h before later)
from_there scene input h before [] are = All-nil (λ (a : Answer). a.node < node_count scene)
from_there scene input h before (entry ∷ later) are =
    All-append (λ (a : Answer). a.node < node_count scene) (answer_to scene input h before entry) (answers_from scene input h (before ++ entry ∷ []) later)
    (answered scene _ _ entry.sample entry.command (are 0 entry (omega arith)))
    (from_there scene input h (before ++ entry ∷ []) later (All-tail (λ (e : Entry). IsFor scene e.command) entry later are))

-- the answers under entries are those of nodes that are there
pub answers_there : (scene : Scene) (input : List Frame) (h : List Entry) → All (λ (e : Entry). IsFor scene e.command) h → All (λ (a : Answer). a.node < node_count scene) (answers scene input h)
answers_there scene input h are = from_there scene input h [] h are

-- and so are replies that are these answers
pub replies_there : (n : ℕ) (replies : List Reply) (given : List Answer) → map answer_of replies ≡ given → All (λ (a : Answer). a.node < n) given → All (λ (r : Reply). r.node < n) replies
replies_there n replies given same are = λ k d lt.
    let long = length-map replies answer_of in
    let all : All (λ (a : Answer). a.node < n) (map answer_of replies) = subst (λ as_. All (λ (a : Answer). a.node < n) as_) (sym same) are in
    let here : get_or (map answer_of replies) k (answer_of d) ≡ answer_of (get_or replies k d) = get_or-map answer_of replies k d (answer_of d) lt in
    subst (λ (a : Answer). a.node < n) here (all k (answer_of d) (omega (arith, lt, long)))

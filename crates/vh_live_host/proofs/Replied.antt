-- Each reply is a node's that is there.
use Rattle.std.proofs.Common.{◌≡◌, ℕ, suc, ◌<◌, ◌≤◌, List, [], ◌∷◌, ◌++◌, length, take, get_or, sym, subst, arith}
use Rattle.std.specs.Prelude.{All}
use Rattle.std.proofs.lemmas.List.{length-map, length-take-le}
use Rattle.std.proofs.lemmas.List.Elements.{All-nil, All-append, All-head, All-tail}
use Rattle.vh_num.specs.Frames.{Frame}
use Rattle.vh_journal.specs.declared.entry.Entry.{Entry}
use Rattle.vh_journal_text.specs.Items.{Item, node_of, item_of, items_of}
use Rattle.vh_journal_text.specs.Keeps.{AreEntries, AreThere}
use Rattle.vh_params.specs.declared.command.Command.{Command}
use Rattle.vh_params.specs.declared.command.Command.TheVariants.{Begin, Perform, End, Tell}
use Rattle.vh_params.specs.Nodes.{Node}
use Rattle.vh_plugin.specs.Class.{State}
use Rattle.vh_meaning.specs.Scene.{Scene}
use Rattle.vh_meaning.specs.Rendering.{Answer, answers_by, answer_to, answers_from, answers}

abbrev IsWithin : ℕ → Answer → Type 0
IsWithin count answer = answer.node < count

one : (count : ℕ) (answer : Answer) → answer.node < count → All (IsWithin count) (answer ∷ [])
one count answer lt = λ k d within. let z : k ≡ 0 = omega (arith, within) in subst (λ j. (get_or (answer ∷ []) j d).node < count) (sym z) lt

answered : (scene : Scene) (states : ℕ → State) (values : ℕ → List ℕ) (sample count : ℕ) (command : Command) → node_of command < count → All (IsWithin count) (answers_by scene states values sample command)
answered scene states values sample count (Begin node id) is = All-nil (IsWithin count)
answered scene states values sample count (Perform node id value) is = All-nil (IsWithin count)
answered scene states values sample count (End node id) is = All-nil (IsWithin count)
answered scene states values sample count (Tell node words) is = one count _ is

from_there : (scene : Scene) (input : List Frame) (count : ℕ) (h before later : List Entry) → All (λ (e : Entry). node_of e.command < count) later → All (IsWithin count) (answers_from scene input h before later)
from_there scene input count h before [] are = All-nil (IsWithin count)
from_there scene input count h before (entry ∷ later) are =
    All-append (IsWithin count) (answer_to scene input h before entry) (answers_from scene input h (before ++ entry ∷ []) later)
    (answered scene _ _ entry.sample count entry.command (All-head (λ (e : Entry). node_of e.command < count) entry later are))
    (from_there scene input count h (before ++ entry ∷ []) later (All-tail (λ (e : Entry). node_of e.command < count) entry later are))

-- the answers under entries are those of nodes that are there
pub answers_there : (scene : Scene) (input : List Frame) (nodes : List Node) (h : List Entry) → AreThere nodes h → All (λ (a : Answer). a.node < length nodes) (answers scene input h)
answers_there scene input nodes h are = from_there scene input (length nodes) h [] h are

-- a journal's entries are few
pub few_entries : (nodes : List Node) (most : ℕ) (entries : List Entry) → AreEntries nodes most (items_of entries) → length entries ≤ 4096
few_entries nodes most [] are = omega arith
few_entries nodes most (entry ∷ later) are =
    let items : List Item = items_of (entry ∷ later) in
    let long : length items ≡ suc (length later) = length-map (entry ∷ later) item_of in
    let few = (are (length later) (item_of entry) (omega (arith, long))).few in
    let size : length (take (length later) items) ≡ length later = length-take-le (length later) items (omega (arith, long)) in
    omega (arith, few, size)

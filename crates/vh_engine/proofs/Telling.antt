-- Entries are applied to what is kept.
use Rattle.std.proofs.Common.{◌≡◌, ◌∙◌, inl, inr, ℕ, ◌+◌, ◌<◌, ◌≤◌, Bool, cond, List, [], ◌∷◌, ◌++◌, length, get_or, set, take, drop, refl, sym, ap, subst, arith, length-append, take-append-drop}
use Rattle.std.specs.Prelude.{All, ◌==◌}
use Rattle.std.proofs.lemmas.Bool.{cases_eq, eq-eqb, ne_eqb}
use Rattle.std.proofs.lemmas.List.{take_more, get_or-set_same, get_or-set_other}
use Rattle.std.proofs.lemmas.List.Elements.{All-nil, All-push, filter_map-append}
use Rattle.vh_lane.specs.declared.lane.Lane.{Lane}
use Rattle.vh_params.specs.declared.command.Command.{Command}
use Rattle.vh_params.specs.declared.command.Command.TheVariants.{Begin, Perform, End, Tell}
use Rattle.vh_params.specs.declared.label.Words.{Words}
use Rattle.vh_params.specs.Short.{words_in}
use Rattle.vh_plugin.specs.Class.{Class, State}
use Rattle.vh_journal.specs.declared.entry.Entry.{Entry}
use Rattle.vh_meaning.specs.Scene.{Scene, node_count, class_at, params_at}
use Rattle.vh_meaning.specs.Stands.{Touch, Standing}
use Rattle.vh_meaning.specs.Steps.{touches_with, values_now, values_in, applied_one, applied}
use Rattle.vh_meaning.specs.World.{told_at, told_by}
use Rattle.vh_meaning.specs.Rendering.{Answer, answers_by, message_sample, stops}
use Rattle.vh_engine.specs.declared.control.Control.{Control}
use Rattle.vh_engine.specs.Staged.{board_at, standing_of, AreSame}
use Rattle.vh_engine.specs.Told.{values_now_of, HaveTaken, IsOnNode, IsStage}
use Rattle.vh_engine.proofs.Boards.{values_of_board}
use Rattle.vh_engine.proofs.Heads.{IsEdit, applied_append, states_of_edits, answers_of_edits}
use Rattle.vh_engine.proofs.Takes.{touches_left}

-- an edit: it is taken, no state changes, and nothing is answered
pub edit_applied : (class_of : ℕ → Class) (codes : List ℕ) (scene : Scene) (lanes : List (ℕ × ℕ × Lane)) (s : ℕ) (entry : Entry) (states : List State) (old new : List (List Control)) (answers : List Answer) → IsEdit entry
    → HaveTaken lanes (entry ∷ []) old new → IsStage class_of codes scene lanes old → AreSame scene (applied_one scene s entry (standing_of states old answers)) (standing_of states new answers)
edit_applied class_of codes scene lanes s entry states old new answers edit taken stage =
    let edits : All IsEdit (entry ∷ []) = All-push IsEdit [] entry (All-nil IsEdit) edit in
    record {
      states = λ node within. ap (λ (x : ℕ → State). x node) (states_of_edits scene s (entry ∷ []) (standing_of states old answers) edits);
      touches = touches_left class_of codes scene lanes (entry ∷ []) old new taken stage;
      answers = answers_of_edits scene s (entry ∷ []) (standing_of states old answers) edits;
    }

-- what a message does to the node that it is given to
pub record IsTold (class : Class) (values words : List ℕ) (old new : State) (reply : List ℕ) : Type 0 where
  pub state : new ≡ class.told old values words
  pub reply_is : reply ≡ class.reply old values words

abbrev pub answer_at : ℕ → ℕ → List ℕ → Answer
answer_at node sample reply = record { node = node; sample = sample; words = reply }

-- a message: its node is told, and answers
pub message_applied : (class_of : ℕ → Class) (codes : List ℕ) (scene : Scene) (lanes : List (ℕ × ℕ × Lane)) (s : ℕ) (entry : Entry) (states : List State) (boards : List (List Control)) (answers : List Answer)
    (node : ℕ) (words : Words) (new : State) (reply : List ℕ) → entry.command ≡ Tell node words → node < length codes → length states ≡ length codes
    → HaveTaken lanes (entry ∷ []) boards boards → IsStage class_of codes scene lanes boards
    → IsTold (class_of (get_or codes node 0)) (values_now_of lanes (board_at boards node) s) (words_in words) (get_or states node []) new reply
    → AreSame scene (applied_one scene s entry (standing_of states boards answers)) (standing_of (set states node new) boards (answers ++ answer_at node s reply ∷ []))
message_applied class_of codes scene lanes s entry states boards answers node words new reply is within long taken stage told =
    let standing : Standing = standing_of states boards answers in
    let among : node < node_count scene = subst (λ (l : List ℕ). node < length l) (sym stage.codes_are) within in
    let class : class_at scene node ≡ class_of (get_or codes node 0) = ap (λ (l : List ℕ). scene.class_of (get_or l node 0)) stage.codes_are ∙ ap (λ (c : ℕ → Class). c (get_or codes node 0)) stage.classes in
    let board = stage.boards_are.each node among in
    let values : values_in scene standing s node ≡ values_now_of lanes (board_at boards node) s = values_of_board scene lanes node s (params_at scene node) (board_at boards node) board.of board.lines in
    let after : (class_at scene node).told (get_or states node []) (values_in scene standing s node) (words_in words) ≡ new =
    ap (λ (c : Class). c.told (get_or states node []) (values_in scene standing s node) (words_in words)) class
    ∙ ap (λ (v : List ℕ). (class_of (get_or codes node 0)).told (get_or states node []) v (words_in words)) values
    ∙ sym told.state in
    let says : (class_at scene node).reply (get_or states node []) (values_in scene standing s node) (words_in words) ≡ reply =
    ap (λ (c : Class). c.reply (get_or states node []) (values_in scene standing s node) (words_in words)) class
    ∙ ap (λ (v : List ℕ). (class_of (get_or codes node 0)).reply (get_or states node []) v (words_in words)) values
    ∙ sym told.reply_is in
    record {
      states = λ other inside.
          ap (λ (command : Command). told_by scene (values_in scene standing s) command standing.states other) is
          ∙ (elim (cases_eq other node) [
            | inl same ↦
                ap (λ (m : ℕ). told_at scene (values_in scene standing s) node (words_in words) standing.states m) same
                ∙ ap (λ (b : Bool). cond b ((class_at scene node).told (get_or states node []) (values_in scene standing s node) (words_in words)) (get_or states node [])) (eq-eqb node node refl)
                ∙ after
                ∙ sym (get_or-set_same states node new [] (omega (arith, long, within)))
                ∙ ap (λ (m : ℕ). get_or (set states node new) m []) (sym same)
            | inr apart ↦
                ap (λ (b : Bool). cond b ((class_at scene other).told (get_or states other []) (values_in scene standing s other) (words_in words)) (get_or states other [])) (ne_eqb other node apart)
                ∙ sym (get_or-set_other states node other new [] apart)
          ]);
      touches = touches_left class_of codes scene lanes (entry ∷ []) boards boards taken stage;
      answers =
          ap (λ (command : Command). answers ++ answers_by scene standing.states (values_in scene standing s) s command) is
          ∙ ap (λ (r : List ℕ). answers ++ answer_at node s r ∷ []) says;
    }

-- what is the same stays the same where an entry is applied
told_alike : (scene : Scene) (values others : ℕ → List ℕ) (command : Command) (states other_states : ℕ → State) (node : ℕ) → values node ≡ others node → states node ≡ other_states node → told_by scene values command states node ≡ told_by scene others command other_states node
told_alike scene values others (Begin n id) states other_states node alike same = same
told_alike scene values others (Perform n id value) states other_states node alike same = same
told_alike scene values others (End n id) states other_states node alike same = same
told_alike scene values others (Tell n words) states other_states node alike same =
    ap (λ (x : State). cond (node == n) ((class_at scene node).told x (values node) (words_in words)) x) same
    ∙ ap (λ (v : List ℕ). cond (node == n) ((class_at scene node).told (other_states node) v (words_in words)) (other_states node)) alike

answers_alike : (scene : Scene) (states other_states : ℕ → State) (values others : ℕ → List ℕ) (s : ℕ) (command : Command) → IsOnNode (node_count scene) command
    → ((node : ℕ) → node < node_count scene → states node ≡ other_states node) → ((node : ℕ) → node < node_count scene → values node ≡ others node)
    → answers_by scene states values s command ≡ answers_by scene other_states others s command
answers_alike scene states other_states values others s (Begin n id) on same alike = refl
answers_alike scene states other_states values others s (Perform n id value) on same alike = refl
answers_alike scene states other_states values others s (End n id) on same alike = refl
answers_alike scene states other_states values others s (Tell n words) on same alike =
    ap (λ (x : State). answer_at n s ((class_at scene n).reply x (values n) (words_in words)) ∷ []) (same n on)
    ∙ ap (λ (v : List ℕ). answer_at n s ((class_at scene n).reply (other_states n) v (words_in words)) ∷ []) (alike n on)

one_alike : (scene : Scene) (s : ℕ) (entry : Entry) (one other : Standing) → IsOnNode (node_count scene) entry.command → AreSame scene one other → AreSame scene (applied_one scene s entry one) (applied_one scene s entry other)
one_alike scene s entry one other on same =
    let values : (node : ℕ) → node < node_count scene → values_in scene one s node ≡ values_in scene other s node = λ node within. ap (λ (l : List Touch). values_now scene node (params_at scene node) l s) (same.touches node within) in
    record {
      states = λ node within. told_alike scene (values_in scene one s) (values_in scene other s) entry.command one.states other.states node (values node within) (same.states node within);
      touches = λ node within. ap (touches_with scene entry node (params_at scene node)) (same.touches node within);
      answers =
          ap (λ (l : List Answer). l ++ answers_by scene one.states (values_in scene one s) s entry.command) same.answers
          ∙ ap (λ (l : List Answer). other.answers ++ l) (answers_alike scene one.states other.states (values_in scene one s) (values_in scene other s) s entry.command on same.states values);
    }

pub same_as_itself : (scene : Scene) (one : Standing) → AreSame scene one one
same_as_itself scene one = record { states = λ node within. refl; touches = λ node within. refl; answers = refl }

same_both : (scene : Scene) (one other third : Standing) → AreSame scene one other → AreSame scene other third → AreSame scene one third
same_both scene one other third first second = record {
  states = λ node within. first.states node within ∙ second.states node within;
  touches = λ node within. first.touches node within ∙ second.touches node within;
  answers = first.answers ∙ second.answers;
}

-- one entry more is applied
pub one_more_applied : (scene : Scene) (s : ℕ) (entries : List Entry) (i : ℕ) (entry : Entry) (from now next : Standing) → i < length entries → entry ≡ get_or entries i entry → IsOnNode (node_count scene) entry.command
    → AreSame scene (applied scene s (take i entries) from) now → AreSame scene (applied_one scene s entry now) next → AreSame scene (applied scene s (take (i + 1) entries) from) next
one_more_applied scene s entries i entry from now next within is on before after =
    let more : take (i + 1) entries ≡ take i entries ++ entry ∷ [] = take_more entries i entry within ∙ ap (λ (e : Entry). take i entries ++ e ∷ []) (sym is) in
    let whole : applied scene s (take (i + 1) entries) from ≡ applied_one scene s entry (applied scene s (take i entries) from) = ap (λ (l : List Entry). applied scene s l from) more ∙ applied_append scene s (take i entries) (entry ∷ []) from in
    subst (λ (x : Standing). AreSame scene x next) (sym whole) (same_both scene _ _ _ (one_alike scene s entry (applied scene s (take i entries) from) now on before) after)

-- the messages so far
pub stops_more : (entries : List Entry) (i : ℕ) (entry : Entry) → i < length entries → entry ≡ get_or entries i entry → length (stops (take (i + 1) entries)) ≡ length (stops (take i entries)) + length (stops (entry ∷ []))
stops_more entries i entry within is =
    ap (λ (l : List Entry). length (stops l)) (take_more entries i entry within ∙ ap (λ (e : Entry). take i entries ++ e ∷ []) (sym is))
    ∙ ap (λ (l : List ℕ). length l) (filter_map-append (λ (e : Entry). message_sample e.sample e.command) (take i entries) (entry ∷ []))
    ∙ length-append (stops (take i entries)) (stops (entry ∷ []))

pub stops_least : (entries : List Entry) (i : ℕ) → length (stops (take i entries)) ≤ length (stops entries)
stops_least entries i =
    let whole : length (stops entries) ≡ length (stops (take i entries)) + length (stops (drop i entries)) =
    ap (λ (l : List Entry). length (stops l)) (sym (take-append-drop i entries))
    ∙ ap (λ (l : List ℕ). length l) (filter_map-append (λ (e : Entry). message_sample e.sample e.command) (take i entries) (drop i entries))
    ∙ length-append (stops (take i entries)) (stops (drop i entries)) in
    omega (arith, whole)

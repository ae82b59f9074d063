-- What the entries at a block's first sample leave of an engine.
use Rattle.std.proofs.Common.{◌≡◌, ◌∙◌, ℕ, suc, ◌+◌, ◌<◌, ◌≤◌, true, List, [], ◌∷◌, length, get_or, map, Option, None, refl, sym, ap, subst, arith, Vec, vec_len, vec_capacity}
use Rattle.std.specs.Prelude.{All, sum_by}
use Rattle.std.specs.declared.alloc.Global.{Global}
use Rattle.std.proofs.Math.ListN.{get_or-map}
use mathlib.Core.Path.{fun_ext}
use Rattle.std.proofs.lemmas.List.Elements.{All-head, All-tail, All-weaker}
use Rattle.std.proofs.lemmas.List.Sums.{sum_by-cons}
use Rattle.vh_component.specs.declared.setup.Phase.{Phase}
use Rattle.vh_component.specs.declared.setup.Phase.TheVariants.{Processing as AtProcessing}
use Rattle.vh_component.specs.declared.setup.Setup.{Setup}
use Rattle.vh_component.specs.declared.states.Processing.{Processing}
use Rattle.vh_lane.specs.declared.lane.Lane.{Lane}
use Rattle.vh_params.specs.declared.command.Command.{Command}
use Rattle.vh_params.specs.declared.command.Command.TheVariants.{Begin, Perform, End, Tell}
use Rattle.vh_params.specs.declared.command.Reply.{Reply}
use Rattle.vh_plugin.specs.Class.{Class, State, IsLawful}
use Rattle.vh_session.specs.Names.{content_of}
use Rattle.vh_journal.specs.declared.entry.Entry.{Entry}
use Rattle.vh_meaning.specs.Scene.{Scene, scene_of, node_count}
use Rattle.vh_meaning.specs.Edits.{Edit, edit_in}
use Rattle.vh_meaning.specs.Rendering.{Answer}
use Rattle.vh_meaning.specs.Stands.{Touch, Standing}
use Rattle.vh_meaning.specs.Steps.{touched_by, applied}
use Rattle.vh_engine.specs.declared.control.Control.{Control}
use Rattle.vh_engine.specs.declared.parts.Parts.{Parts}
use Rattle.vh_engine.specs.declared.seat.Seat.{Seat}
use Rattle.vh_engine.specs.declared.work.Work.{Work}
use Rattle.vh_engine.specs.Between.{AreElsewhere}
use Rattle.vh_engine.specs.Buses.{IsSource}
use Rattle.vh_engine.specs.Controls.{touch_of, line_of, touch_through, IsControl}
use Rattle.vh_engine.specs.Engine.{IsStill, IsNode, IsGraph, IsReadyFor}
use Rattle.vh_engine.specs.Kept.{IsFor}
use Rattle.vh_engine.specs.Parts.{scene_by}
use Rattle.vh_engine.specs.Staged.{of_all, boards_of, board_at, standing_of, AreSame}
use Rattle.vh_engine.specs.Told.{AreTaken, HaveTaken, IsOnNode, AreReady, IsStage}
use Rattle.vh_engine.proofs.Elsewhere.{shown_elsewhere}
use Rattle.vh_engine.proofs.Here.{node_here}
use Rattle.vh_engine.proofs.Takes.{of_taken, sent_taken, long_of_all}

on_node : (scene : Scene) (command : Command) → IsFor scene command → IsOnNode (node_count scene) command
on_node scene (Begin n i) is = is.0
on_node scene (Perform n i v) is = is.0
on_node scene (End n i) is = is.0
on_node scene (Tell n words) is = is

-- entries are on nodes of their scene
pub all_on_nodes : (scene : Scene) (count : ℕ) (entries : List Entry) → node_count scene ≡ count → All (λ entry. IsFor scene entry.command) entries → All (λ entry. IsOnNode count entry.command) entries
all_on_nodes scene count entries same are =
    All-weaker (λ (e : Entry). IsFor scene e.command) (λ (e : Entry). IsOnNode count e.command) (λ e is. subst (λ (n : ℕ). IsOnNode n e.command) same (on_node scene e.command is)) entries are

-- a parameter that no entry is on stays as it is
touch_elsewhere : (line : Option (ℕ → ℕ)) (steps node id : ℕ) (entries : List Entry) (touch : Touch) → AreElsewhere node id entries → touch_through line steps node id entries touch ≡ touch
touch_elsewhere line steps node id [] touch elsewhere = refl
touch_elsewhere line steps node id (entry ∷ entries) touch elsewhere =
    ap (λ (edit : Option Edit). touch_through line steps node id entries (touched_by line steps edit touch)) (All-head (λ (x : Entry). edit_in node id x ≡ None) entry entries elsewhere)
    ∙ touch_elsewhere line steps node id entries touch (All-tail (λ (x : Entry). edit_in node id x ≡ None) entry entries elsewhere)

-- a node's read-only parameters stay where they are
still_taken : (lanes : List (ℕ × ℕ × Lane)) (node : ℕ) (entries : List Entry) (old new : List Control) → AreTaken lanes node entries old new → All (λ control. control.shown ≡ true → AreElsewhere node control.id entries) old
    → All (λ control. control.shown ≡ true → IsStill control) old → All (λ control. control.shown ≡ true → IsStill control) new
still_taken lanes node entries old new taken elsewhere still k d lt shown =
    let long = taken.long in
    let inside : k < length old = omega (arith, long, lt) in
    let here = taken.each k d inside in
    let before : Control = get_or old k d in
    let was : before.shown ≡ true = sym here.same.shown ∙ shown in
    let is = still k d inside was in
    let touch : touch_of (get_or new k d) ≡ touch_of before = here.touch ∙ touch_elsewhere (line_of lanes before) before.steps node before.id entries (touch_of before) (elsewhere k d inside was) in
    record {
      lane = here.same.lane ∙ is.lane;
      sent = here.sent ∙ is.sent ∙ sym (ap (λ (t : Touch). t.value) touch);
    }

node_begun : (class : Class) (phase : Phase) (setup : Setup) (values : List ℕ) (channels max params room : ℕ) (lanes : List (ℕ × ℕ × Lane)) (node : ℕ) (entries : List Entry) (seat : Seat) (old new : List Control)
    → AreTaken lanes node entries old new → All (IsControl (length lanes) room) new → All (λ control. control.shown ≡ true → AreElsewhere node control.id entries) old
    → IsNode class phase setup values channels max params (length lanes) (length entries + room) seat old → IsNode class phase setup values channels max params (length lanes) room seat new
node_begun class phase setup values channels max params room lanes node entries seat old new taken each elsewhere is = record {
  phase_is = is.phase_is;
  channels_are = is.channels_are;
  most = is.most;
  of = of_taken lanes node entries old new taken class.params is.of;
  sent = is.sent ∙ sym (sent_taken lanes node entries old new taken);
  few = let long = taken.long in let few = is.few in omega (arith, long, few);
  each = each;
  still = still_taken lanes node entries old new taken elsewhere is.still;
  seat_is = is.seat_is;
}

-- there are as many parameters as before
count_taken : (lanes : List (ℕ × ℕ × Lane)) (entries : List Entry) (old new : List (List Control)) → length new ≡ length old → ((node : ℕ) → node < length old → length (board_at new node) ≡ length (board_at old node))
    → sum_by (λ board. length board) new ≡ sum_by (λ board. length board) old
count_taken lanes entries [] [] long same = refl
count_taken lanes entries [] (board ∷ new) long same = absurd (omega (arith, long))
count_taken lanes entries (board ∷ old) [] long same = absurd (omega (arith, long))
count_taken lanes entries (board ∷ old) (other ∷ new) long same =
    let here : length other ≡ length board = same 0 (omega arith) in
    let rest = count_taken lanes entries old new (omega (arith, long)) (λ node lt. same (suc node) (omega (arith, lt))) in
    let one = sum_by-cons (λ (l : List Control). length l) other new in
    let two = sum_by-cons (λ (l : List Control). length l) board old in
    omega (arith, here, rest, one, two)

module _ {P : Type 0} (class_of : ℕ → Class) (code : P → ℕ) (values : P → List ℕ) (phase : P → Phase) (setup : P → Setup) where
  -- an engine's nodes are ready for as many entries
  pub boards_ready : (parts : Parts P) (work : Work) (room : ℕ) → IsReadyFor class_of code values phase setup parts work room
      → AreReady class_of (of_all code parts.processors.items) (length parts.session.lanes.items) room (length work.given.items) (boards_of work.boards.items)
  boards_ready parts work room ready =
      let processors = parts.processors.items in
      let count = long_of_all code processors in
      let given = ready.given in
      let here = λ (node c : ℕ) (lt : node < length processors). node_here class_of code values phase setup parts work room ready node c AtProcessing lt in
      record {
        long = ready.stage.boards_are.long;
        of = λ node d lt. (here node d (omega (arith, lt, count))).2.of;
        each = λ node lt. (here node 0 (omega (arith, lt, count))).2.each;
        few = λ node lt. let few = (here node 0 (omega (arith, lt, count))).2.few in omega (arith, few, given);
      }

  -- The engine behind the entries, of which no class but a lawful one takes part.
  pub begun_ready : (parts : Parts P) (work : Work) (processors : Vec (Processing P) Global) (boards : Vec (Vec Control Global) Global) (given : Vec ℕ Global) (replies : Vec Reply Global) (entries : List Entry) (room : ℕ)
      → ((c : ℕ) → IsLawful (class_of c))
      → of_all code processors.items ≡ of_all code parts.processors.items
      → of_all phase processors.items ≡ of_all phase parts.processors.items
      → of_all setup processors.items ≡ of_all setup parts.processors.items
      → of_all values processors.items ≡ of_all values parts.processors.items
      → HaveTaken parts.session.lanes.items entries (boards_of work.boards.items) (boards_of boards.items)
      → IsStage class_of (of_all code processors.items) (scene_by class_of code parts) parts.session.lanes.items (boards_of boards.items)
      → AreReady class_of (of_all code processors.items) (length parts.session.lanes.items) room (length given.items) (boards_of boards.items)
      → length given.items ≡ length work.given.items
      → vec_len replies ≤ vec_capacity replies
      → All (λ entry. IsFor (scene_by class_of code parts) entry.command) entries
      → IsReadyFor class_of code values phase setup parts work (length entries + room)
      → IsReadyFor class_of code values phase setup (record parts { processors = processors }) (record work { boards = boards; given = given; replies = replies }) room
  begun_ready parts work processors boards given replies entries room lawful codes phases setups valued taken stage ready many few commands is =
      let olds = parts.processors.items in
      let news = processors.items in
      let scene : scene_by class_of code parts ≡ scene_of class_of (of_all code news) parts.first.items (content_of parts.session) = ap (λ (l : List ℕ). scene_of class_of l parts.first.items (content_of parts.session)) (sym codes) in
      let count : length news ≡ length olds =
      sym (long_of_all code news) ∙ ap (λ (l : List ℕ). length l) codes ∙ long_of_all code olds in
      let seated = long_of_all code olds in
      let wide = is.stage.boards_are.long in
      record {
        stage = subst (λ (x : Scene). IsStage class_of (of_all code news) x parts.session.lanes.items (boards_of boards.items)) scene stage;
        graph = subst IsGraph scene is.graph;
        few = subst (λ (n : ℕ). n ≤ 64) (sym count) is.few;
        channels = is.channels;
        most = is.most;
        within = is.within;
        seats = is.seats ∙ sym count;
        seat = is.seat;
        order = is.order;
        rows = (is.rows.0 ∙ sym count, is.rows.1);
        ends = is.ends;
        few_ends = is.few_ends;
        sources = subst (λ (n : ℕ). All (IsSource n) work.ends.items) (sym count) is.sources;
        space = is.space;
        given = subst (λ (n : ℕ). 64 ≤ n) (sym many) is.given;
        shown = is.shown ∙ sym (count_taken parts.session.lanes.items entries (boards_of work.boards.items) (boards_of boards.items) taken.long (λ node lt. (taken.each node lt).long));
        within_one = is.within_one;
        replies = few;
        nodes = λ node c p s d lt.
            let before : node < length olds = omega (arith, count, lt) in
            let among : node < length (boards_of work.boards.items) = omega (arith, before, wide, seated) in
            let old = board_at (boards_of work.boards.items) node in
            let new = board_at (boards_of boards.items) node in
            let here = is.nodes node c p s d before in
            let zero = is.nodes node 0 p s d before in
            let elsewhere = shown_elsewhere (scene_by class_of code parts) node (class_of (get_or (of_all code olds) node 0)) old entries refl (lawful _) zero.of commands in
            let begun = node_begun _ _ _ _ _ _ _ room parts.session.lanes.items node entries (get_or work.seats.items node d) old new (taken.each node among) (ready.each node (omega (arith, count, lt, long_of_all code news))) elsewhere here in
            subst (λ (l : List ℕ). IsNode (class_of (get_or l node c)) (get_or (of_all phase news) node p) (get_or (of_all setup news) node s) (get_or (of_all values news) node []) parts.session.channels work.max 64 (length parts.session.lanes.items) room (get_or work.seats.items node d) new) (sym codes)
            (subst (λ (l : List Phase). IsNode (class_of (get_or (of_all code olds) node c)) (get_or l node p) (get_or (of_all setup news) node s) (get_or (of_all values news) node []) parts.session.channels work.max 64 (length parts.session.lanes.items) room (get_or work.seats.items node d) new) (sym phases)
            (subst (λ (l : List Setup). IsNode (class_of (get_or (of_all code olds) node c)) (get_or (of_all phase olds) node p) (get_or l node s) (get_or (of_all values news) node []) parts.session.channels work.max 64 (length parts.session.lanes.items) room (get_or work.seats.items node d) new) (sym setups)
            (subst (λ (l : List (List ℕ)). IsNode (class_of (get_or (of_all code olds) node c)) (get_or (of_all phase olds) node p) (get_or (of_all setup olds) node s) (get_or l node []) parts.session.channels work.max 64 (length parts.session.lanes.items) room (get_or work.seats.items node d) new) (sym valued)
            begun)));
      }

abbrev made : (ℕ → State) → List Answer → (ℕ → List Touch) → Standing
made states answers touches = record { states = states; touches = touches; answers = answers }

-- what is kept, in two spellings
pub kept_standing : (states : List State) (boards : List (List Control)) (answers : List Answer)
    → made (λ node. get_or states node []) answers (λ node. get_or (map (λ (board : List Control). map touch_of board) boards) node []) ≡ standing_of states boards answers
kept_standing states boards answers =
    ap (made (λ node. get_or states node []) answers) (fun_ext (λ (node : ℕ). get_or-map (λ (board : List Control). map touch_of board) boards node []))

pub respelled : (scene : Scene) (s : ℕ) (entries : List Entry) (one other two third : Standing) → one ≡ other → two ≡ third → AreSame scene (applied scene s entries one) two → AreSame scene (applied scene s entries other) third
respelled scene s entries one other two third before after same =
    subst (λ (x : Standing). AreSame scene (applied scene s entries x) third) before (subst (λ (x : Standing). AreSame scene (applied scene s entries one) x) after same)

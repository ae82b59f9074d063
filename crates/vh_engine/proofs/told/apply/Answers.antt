use Rattle.std.proofs.Common.{◌≡◌, ◌∙◌, ◌⊎◌, inl, inr, ℕ, ◌^◌, ◌<◌, ◌≤◌, List, [], ◌∷◌, ◌++◌, length, get_or, set, map, take, None, Vec, sym, ap, subst, arith}
use Rattle.std.specs.Prelude.{All}
use Rattle.std.specs.Vec.{with_items}
use Rattle.std.specs.declared.alloc.Global.{Global}
use Rattle.std.proofs.Math.Seq.{map-set_same}
use Rattle.std.proofs.lemmas.List.{get_or-map, length-map, map-set, map_push, append-nil, drop_all, take_all}
use Rattle.vh_component.specs.declared.states.Processing.{Processing}
use Rattle.vh_component.specs.States.{of_processing}
use Rattle.vh_counted.specs.Held.{value_of_opened, object_of_opened, numbers_of_opened}
use Rattle.vh_counted.specs.declared.numbers.Numbers.{Numbers}
use Rattle.vh_counted.specs.declared.object.Object.{Object}
use Rattle.vh_lane.specs.declared.lane.Lane.{Lane}
use Rattle.vh_params.specs.declared.command.Command.{Command}
use Rattle.vh_params.specs.declared.command.Command.TheVariants.{Begin, Perform, End}
use Rattle.vh_params.specs.declared.command.Reply.{Reply}
use Rattle.vh_params.specs.Short.{words_in}
use Rattle.vh_journal.specs.declared.entry.Entry.{Entry}
use Rattle.vh_plugin.specs.Class.{Class, State}
use Rattle.vh_meaning.specs.Edits.{edit_by}
use Rattle.vh_meaning.specs.Rendering.{Answer, message_sample}
use Rattle.vh_meaning.specs.Steps.{applied_one}
use Rattle.vh_engine.specs.declared.control.Control.{Control}
use Rattle.vh_engine.specs.Controls.{IsControl}
use Rattle.vh_engine.specs.Nodes.{AreOf}
use Rattle.vh_engine.specs.Staged.{of_all, boards_of, board_at, answer_of, standing_of, AreSame}
use Rattle.vh_engine.specs.Told.{values_now_of, AreTaken, HaveTaken, node_of, IsOnNode, AreReady}
use Rattle.vh_engine.proofs.Takes.{long_of_all, AreHeld, message_taken, edit_taken, held_before, held_set, ready_taken, ready_with_less}
use Rattle.vh_engine.proofs.Telling.{IsTold, edit_applied, message_applied}
use Rattle.vh_engine.proofs.told.apply.Goals as goal

-- what is meant of each processor stays, where one is changed and means the same
all_same : {P A : Type 0} (meant : P → A) (processors : List (Processing P)) (node : ℕ) (d new : Processing P) → meant (value_of_opened (of_processing new)) ≡ meant (value_of_opened (of_processing (get_or processors node d)))
    → of_all meant (set processors node new) ≡ of_all meant processors
all_same {P} meant processors node d new same = map-set_same (λ (x : Processing P). meant (value_of_opened (of_processing x))) processors node new d same

meant_at : {P A : Type 0} (meant : P → A) (processors : List (Processing P)) (node : ℕ) (d : Processing P) (e : A) → node < length processors → get_or (of_all meant processors) node e ≡ meant (value_of_opened (of_processing (get_or processors node d)))
meant_at {P} meant processors node d e within = get_or-map (λ (x : Processing P). meant (value_of_opened (of_processing x))) processors node d e within

-- a node's board is what its vector holds
board_is : (boards : List (Vec Control Global)) (node : ℕ) (d : Vec Control Global) → node < length boards → board_at (boards_of boards) node ≡ (get_or boards node d).items
board_is boards node d within = get_or-map (λ (b : Vec Control Global). b.items) boards node d [] within

items_are : (board : Vec Control Global) (controls : List Control) → length controls ≡ length board.items → (with_items board controls).items ≡ controls
items_are board controls long =
    let len = board.ok.0 in
    ap (λ (l : List Control). take board.len (controls ++ l)) (drop_all (length controls) board.items (omega (arith, long)))
    ∙ ap (take board.len) (append-nil controls)
    ∙ take_all board.len controls (omega (arith, long, len))

-- an edit is on its node, and no message
abbrev IsEditOf : ℕ → Command → Type 0
IsEditOf node command = ((id : ℕ) × (command ≡ Begin node id)) ⊎ (((id : ℕ) × (value : ℕ) × (command ≡ Perform node id value)) ⊎ ((id : ℕ) × (command ≡ End node id)))

edit_on : (sample node : ℕ) (command : Command) → IsEditOf node command → (node_of command ≡ node) × (message_sample sample command ≡ None)
edit_on sample node command is = elim is [
  | inl begins ↦ (ap node_of begins.1, ap (message_sample sample) begins.1)
  | inr other ↦ elim other [
    | inl performs ↦ (ap node_of performs.2, ap (message_sample sample) performs.2)
    | inr ends ↦ (ap node_of ends.1, ap (message_sample sample) ends.1)
  ]
]

module _ {P : Type 0} (class_of : ℕ → Class) (code : P → ℕ) (processors : List (Processing P)) (lanes : List (ℕ × ℕ × Lane)) (entry : Entry) (boards : List (Vec Control Global)) (node most : ℕ) (d : Vec Control Global)
    (on : node < length processors) (ready : AreReady class_of (of_all code processors) (length lanes) 1 most (boards_of boards)) where
  among : node < length (of_all code processors)
  among = omega (arith, on, long_of_all code processors)

  inside : node < length (boards_of boards)
  inside = let long = ready.long in omega (arith, on, long, long_of_all code processors)

  here : board_at (boards_of boards) node ≡ (get_or boards node d).items
  here = board_is boards node d (omega (arith, inside, length-map boards (λ (b : Vec Control Global). b.items)))

  module _ (old new : List Control) (is : old ≡ (get_or boards node d).items) (taken : AreTaken lanes node (entry ∷ []) old new) where
    news_are : boards_of (set boards node (with_items (get_or boards node d) new)) ≡ set (boards_of boards) node new
    news_are =
        map-set (λ (b : Vec Control Global). b.items) boards node (with_items (get_or boards node d) new)
        ∙ ap (set (boards_of boards) node) (items_are (get_or boards node d) new (taken.long ∙ ap (λ (l : List Control). length l) is))

    edited : node_of entry.command ≡ node → HaveTaken lanes (entry ∷ []) (boards_of boards) (boards_of (set boards node (with_items (get_or boards node d) new)))
    edited same =
        subst (λ (l : List (List Control)). HaveTaken lanes (entry ∷ []) (boards_of boards) l) (sym news_are)
        (edit_taken lanes entry (boards_of boards) node new same inside (subst (λ (l : List Control). AreTaken lanes node (entry ∷ []) l new) (is ∙ sym here) taken))

    edited_held : All (λ control. control.held ≤ 2 ^ 24) new → AreHeld (boards_of (set boards node (with_items (get_or boards node d) new)))
    edited_held held = subst AreHeld (sym news_are) (held_set (boards_of boards) node new (held_before class_of (of_all code processors) (length lanes) 1 most (boards_of boards) ready) held)

-- what a node was told, in two spellings
told_at_node : (class_of : ℕ → Class) (lanes : List (ℕ × ℕ × Lane)) (s : ℕ) (words : List ℕ) (code other : ℕ) (state before : State) (controls board : List Control) (new : State) (reply : List ℕ) → code ≡ other → state ≡ before → controls ≡ board
    → IsTold (class_of code) (values_now_of lanes controls s) words state new reply → IsTold (class_of other) (values_now_of lanes board s) words before new reply
told_at_node class_of lanes s words code other state before controls board new reply codes states boards told =
    subst (λ (n : ℕ). IsTold (class_of n) (values_now_of lanes board s) words before new reply) codes
    (subst (λ (x : State). IsTold (class_of code) (values_now_of lanes board s) words x new reply) states
    (subst (λ (l : List Control). IsTold (class_of code) (values_now_of lanes l s) words state new reply) boards told))

abbrev holder : Object → Numbers → Object × Numbers
holder object numbers = (object, numbers)

both_same : (object other : Object) (numbers others : Numbers) → object ≡ other → numbers ≡ others → holder object numbers ≡ holder other others
both_same object other numbers others same also = ap (λ (o : Object). holder o numbers) same ∙ ap (holder other) also

pub tell-words-requires-clause-controls : goal.tell-words-requires-clause-controls
tell-words-requires-clause-controls g c =
    let node = c.in-Tell.node in
    let boards = boards_of c.args.boards.now in
    let class_of = g.P.Processor.class_of in
    let processors = c.args.processors.now in
    let lanes = length c.args.lanes.now in
    let on : node < length processors = subst (λ (command : Command). IsOnNode (length processors) command) c.in-Tell.is c.requires.node in
    let least : 0 ≤ 1 = omega arith in
    let ready = ready_with_less class_of (of_all g.P.Processor.code processors) lanes 1 0 (length c.args.given.now) boards least c.requires.ready in
    subst (λ (l : List Control). All (IsControl lanes 0) l) (here class_of g.P.Processor.code processors c.args.lanes.now c.args.entry.now c.args.boards.now node (length c.args.given.now) c.index-boards-node.result on c.requires.ready ∙ sym c.deref.ensures.value)
    (ready.each node (omega (arith, on, long_of_all g.P.Processor.code processors)))

pub tell-words-requires-clause-params : goal.tell-words-requires-clause-params
tell-words-requires-clause-params g c =
    let node = c.in-Tell.node in
    let class_of = g.P.Processor.class_of in
    let processors = c.args.processors.now in
    let on : node < length processors = subst (λ (command : Command). IsOnNode (length processors) command) c.in-Tell.is c.requires.node in
    subst (λ (l : List Control). AreOf (class_of (g.P.Processor.code (value_of_opened (of_processing (get_or processors node c.index-processors-node.result))))).params l)
    (here class_of g.P.Processor.code processors c.args.lanes.now c.args.entry.now c.args.boards.now node (length c.args.given.now) c.index-boards-node.result on c.requires.ready ∙ sym c.deref.ensures.value)
    (subst (λ (n : ℕ). AreOf (class_of n).params (board_at (boards_of c.args.boards.now) node)) (meant_at g.P.Processor.code processors node c.index-processors-node.result 0 on)
    (c.requires.ready.of node 0 (omega (arith, on, long_of_all g.P.Processor.code processors))))

pub tell-words-requires-clause-room : goal.tell-words-requires-clause-room
tell-words-requires-clause-room g c =
    let node = c.in-Tell.node in
    let processors = c.args.processors.now in
    let on : node < length processors = subst (λ (command : Command). IsOnNode (length processors) command) c.in-Tell.is c.requires.node in
    subst (λ (l : List Control). length l ≤ length c.args.given.now)
    (here g.P.Processor.class_of g.P.Processor.code processors c.args.lanes.now c.args.entry.now c.args.boards.now node (length c.args.given.now) c.index-boards-node.result on c.requires.ready ∙ sym c.deref.ensures.value)
    (c.requires.ready.few node (omega (arith, on, long_of_all g.P.Processor.code processors)))

pub take_all-requires-clause-controls : goal.take_all-requires-clause-controls
take_all-requires-clause-controls g c =
    let node = c.in-Begin.node in
    let processors = c.args.processors.now in
    let on : node < length processors = subst (λ (n : ℕ). n < length processors) (edit_on 0 node c.args.entry.now.command c.in-Begin.is).0 c.requires.node in
    subst (λ (l : List Control). All (IsControl (length c.args.lanes.now) 1) l)
    (here g.P.Processor.class_of g.P.Processor.code processors c.args.lanes.now c.args.entry.now c.args.boards.now node (length c.args.given.now) c.index-boards-node-in-Begin.result on c.requires.ready ∙ sym c.deref_mut.ensures.value)
    (c.requires.ready.each node (omega (arith, on, long_of_all g.P.Processor.code processors)))

pub returns-in-Begin-clause-taken : goal.returns-in-Begin-clause-taken
returns-in-Begin-clause-taken g c =
    let node = c.in-Begin.node in
    let processors = c.args.processors.now in
    let edit = edit_on 0 node c.args.entry.now.command c.in-Begin.is in
    let on : node < length processors = subst (λ (n : ℕ). n < length processors) edit.0 c.requires.node in
    edited g.P.Processor.class_of g.P.Processor.code processors c.args.lanes.now c.args.entry.now c.args.boards.now node (length c.args.given.now) c.index-boards-node-in-Begin.result on c.requires.ready
    c.deref_mut.result.now c.take_all.new.controls c.deref_mut.ensures.value c.take_all.ensures.taken edit.0

pub returns-in-Begin-clause-applied : goal.returns-in-Begin-clause-applied
returns-in-Begin-clause-applied g c = λ scene stage.
    let node = c.in-Begin.node in
    let processors = c.args.processors.now in
    let edit = edit_on c.args.entry.now.sample node c.args.entry.now.command c.in-Begin.is in
    let on : node < length processors = subst (λ (n : ℕ). n < length processors) edit.0 c.requires.node in
    let taken = edited g.P.Processor.class_of g.P.Processor.code processors c.args.lanes.now c.args.entry.now c.args.boards.now node (length c.args.given.now) c.index-boards-node-in-Begin.result on c.requires.ready
    c.deref_mut.result.now c.take_all.new.controls c.deref_mut.ensures.value c.take_all.ensures.taken edit.0 in
    edit_applied g.P.Processor.class_of (of_all g.P.Processor.code processors) scene c.args.lanes.now c.args.sample c.args.entry.now (of_all g.P.Processor.state processors) _ _ (map answer_of c.args.replies.now.items) edit.1 taken stage

pub returns-in-Begin-clause-ready : goal.returns-in-Begin-clause-ready
returns-in-Begin-clause-ready g c = λ room ready.
    let node = c.in-Begin.node in
    let processors = c.args.processors.now in
    let class_of = g.P.Processor.class_of in
    let edit = edit_on 0 node c.args.entry.now.command c.in-Begin.is in
    let on : node < length processors = subst (λ (n : ℕ). n < length processors) edit.0 c.requires.node in
    let taken = edited class_of g.P.Processor.code processors c.args.lanes.now c.args.entry.now c.args.boards.now node (length c.args.given.now) c.index-boards-node-in-Begin.result on c.requires.ready
    c.deref_mut.result.now c.take_all.new.controls c.deref_mut.ensures.value c.take_all.ensures.taken edit.0 in
    let held = edited_held class_of g.P.Processor.code processors c.args.lanes.now c.args.entry.now c.args.boards.now node (length c.args.given.now) c.index-boards-node-in-Begin.result on c.requires.ready
    c.deref_mut.result.now c.take_all.new.controls c.deref_mut.ensures.value c.take_all.ensures.taken c.take_all.ensures.within in
    ready_taken class_of (of_all g.P.Processor.code processors) c.args.lanes.now c.args.entry.now room (length c.args.given.now) _ _ taken held ready

pub returns-in-Tell-clause-codes : goal.returns-in-Tell-clause-codes
returns-in-Tell-clause-codes g c = all_same g.P.Processor.code c.args.processors.now c.in-Tell.node c.index-processors-node.result c.tell-words.new.processor c.tell-words.ensures.code

pub returns-in-Tell-clause-values : goal.returns-in-Tell-clause-values
returns-in-Tell-clause-values g c = all_same g.P.Processor.values c.args.processors.now c.in-Tell.node c.index-processors-node.result c.tell-words.new.processor c.tell-words.ensures.values

pub returns-in-Tell-clause-calls : goal.returns-in-Tell-clause-calls
returns-in-Tell-clause-calls g c = all_same g.P.Processor.calls c.args.processors.now c.in-Tell.node c.index-processors-node.result c.tell-words.new.processor c.tell-words.ensures.calls

pub returns-in-Tell-clause-phases : goal.returns-in-Tell-clause-phases
returns-in-Tell-clause-phases g c = all_same g.P.Life.phase c.args.processors.now c.in-Tell.node c.index-processors-node.result c.tell-words.new.processor c.tell-words.ensures.phase

pub returns-in-Tell-clause-setups : goal.returns-in-Tell-clause-setups
returns-in-Tell-clause-setups g c = all_same g.P.Life.last_setup c.args.processors.now c.in-Tell.node c.index-processors-node.result c.tell-words.new.processor c.tell-words.ensures.setup

pub returns-in-Tell-clause-holders : goal.returns-in-Tell-clause-holders
returns-in-Tell-clause-holders g c =
    map-set_same (λ (x : Processing g.row.P.Denot). (object_of_opened (of_processing x), numbers_of_opened (of_processing x))) c.args.processors.now c.in-Tell.node c.tell-words.new.processor c.index-processors-node.result
    (both_same _ _ _ _ c.tell-words.ensures.object c.tell-words.ensures.numbers)

pub returns-in-Tell-clause-ready : goal.returns-in-Tell-clause-ready
returns-in-Tell-clause-ready g c = λ room ready.
    let class_of = g.P.Processor.class_of in
    let processors = c.args.processors.now in
    let codes = of_all g.P.Processor.code processors in
    let boards = boards_of c.args.boards.now in
    let lanes = c.args.lanes.now in
    let most = length c.args.given.now in
    let taken = message_taken lanes c.args.entry.now boards (λ node id. ap (edit_by node id c.args.entry.now.sample) c.in-Tell.is) in
    let same = all_same g.P.Processor.code processors c.in-Tell.node c.index-processors-node.result c.tell-words.new.processor c.tell-words.ensures.code in
    subst (λ (l : List ℕ). AreReady class_of l (length lanes) room (length c.tell-words.new.given) boards) (sym same)
    (subst (λ (n : ℕ). AreReady class_of codes (length lanes) room n boards) (sym c.tell-words.ensures.given)
    (ready_taken class_of codes lanes c.args.entry.now room most boards boards taken (held_before class_of codes (length lanes) 1 most boards c.requires.ready) ready))

pub returns-in-Tell-clause-applied : goal.returns-in-Tell-clause-applied
returns-in-Tell-clause-applied g c = λ scene stage.
    let node = c.in-Tell.node in
    let class_of = g.P.Processor.class_of in
    let processors = c.args.processors.now in
    let codes = of_all g.P.Processor.code processors in
    let states = of_all g.P.Processor.state processors in
    let boards = boards_of c.args.boards.now in
    let lanes = c.args.lanes.now in
    let s = c.args.sample in
    let entry = c.args.entry.now in
    let answers = map answer_of c.args.replies.now.items in
    let old = c.index-processors-node.result in
    let new = c.tell-words.new.processor in
    let after = g.P.Processor.state (value_of_opened (of_processing new)) in
    let reply : List ℕ = words_in c.tell-words.result in
    let on : node < length processors = subst (λ (command : Command). IsOnNode (length processors) command) c.in-Tell.is c.requires.node in
    let long = long_of_all g.P.Processor.code processors in
    let taken = message_taken lanes entry boards (λ n id. ap (edit_by n id entry.sample) c.in-Tell.is) in
    let told = told_at_node class_of lanes s (words_in c.in-Tell.words) _ (get_or codes node 0) _ (get_or states node []) c.deref.result.now (board_at boards node) after reply
    (sym (meant_at g.P.Processor.code processors node old 0 on)) (sym (meant_at g.P.Processor.state processors node old [] on))
    (c.deref.ensures.value ∙ sym (here class_of g.P.Processor.code processors lanes entry c.args.boards.now node (length c.args.given.now) c.index-boards-node.result on c.requires.ready))
    (record { state = c.tell-words.ensures.state; reply_is = c.tell-words.ensures.reply }) in
    let given = message_applied class_of codes scene lanes s entry states boards answers node c.in-Tell.words after reply c.in-Tell.is (omega (arith, on, long)) (omega (arith, long, long_of_all g.P.Processor.state processors)) taken stage told in
    let standing = applied_one scene s entry (standing_of states boards answers) in
    let states_are : of_all g.P.Processor.state (set processors node new) ≡ set states node after = map-set (λ (x : Processing g.row.P.Denot). g.P.Processor.state (value_of_opened (of_processing x))) processors node new in
    let last : Reply = record { node = node; sample = s; words = c.tell-words.result } in
    let answers_are : map answer_of c.push_reserved.new.self.items ≡ answers ++ answer_of last ∷ [] =
    ap (λ (l : List Reply). map answer_of l) c.push_reserved.ensures.items ∙ map_push answer_of c.args.replies.now.items last in
    subst (λ (l : List State). AreSame scene standing (standing_of l boards (map answer_of c.push_reserved.new.self.items))) (sym states_are)
    (subst (λ (l : List Answer). AreSame scene standing (standing_of (set states node after) boards l)) (sym answers_are) given)

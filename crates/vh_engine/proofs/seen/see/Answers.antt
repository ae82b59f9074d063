use Rattle.std.proofs.Common.{◌≡◌, ◌∙◌, ℕ, ◌+◌, ◌-◌, ◌<◌, ◌≤◌, ◌^◌, cond, true, List, [], ◌++◌, length, get_or, take, drop, sym, ap, subst, arith, length-append, length-drop, Vec}
use Rattle.std.specs.Prelude.{All}
use Rattle.std.specs.declared.alloc.Global.{Global}
use borrow.Rule.Slice.PartMut.{put_mid}
use Rattle.std.proofs.lemmas.List.{get_or-map, length-map, length-take-le}
use Rattle.std.proofs.lemmas.List.Elements.{All-append}
use Rattle.std.proofs.lemmas.List.Sums.{sum_by_more, sum_by_more_le}
use Rattle.std.proofs.lemmas.Slice.{take-put_mid}
use Rattle.vh_component.specs.declared.states.Processing.{Processing}
use Rattle.vh_component.specs.States.{of_processing}
use Rattle.vh_counted.specs.Held.{value_of_opened}
use Rattle.vh_plugin.specs.Class.{State, has_shown}
use Rattle.vh_engine.specs.declared.control.Control.{Control}
use Rattle.vh_engine.specs.Seen.{seen_of_node, seen_of_all}
use Rattle.vh_engine.specs.Staged.{of_all, boards_of, board_at}
use Rattle.vh_engine.proofs.Seeing.{seen_more}
use Rattle.vh_engine.proofs.Takes.{long_of_all}
use Rattle.vh_engine.proofs.seen.see.Goals as goal

-- a node's board is what its vector holds, and what is meant of its processor is meant of the processor there
board_here : (boards : List (Vec Control Global)) (node : ℕ) (board : Vec Control Global) (now : List Control) → node < length boards → board ≡ get_or boards node board → now ≡ board.items → now ≡ board_at (boards_of boards) node
board_here boards node board now within is same = same ∙ ap (λ (b : Vec Control Global). b.items) is ∙ sym (get_or-map (λ (b : Vec Control Global). b.items) boards node board [] within)

meant_here : {P A : Type 0} (meant : P → A) (processors : List (Processing P)) (node : ℕ) (processor : Processing P) (e : A) → node < length processors → processor ≡ get_or processors node processor
    → meant (value_of_opened (of_processing processor)) ≡ get_or (of_all meant processors) node e
meant_here {P} meant processors node processor e within is =
    ap (λ (x : Processing P). meant (value_of_opened (of_processing x))) is ∙ sym (get_or-map (λ (x : Processing P). meant (value_of_opened (of_processing x))) processors node processor e within)

-- a part keeps its place
put_long : (a n : ℕ) (xs ys : List ℕ) → a + n ≤ length xs → length ys ≡ n → length (put_mid a (a + n - a) xs ys) ≡ length xs
put_long a n xs ys within long =
    let k = a + n - a in
    omega (arith, within, long, length-append (take a xs) (ys ++ drop k (drop a xs)), length-append ys (drop k (drop a xs)), length-take-le a xs (omega (arith, within)), length-drop k (drop a xs), length-drop a xs)

pub slice_bounds-see_node-end : goal.slice_bounds-see_node-end
slice_bounds-see_node-end g c =
    let boards = boards_of c.args.boards.now in
    let node = c.loop-node.node in
    let is = c.loop-node.invariant in
    let inside : node < length c.args.boards.now = omega (arith, c.loop-node-test.true, c.loop-node.auto.node-end, c.requires.boards) in
    let among : node < length boards = omega (arith, inside, length-map c.args.boards.now (λ (b : Vec Control Global). b.items)) in
    let here = board_here c.args.boards.now node c.index-boards-node.result c.deref.result.now inside c.index-boards-node.is c.deref.ensures.value in
    let long : c.len.result ≡ length (board_at boards node) = c.len.ensures ∙ sym c.deref.ensures.len ∙ ap (λ (l : List Control). length l) here in
    let bound : c.loop-node.at + c.len.result ≤ length c.loop-node.values = omega (arith, is.0, is.1, long, sum_by_more_le (λ (l : List Control). length l) boards node [] among) in
    bound

pub see_node-requires-clause-sent : goal.see_node-requires-clause-sent
see_node-requires-clause-sent g c =
    let node = c.loop-node.node in
    let inside : node < length c.args.boards.now = omega (arith, c.loop-node-test.true, c.loop-node.auto.node-end, c.requires.boards) in
    let here = board_here c.args.boards.now node c.index-boards-node.result c.deref.result.now inside c.index-boards-node.is c.deref.ensures.value in
    subst (λ (l : List Control). All (λ (control : Control). control.sent ≤ 2 ^ 24) l) (sym here) (c.requires.sent node inside)

pub see_node-requires-clause-shown : goal.see_node-requires-clause-shown
see_node-requires-clause-shown g c =
    let node = c.loop-node.node in
    let boards = boards_of c.args.boards.now in
    let processors = c.args.processors.now in
    let lt : node < length processors = omega (arith, c.loop-node-test.true, c.loop-node.auto.node-end) in
    let inside : node < length c.args.boards.now = omega (arith, lt, c.requires.boards) in
    let here = board_here c.args.boards.now node c.index-boards-node.result c.deref.result.now inside c.index-boards-node.is c.deref.ensures.value in
    subst (λ (n : ℕ). All (λ (control : Control). control.shown ≡ true → has_shown (g.P.Processor.class_of n).params control.id ≡ true) c.deref.result.now) (sym (meant_here g.P.Processor.code processors node c.index-processors-node.result 0 lt c.index-processors-node.is))
    (subst (λ (l : List Control). All (λ (control : Control). control.shown ≡ true → has_shown (g.P.Processor.class_of (get_or (of_all g.P.Processor.code processors) node 0)).params control.id ≡ true) l) (sym here)
    (c.requires.shown node 0 (omega (arith, lt, long_of_all g.P.Processor.code processors))))

pub loop-node-preserved : goal.loop-node-preserved
loop-node-preserved g c =
    let boards = boards_of c.args.boards.now in
    let node = c.loop-node.node in
    let at = c.loop-node.at in
    let values = c.loop-node.values in
    let seen = c.see_node.new.values in
    let is = c.loop-node.invariant in
    let processors = c.args.processors.now in
    let class_of = g.P.Processor.class_of in
    let codes = of_all g.P.Processor.code processors in
    let states = of_all g.P.Processor.state processors in
    let lt : node < length processors = omega (arith, c.loop-node-test.true, c.loop-node.auto.node-end) in
    let inside : node < length c.args.boards.now = omega (arith, lt, c.requires.boards) in
    let wide = length-map c.args.boards.now (λ (b : Vec Control Global). b.items) in
    let among : node < length boards = omega (arith, inside, wide) in
    let here = board_here c.args.boards.now node c.index-boards-node.result c.deref.result.now inside c.index-boards-node.is c.deref.ensures.value in
    let long : c.len.result ≡ length (board_at boards node) = c.len.ensures ∙ sym c.deref.ensures.len ∙ ap (λ (l : List Control). length l) here in
    let bound : at + c.len.result ≤ length values = omega (arith, is.0, is.1, long, sum_by_more_le (λ (l : List Control). length l) boards node [] among) in
    let old = c.index-processors-node.result in
    let one : seen ≡ seen_of_node (class_of (get_or codes node 0)) (get_or states node []) (board_at boards node) =
    c.see_node.ensures.seen
    ∙ ap (λ (n : ℕ). seen_of_node (class_of n) (g.P.Processor.state (value_of_opened (of_processing old))) c.deref.result.now) (meant_here g.P.Processor.code processors node old 0 lt c.index-processors-node.is)
    ∙ ap (λ (state : State). seen_of_node (class_of (get_or codes node 0)) state c.deref.result.now) (meant_here g.P.Processor.state processors node old [] lt c.index-processors-node.is)
    ∙ ap (seen_of_node (class_of (get_or codes node 0)) (get_or states node [])) here in
    let class = class_of (get_or codes node 0) in
    let state = get_or states node [] in
    let many : length seen ≡ c.len.result = ap (λ (l : List ℕ). length l) one ∙ length-map (board_at boards node) (λ (control : Control). cond control.shown (class.shown state control.id) control.sent) ∙ sym long in (
      omega (arith, is.0, long, sum_by_more (λ (l : List Control). length l) boards node [] among),
      put_long at c.len.result values seen bound many ∙ is.1,
      take-put_mid at (at + c.len.result - at) values seen (at + c.len.result) (omega (arith, many)) (omega (arith, bound))
          ∙ ap (λ (l : List ℕ). l ++ seen) is.2
          ∙ ap (λ (l : List ℕ). seen_of_all class_of (take node codes) (take node states) (take node boards) ++ l) one
          ∙ sym (seen_more class_of codes states boards node (omega (arith, long_of_all g.P.Processor.state processors, long_of_all g.P.Processor.code processors)) (omega (arith, wide, c.requires.boards, long_of_all g.P.Processor.code processors)) (omega (arith, lt, long_of_all g.P.Processor.code processors))),
      subst (λ (l : List ℕ). All (λ value. value ≤ 2 ^ 24) l) (sym (take-put_mid at (at + c.len.result - at) values seen (at + c.len.result) (omega (arith, many)) (omega (arith, bound))))
          (All-append (λ (value : ℕ). value ≤ 2 ^ 24) (take at values) seen is.3 c.see_node.ensures.within),
    )

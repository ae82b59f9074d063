-- Nodes that play a sample in their order.
use Rattle.std.proofs.Common.{◌≡◌, ◌≢◌, ◌∙◌, inl, inr, ℕ, ◌+◌, ◌<◌, ◌≤◌, List, [], ◌∷◌, ◌++◌, length, get_or, set, take, drop, refl, sym, ap, subst, arith}
use Rattle.std.specs.Prelude.{Contains}
use Rattle.std.proofs.lemmas.List.{length-map, length-set, take_more, drop_more, drop_all, get_or-set_same, get_or-set_other}
use Rattle.std.proofs.lemmas.List.Elements.{Contains-append_left, Contains-push, Contains-push_cases}
use Rattle.vh_component.specs.declared.setup.Phase.{Phase}
use Rattle.vh_component.specs.declared.setup.Setup.{Setup}
use Rattle.vh_graph.specs.Paths.{sources_of}
use Rattle.vh_graph.specs.Order.{IsReady, IsOrderAfter}
use Rattle.vh_num.specs.Frames.{Frame}
use Rattle.vh_plugin.specs.Class.{Class, State}
use Rattle.vh_session.specs.Content.{Content, node_wires}
use Rattle.vh_session.specs.declared.wire.End.TheVariants.{Node as AtNode}
use Rattle.vh_meaning.specs.Mix.{main_mix, aux_mix}
use Rattle.vh_meaning.specs.Scene.{Scene, class_at}
use Rattle.vh_meaning.specs.Frames.{given, stepped}
use Rattle.vh_meaning.specs.Trace.{IsConsistent}
use Rattle.vh_meaning.proofs.Reaching.{given_alike, stepped_alike}
use Rattle.vh_meaning.proofs.Reaching as reaching
use Rattle.vh_core.specs.State.{scene_in}
use Rattle.vh_core.specs.Playing.{AreAlike, HaveStates, setting_by}
use Rattle.vh_core.proofs.Players.{alike_same, alike_more, alike_set, alike_long, same_at, class_is}

-- a place of an order: the node there is ready, and then the next is
pub record IsAtPlace (count : ℕ) (wires : List (ℕ × ℕ)) (order : List ℕ) (place node : ℕ) : Type 0 where
  pub ready : IsReady count wires (take place order) node
  pub more : take (place + 1) order ≡ take place order ++ node ∷ []
  pub after : IsOrderAfter count wires (take (place + 1) order) (drop (place + 1) order)

pub at_place : (count : ℕ) (wires : List (ℕ × ℕ)) (order : List ℕ) (place node : ℕ) → place < length order → node ≡ get_or order place node → IsOrderAfter count wires (take place order) (drop place order)
    → IsAtPlace count wires order place node
at_place count wires order place node lt is after =
    let split : drop place order ≡ node ∷ drop (place + 1) order = drop_more order place node lt ∙ sym (ap (λ (m : ℕ). m ∷ drop (place + 1) order) is) in
    let more : take (place + 1) order ≡ take place order ++ node ∷ [] = take_more order place node lt ∙ sym (ap (λ (m : ℕ). take place order ++ m ∷ []) is) in
    let here : IsOrderAfter count wires (take place order) (node ∷ drop (place + 1) order) = subst (λ (l : List ℕ). IsOrderAfter count wires (take place order) l) split after in
    record {
      ready = here.0.ready;
      more = more;
      after = subst (λ (l : List ℕ). IsOrderAfter count wires l (drop (place + 1) order)) (sym more) here.1;
    }

-- behind the last place all nodes stand
pub all_stand : (count : ℕ) (wires : List (ℕ × ℕ)) (order : List ℕ) (place : ℕ) → length order ≤ place → IsOrderAfter count wires (take place order) (drop place order)
    → (node : ℕ) → node < count → Contains (take place order) node
all_stand count wires order place end after = subst (λ (l : List ℕ). IsOrderAfter count wires (take place order) l) (drop_all place order end) after

nothing : {A : Type 0} (node : ℕ) → Contains [] node → A
nothing node is = absurd (let lt = is.1 in omega (arith, lt))

module _ {P : Type 0} (class_of : ℕ → Class) (code : P → ℕ) (state : P → State) (phase : P → Phase) (setup : P → Setup) (session : Content) (firsts : List ℕ) (old : List P) (values : ℕ → List ℕ) (input : Frame) where
  abbrev scene_here : Scene
  scene_here = scene_in (setting_by class_of code session firsts old)

  -- Those that are placed played, behind their sources, and the others are as they were.
  pub record ArePlayed (placed : List ℕ) (processors : List P) (frames : ℕ → Frame) : Type 0 where
    pub alike : AreAlike code phase setup old processors
    pub behind : (node source : ℕ) → Contains placed node → Contains (sources_of (node_wires session.wires) node) source → Contains placed source
    pub waits : (states : ℕ → State) → HaveStates state old states → (node : ℕ) (d : P) → node < length processors → ¬ Contains placed node → state (get_or processors node d) ≡ states node
    pub gave : (states : ℕ → State) → HaveStates state old states → (node : ℕ) → Contains placed node → frames node ≡ given scene_here states values input frames node
    pub moved : (states : ℕ → State) → HaveStates state old states → (node : ℕ) (d : P) → node < length processors → Contains placed node
        → state (get_or processors node d) ≡ stepped scene_here states values input frames node

  pub played_none : (frames : ℕ → Frame) → ArePlayed [] old frames
  played_none frames = record {
    alike = alike_same code phase setup old;
    behind = λ node source is has. nothing node is;
    waits = λ states have node d lt out. have node d lt;
    gave = λ states have node is. nothing node is;
    moved = λ states have node d lt is. nothing node is;
  }

  -- what a node's turn changes
  pub record HasTurned (node : ℕ) (before after : P) (frames others : ℕ → Frame) : Type 0 where
    pub gave : others node ≡ (class_of (code before)).output session.channels (state before) (values node)
        (main_mix session.channels session.wires input frames (AtNode node)) (aux_mix session.channels session.wires input frames (AtNode node))
    pub moved : state after ≡ (class_of (code before)).next session.channels (state before) (values node)
        (main_mix session.channels session.wires input frames (AtNode node)) (aux_mix session.channels session.wires input frames (AtNode node))
    pub stay : (other : ℕ) → other ≢ node → others other ≡ frames other
    pub code_is : code after ≡ code before
    pub phase_is : phase after ≡ phase before
    pub setup_is : setup after ≡ setup before

  module _ (placed : List ℕ) (processors : List P) (frames others : ℕ → Frame) (node : ℕ) (before after : P) (played : ArePlayed placed processors frames)
      (ready : IsReady (length session.nodes) (node_wires session.wires) placed node) (there : node < length processors) (is : before ≡ get_or processors node before)
      (turned : HasTurned node before after frames others) where
    long : length processors ≡ length old
    long = alike_long code phase setup old processors played.alike

    class_here : class_at scene_here node ≡ class_of (code before)
    class_here =
        let size = long in
        class_is class_of code session firsts old node before (omega (arith, size, there))
        ∙ ap class_of (sym (same_at code old processors node before played.alike.codes long there))
        ∙ ap (λ (p : P). class_of (code p)) (sym is)

    apart : (other : ℕ) → Contains placed other → other ≢ node
    apart other stands same = ready.missing (subst (λ (m : ℕ). Contains placed m) same stands)

    far : (other : ℕ) → ¬ Contains (placed ++ node ∷ []) other → other ≢ node
    far other out same = out (subst (λ (m : ℕ). Contains (placed ++ node ∷ []) m) (sym same) (Contains-push placed node))

    -- a node whose sources are placed gives the same over both
    same_sources : (other : ℕ) → ((source : ℕ) → Contains (sources_of (node_wires session.wires) other) source → Contains placed source) → reaching.AreAlike session.wires other frames others
    same_sources other stand source has = sym (turned.stay source (apart source (stand source has)))

    module _ (states : ℕ → State) (have : HaveStates state old states) where
      state_here : state before ≡ states node
      state_here = ap state is ∙ played.waits states have node before there ready.missing

      given_same : (other : ℕ) → ((source : ℕ) → Contains (sources_of (node_wires session.wires) other) source → Contains placed source)
          → given scene_here states values input frames other ≡ given scene_here states values input others other
      given_same other stand = given_alike scene_here other states states values values input frames others (record { state = refl; value = refl; sources = same_sources other stand })

      stepped_same : (other : ℕ) → ((source : ℕ) → Contains (sources_of (node_wires session.wires) other) source → Contains placed source)
          → stepped scene_here states values input frames other ≡ stepped scene_here states values input others other
      stepped_same other stand = stepped_alike scene_here other states states values values input frames others (record { state = refl; value = refl; sources = same_sources other stand })

      gave_here : others node ≡ given scene_here states values input others node
      gave_here =
          let main = main_mix session.channels session.wires input frames (AtNode node) in
          let aux = aux_mix session.channels session.wires input frames (AtNode node) in
          turned.gave
          ∙ ap (λ (c : Class). c.output session.channels (state before) (values node) main aux) (sym class_here)
          ∙ ap (λ (s : State). (class_at scene_here node).output session.channels s (values node) main aux) state_here
          ∙ given_same node ready.sources

      moved_here : state after ≡ stepped scene_here states values input others node
      moved_here =
          let main = main_mix session.channels session.wires input frames (AtNode node) in
          let aux = aux_mix session.channels session.wires input frames (AtNode node) in
          turned.moved
          ∙ ap (λ (c : Class). c.next session.channels (state before) (values node) main aux) (sym class_here)
          ∙ ap (λ (s : State). (class_at scene_here node).next session.channels s (values node) main aux) state_here
          ∙ stepped_same node ready.sources

      gave_more : (other : ℕ) → Contains (placed ++ node ∷ []) other → others other ≡ given scene_here states values input others other
      gave_more other stands = elim (Contains-push_cases placed node other stands) [
        | inl was ↦ turned.stay other (apart other was) ∙ played.gave states have other was ∙ given_same other (λ source has. played.behind other source was has)
        | inr same ↦ subst (λ (m : ℕ). others m ≡ given scene_here states values input others m) same gave_here
      ]

      moved_more : (other : ℕ) (d : P) → other < length processors → Contains (placed ++ node ∷ []) other
          → state (get_or (set processors node after) other d) ≡ stepped scene_here states values input others other
      moved_more other d lt stands = elim (Contains-push_cases placed node other stands) [
        | inl was ↦
            ap state (get_or-set_other processors node other after d (apart other was)) ∙ played.moved states have other d lt was
            ∙ stepped_same other (λ source has. played.behind other source was has)
        | inr same ↦ subst (λ (m : ℕ). state (get_or (set processors node after) m d) ≡ stepped scene_here states values input others m) same
            (ap state (get_or-set_same processors node after d there) ∙ moved_here)
      ]

    pub played_more : ArePlayed (placed ++ node ∷ []) (set processors node after) others
    played_more = record {
      alike = alike_more code phase setup old processors (set processors node after) played.alike (alike_set code phase setup processors node before after is turned.code_is turned.phase_is turned.setup_is);
      behind = λ other source stands has. Contains-append_left placed (node ∷ []) source (elim (Contains-push_cases placed node other stands) [
        | inl was ↦ played.behind other source was has
        | inr same ↦ ready.sources source (subst (λ (m : ℕ). Contains (sources_of (node_wires session.wires) m) source) (sym same) has)
      ]);
      waits = λ states have other d lt out.
          let size = length-set processors node after in
          ap state (get_or-set_other processors node other after d (far other out))
          ∙ played.waits states have other d (omega (arith, size, lt)) (λ stands. out (Contains-append_left placed (node ∷ []) other stands));
      gave = λ states have other stands. gave_more states have other stands;
      moved = λ states have other d lt stands. let size = length-set processors node after in moved_more states have other d (omega (arith, size, lt)) stands;
    }

  -- Where all stand, the frames fit together, and each node went on.
  pub fit_together : (placed : List ℕ) (processors : List P) (frames : ℕ → Frame) → ArePlayed placed processors frames → ((node : ℕ) → node < length session.nodes → Contains placed node) → length old ≡ length session.nodes
      → (states : ℕ → State) → HaveStates state old states → IsConsistent scene_here states values input frames
  fit_together placed processors frames played all long states have =
      λ node lt. let size = length-map old code in played.gave states have node (all node (omega (arith, lt, size, long)))

  pub all_moved : (placed : List ℕ) (processors : List P) (frames : ℕ → Frame) → ArePlayed placed processors frames → ((node : ℕ) → node < length session.nodes → Contains placed node) → length old ≡ length session.nodes
      → (states : ℕ → State) → HaveStates state old states → HaveStates state processors (stepped scene_here states values input frames)
  all_moved placed processors frames played all long states have =
      λ node d lt. let size = alike_long code phase setup old processors played.alike in played.moved states have node d lt (all node (omega (arith, lt, size, long)))

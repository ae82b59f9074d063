-- Parts, and an engine of them.
use Rattle.std.proofs.Common.{◌≡◌, ◌∙◌, ℕ, zero, suc, ◌<◌, List, [], ◌∷◌, length, map, drop, sym, ap, subst, arith}
use Rattle.std.specs.Prelude.{slice_index_or}
use Rattle.std.proofs.lemmas.List.{length-map, length-drop, length-take-le}
use Rattle.std.proofs.lemmas.List.Sums.{sum_by-cons}
use Rattle.vh_component.specs.declared.setup.Phase.{Phase}
use Rattle.vh_component.specs.declared.setup.Setup.{Setup}
use Rattle.vh_component.specs.declared.states.Processing.{Processing}
use Rattle.vh_component.specs.States.{of_processing}
use Rattle.vh_counted.specs.Held.{value_of_opened}
use Rattle.vh_params.specs.Nodes.{Node, node_at, nodes_of}
use Rattle.vh_plugin.specs.Class.{Class, State, param_of}
use Rattle.vh_session.specs.Content.{Content}
use Rattle.vh_meaning.specs.Scene.{Scene, node_count, params_at, firsts_at, by_node}
use Rattle.vh_engine.specs.declared.parts.Parts.{Parts}
use Rattle.vh_engine.specs.Kept.{Kept, IsSameEngine}
use Rattle.vh_engine.specs.Parts.{AreParts, IsFresh}
use Rattle.vh_engine.specs.Staged.{of_all}
use Rattle.vh_engine.proofs.Rooms.{same_scene}
use Rattle.vh_stage.specs.Parameters.{param_count}
use Rattle.vh_stage.specs.Playing.{HasClasses}

meant_long : {P A : Type 0} (meant : P → A) (processors : List (Processing P)) → length (of_all meant processors) ≡ length processors
meant_long meant processors = length-map processors (λ processor. meant (value_of_opened (of_processing processor)))

some_of : {A : Type 0} (xs : List A) (k : ℕ) → k < length xs → A
some_of [] k lt = absurd (omega (arith, lt))
some_of (x ∷ xs) k lt = x

-- no call changes the classes
pub same_classes : (class_of : ℕ → Class) (old new : Kept) → IsSameEngine old new → HasClasses class_of old → HasClasses class_of new
same_classes class_of old new same has =
    let scene = same_scene class_of old new same in
    let nodes : new.session.nodes ≡ old.session.nodes = ap (λ (session : Content). session.nodes) same.session in
    record {
      count = ap (λ (s : Scene). node_count s) scene ∙ has.count ∙ sym (ap length nodes);
      params = λ node lt.
          ap (λ (s : Scene). params_at s node) scene
          ∙ has.params node (subst (λ (ns : List Node). node < length ns) nodes lt)
          ∙ sym (ap (λ (ns : List Node). map param_of (node_at ns node).params) nodes);
      firsts = λ node lt.
          ap (λ (s : Scene). length (firsts_at s node)) scene
          ∙ has.firsts node (subst (λ (ns : List Node). node < length ns) nodes lt)
          ∙ sym (ap (λ (ns : List Node). length (node_at ns node).params) nodes);
    }

-- each node has a first value for each parameter, where there are as many
firsts_long : (class_of : ℕ → Class) (codes : List ℕ) (nodes : List Node) (values : List ℕ) (node : ℕ) → ((k : ℕ) → k < length codes → length (class_of (slice_index_or codes k 0)).params ≡ length (node_at nodes k).params)
    → length codes ≡ length nodes → length values ≡ param_count nodes → node < length codes → length (slice_index_or (by_node class_of codes values) node []) ≡ length (node_at nodes node).params
firsts_long class_of [] nodes values node have long flat lt = absurd (omega (arith, lt))
firsts_long class_of (code ∷ codes) [] values node have long flat lt = absurd (omega (arith, long))
firsts_long class_of (code ∷ codes) (n ∷ nodes) values zero have long flat lt =
    let here : length (class_of code).params ≡ length n.params = have 0 (omega arith) in
    let sums = sum_by-cons (λ (x : Node). length x.params) n nodes in
    length-take-le (length (class_of code).params) values (omega (arith, here, flat, sums)) ∙ here
firsts_long class_of (code ∷ codes) (n ∷ nodes) values (suc node) have long flat lt =
    let count = length (class_of code).params in
    let here : count ≡ length n.params = have 0 (omega arith) in
    let sums = sum_by-cons (λ (x : Node). length x.params) n nodes in
    let dropped = length-drop count values in
    firsts_long class_of codes nodes (drop count values) node (λ k below. have (suc k) (omega (arith, below))) (omega (arith, long)) (omega (arith, flat, here, sums, dropped)) (omega (arith, lt))

module _ {P : Type 0} (class_of : ℕ → Class) (code : P → ℕ) (state : P → State) (values : P → List ℕ) (phase : P → Phase) (setup : P → Setup) (parts : Parts P) (max : ℕ)
    (are : AreParts class_of code state values phase setup parts max) where
  params_of_node : (node : ℕ) → node < length (nodes_of parts.session.nodes) → (class_of (slice_index_or (of_all code parts.processors.items) node 0)).params ≡ map param_of (node_at (nodes_of parts.session.nodes) node).params
  params_of_node node lt =
      let long = are.long in
      let phases = meant_long phase parts.processors.items in
      let setups = meant_long setup parts.processors.items in
      (are.each node 0 (some_of (of_all phase parts.processors.items) node (omega (arith, lt, long, phases))) (some_of (of_all setup parts.processors.items) node (omega (arith, lt, long, setups))) (omega (arith, lt, long))).params

  -- A fresh engine's classes have the parameters that the session tells of.
  pub has_classes : (calls : P → ℕ) (answers : ℕ) (kept : Kept) → IsFresh class_of code calls parts max answers kept → HasClasses class_of kept
  has_classes calls answers kept fresh =
      let long = are.long in
      let codes = meant_long code parts.processors.items in
      let nodes : kept.session.nodes ≡ nodes_of parts.session.nodes = ap (λ (session : Content). session.nodes) fresh.session in
      let count = ap length nodes in
      let coded = ap length fresh.codes in
      let counted : length kept.codes ≡ length kept.session.nodes = omega (arith, count, coded, codes, long) in
      let given : (node : ℕ) → node < length kept.session.nodes → (class_of (slice_index_or kept.codes node 0)).params ≡ map param_of (node_at kept.session.nodes node).params = λ node lt.
      ap (λ (cs : List ℕ). (class_of (slice_index_or cs node 0)).params) fresh.codes
      ∙ params_of_node node (omega (arith, lt, count))
      ∙ ap (λ (ns : List Node). map param_of (node_at ns node).params) (sym nodes) in
      record {
        count = counted;
        params = given;
        firsts = λ node lt.
            firsts_long class_of kept.codes kept.session.nodes kept.firsts node
            (λ k below. ap length (given k (omega (arith, below, counted))) ∙ length-map (node_at kept.session.nodes k).params param_of)
            counted (ap length fresh.firsts ∙ are.flat ∙ ap param_count (sym nodes)) (omega (arith, lt, counted));
      }

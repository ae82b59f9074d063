-- Parts, and an engine of them.
use Rattle.std.proofs.Common.{◌≡◌, ◌∙◌, ℕ, ◌<◌, ◌≤◌, ◌^◌, List, [], ◌∷◌, length, map, refl, sym, ap, subst, arith}
use Rattle.std.specs.Prelude.{All, nat_le, slice_index_or}
use Rattle.std.proofs.lemmas.Bool.{and_parts, leb-true}
use Rattle.std.proofs.lemmas.List.{length-map}
use Rattle.vh_component.specs.declared.setup.Phase.{Phase}
use Rattle.vh_component.specs.declared.setup.Phase.TheVariants.{Processing as AtProcessing}
use Rattle.vh_component.specs.declared.setup.Setup.{Setup}
use Rattle.vh_component.specs.declared.states.Processing.{Processing}
use Rattle.vh_component.specs.States.{of_processing}
use Rattle.vh_counted.specs.Held.{value_of_opened}
use Rattle.vh_params.specs.Nodes.{Node, node_at, nodes_of}
use Rattle.vh_plugin.specs.Class.{Class, State, Param, param_of}
use Rattle.vh_session.specs.declared.session.Session.{Session}
use Rattle.vh_session.specs.Content.{Content}
use Rattle.vh_meaning.specs.Scene.{Scene, node_count, params_at}
use Rattle.vh_engine.specs.declared.parts.Parts.{Parts}
use Rattle.vh_engine.specs.Kept.{Kept, scene_in, IsSameEngine}
use Rattle.vh_engine.specs.Parts.{AreParts, IsFresh}
use Rattle.vh_engine.specs.Staged.{of_all}
use Rattle.vh_engine.proofs.Rooms.{same_scene}
use Rattle.engine_part.specs.Playing.{HasClasses}
use Rattle.engine_part.proofs.Banded.{meant_long}

some_of : {A : Type 0} (xs : List A) (k : ℕ) → k < length xs → A
some_of [] k lt = absurd (omega (arith, lt))
some_of (x ∷ xs) k lt = x

-- a session has one channel or two, and at most 2^24 frames
pub sizes_of : (session : Session) → (1 ≤ session.channels) × (session.channels ≤ 2) × (session.length ≤ 2 ^ 24)
sizes_of session =
    let channels = and_parts (nat_le 1 session.channels) (nat_le session.channels 2) session.keeps.channels in
    let frames = and_parts (nat_le 0 session.length) (nat_le session.length 16777216) session.keeps.frames in
    (leb-true 1 session.channels channels.0, leb-true session.channels 2 channels.1, leb-true session.length 16777216 frames.1)

-- no call changes the classes
pub same_classes : (class_of : ℕ → Class) (old new : Kept) → IsSameEngine old new → HasClasses class_of old → HasClasses class_of new
same_classes class_of old new same has =
    let scene = same_scene class_of old new same in
    let nodes : new.session.nodes ≡ old.session.nodes = ap (λ (session : Content). session.nodes) same.session in
    record {
      count = ap (λ (s : Scene). node_count s) scene ∙ has.count ∙ sym (ap length nodes);
      params = λ node lt.
          ap (λ (s : Scene). params_at s node) scene
          ∙ has.params node (subst (λ (ns : List Node). node < length ns) nodes lt)
          ∙ sym (ap (λ (ns : List Node). map param_of (node_at ns node).params) nodes);
    }

module _ {P : Type 0} (class_of : ℕ → Class) (code : P → ℕ) (state : P → State) (values : P → List ℕ) (phase : P → Phase) (setup : P → Setup) (parts : Parts P) (max : ℕ)
    (are : AreParts class_of code state values phase setup parts max) where
  -- each of the parts' processors processes
  pub all_processing : All (λ at. at ≡ AtProcessing) (of_all phase parts.processors.items)
  all_processing node d lt =
      let long = meant_long phase parts.processors.items in
      let setups = meant_long setup parts.processors.items in
      let within : node < length parts.processors.items = omega (arith, lt, long) in
      (are.each node 0 d (some_of (of_all setup parts.processors.items) node (omega (arith, within, setups))) within).phase_is

  params_of_node : (node : ℕ) → node < length (nodes_of parts.session.nodes) → (class_of (slice_index_or (of_all code parts.processors.items) node 0)).params ≡ map param_of (node_at (nodes_of parts.session.nodes) node).params
  params_of_node node lt =
      let long = are.long in
      let phases = meant_long phase parts.processors.items in
      let setups = meant_long setup parts.processors.items in
      (are.each node 0 (some_of (of_all phase parts.processors.items) node (omega (arith, lt, long, phases))) (some_of (of_all setup parts.processors.items) node (omega (arith, lt, long, setups))) (omega (arith, lt, long))).params

  -- A fresh engine's classes have the parameters that the session tells of.
  pub has_classes : (calls : P → ℕ) (answers : ℕ) (kept : Kept) → IsFresh class_of code calls parts max answers kept → HasClasses class_of kept
  has_classes calls answers kept fresh =
      let long = are.long in
      let codes = meant_long code parts.processors.items in
      let nodes : kept.session.nodes ≡ nodes_of parts.session.nodes = ap (λ (session : Content). session.nodes) fresh.session in
      let count = ap length nodes in
      let coded = ap length fresh.codes in
      record {
        count = omega (arith, count, coded, codes, long);
        params = λ node lt.
            ap (λ (cs : List ℕ). (class_of (slice_index_or cs node 0)).params) fresh.codes
            ∙ params_of_node node (omega (arith, lt, count))
            ∙ ap (λ (ns : List Node). map param_of (node_at ns node).params) (sym nodes);
      }

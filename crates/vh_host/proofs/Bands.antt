-- A band of a session as an engine's parts.
use Rattle.std.proofs.Common.{◌≡◌, ◌∙◌, ℕ, ◌+◌, ◌<◌, List, [], length, get_or, Option, sym, ap, arith}
use Rattle.std.specs.Prelude.{slice_index_or, sum_by}
use Rattle.std.proofs.lemmas.List.{length-map, get_or_default}
use Rattle.std.proofs.lemmas.List.FromFn.{get_or-map-range_with_len, length-map-range_with_len}
use Rattle.vh_component.specs.declared.states.Processing.{Processing}
use Rattle.vh_component.specs.States.{of_processing}
use Rattle.vh_counted.specs.Held.{value_of_opened}
use Rattle.vh_params.specs.declared.param.ParamInfo.{ParamInfo}
use Rattle.vh_params.specs.Nodes.{Node, no_node, node_at}
use Rattle.vh_plugin.specs.Class.{Class, param_of}
use Rattle.vh_session.specs.declared.session.Session.{Session}
use Rattle.vh_session.specs.Names.{content_of}
use Rattle.vh_session.specs.Content.{Content}
use Rattle.vh_preset.specs.Contents.{Contents}
use Rattle.vh_meaning.specs.Scene as scenes
use Rattle.vh_engine.specs.Parts.{AreParts}
use Rattle.vh_engine.specs.Staged.{of_all}
use Rattle.vh_instance.specs.Band.{ProcessorMeaning, ControllerMeaning, Plan, IsBand, Suits, code_at, class_at, by_node}
use Rattle.vh_instance.specs.Plan.{preset_at}
use Rattle.vh_instance.specs.Presets.{values_under}
use Rattle.vh_instance.specs.Firsts.{firsts_at, first_values}
use Rattle.vh_instance.specs.declared.band.Band.{Band}
use Rattle.vh_instance.proofs.Settings.{lines_long}
use Rattle.vh_instance.proofs.Lawful.{under_long}
use Rattle.vh_host.specs.Known.{Known, plan_of}
use Rattle.vh_host.proofs.Split.{split_again, flat_length}
use Rattle.vh_host.proofs.Wires.{side_reached}
use Rattle.vh_host.proofs.Entries.{HasNodes}

-- each node's class has the node's parameters
abbrev pub Suited : Plan → Type 0
Suited plan = (node : ℕ) → node < length plan.content.nodes → Suits plan node

params_long : (plan : Plan) (node : ℕ) → length (class_at plan node).params ≡ length (firsts_at plan node)
params_long plan node =
    let class : Class = class_at plan node in
    sym (lines_long plan.content.firsts node class.params (values_under class (preset_at plan node)) (under_long class (preset_at plan node)))

-- the first values of a scene's node
firsts_split : (plan : Plan) → Suited plan → (node : ℕ) → node < length plan.content.nodes
    → slice_index_or (scenes.by_node plan.class_of (by_node (length plan.content.nodes) (code_at plan)) (first_values plan)) node [] ≡ firsts_at plan node
firsts_split plan suited node lt =
    let count : ℕ = length plan.content.nodes in
    let split = split_again plan.class_of (code_at plan) (firsts_at plan) 0 count (λ k le within. params_long plan k) in
    ap (λ lists. get_or lists node []) split ∙ get_or-map-range_with_len (firsts_at plan) 0 count node node [] lt (omega arith)

first_flat : (plan : Plan) → Suited plan → length (first_values plan) ≡ sum_by (λ (node : Node). length node.params) plan.content.nodes
first_flat plan suited = flat_length (firsts_at plan) 0 plan.content.nodes (λ k d lt.
    let params : List ParamInfo = (node_at plan.content.nodes k).params in
    let z : 0 + k ≡ k = omega arith in
    ap (λ n. length (firsts_at plan n)) z ∙ sym (params_long plan k) ∙ ap length (suited k lt).params ∙ length-map params param_of
    ∙ ap (λ (node : Node). length node.params) (get_or_default plan.content.nodes k no_node d lt))

-- the scene of these codes has the nodes
pub has_nodes : (plan : Plan) → Suited plan → HasNodes (scenes.scene_of plan.class_of (by_node (length plan.content.nodes) (code_at plan)) (first_values plan) plan.content) plan.content.nodes
has_nodes plan suited =
    let count : ℕ = length plan.content.nodes in
    record {
      count = length-map-range_with_len (code_at plan) 0 count;
      params = λ node lt. ap (λ c. (plan.class_of c).params) (get_or-map-range_with_len (code_at plan) 0 count node node 0 lt (omega arith)) ∙ (suited node lt).params;
    }

-- of each processor what is meant of it is what a list has at its node
meant_at : {P A : Type 0} (meant : P → A) (processors : List (Processing P)) (count : ℕ) (of : ℕ → A) (node : ℕ) (d : A)
    → of_all meant processors ≡ by_node count of → node < count → slice_index_or (of_all meant processors) node d ≡ of node
meant_at meant processors count of node d is lt = ap (λ xs. get_or xs node d) is ∙ get_or-map-range_with_len of 0 count node node d lt (omega arith)

-- a band is what an engine renders with
pub are_parts : {P C : Type 0} (processing : ProcessorMeaning P) (controlling : ControllerMeaning C) (known : Known) (session : Session) (presets : List (Option Contents)) (max : ℕ) (band : Band P C)
    → IsBand processing controlling (plan_of known (content_of session) presets max) band
    → AreParts known.class_of processing.code processing.state processing.values processing.phase processing.setup (record { session = session; processors = band.processors; first = band.first }) max
are_parts {P = P} processing controlling known session presets max band is =
    let content : Content = content_of session in
    let plan : Plan = plan_of known content presets max in
    let count : ℕ = length content.nodes in
    let components = is.components in
    let long : length band.processors.items ≡ count = sym (length-map band.processors.items _) ∙ ap length components.codes ∙ length-map-range_with_len (code_at plan) 0 count in
    record {
      long = long;
      flat = ap length is.first ∙ first_flat plan is.suited;
      each = λ node c p s lt.
          let there : node < count = omega (arith, lt, long) in
          let suits = is.suited node there in
          let code_is = meant_at processing.code band.processors.items count (code_at plan) node c components.codes there in
          let phased : node < length (of_all processing.phase band.processors.items) = let e = length-map band.processors.items (λ (x : Processing P). processing.phase (value_of_opened (of_processing x))) in omega (arith, lt, e) in
          let set : node < length (of_all processing.setup band.processors.items) = let e = length-map band.processors.items (λ (x : Processing P). processing.setup (value_of_opened (of_processing x))) in omega (arith, lt, e) in
          let setup = components.setups node s set in
          record {
            params = ap (λ k. (known.class_of k).params) code_is ∙ suits.params;
            starts = meant_at processing.state band.processors.items count (λ n. (class_at plan n).start) node [] components.states there ∙ ap (λ k. (known.class_of k).start) (sym code_is);
            first = meant_at processing.values band.processors.items count (firsts_at plan) node [] components.values there
                ∙ sym (firsts_split plan is.suited node there)
                ∙ ap (λ (codes : List ℕ). slice_index_or (scenes.by_node known.class_of codes (first_values plan)) node []) (sym components.codes)
                ∙ ap (λ (values : List ℕ). slice_index_or (scenes.by_node known.class_of (of_all processing.code band.processors.items) values) node []) (sym is.first);
            phase_is = components.phases node p phased;
            channels_are = setup.channels;
            most = let e = setup.max in omega (arith, e);
            has_aux = λ some. ap (λ k. (known.class_of k).aux) code_is ∙ suits.side (side_reached content.wires node some);
          };
    }

-- A band of a session as an engine's parts, and back.
use Rattle.std.proofs.Common.{◌≡◌, ◌∙◌, ℕ, zero, suc, ◌+◌, ◌<◌, ◌≤◌, List, [], ◌∷◌, ◌++◌, length, map, take, drop, get_or, refl, sym, ap, subst, arith}
use Rattle.std.specs.Prelude.{slice_index_or, sum_by}
use Rattle.std.specs.List.{concat, flat_map, range_with_len}
use Rattle.std.proofs.Math.Seq.{take-append_seam, drop-append_seam}
use Rattle.std.proofs.lemmas.List.{length-map, length-append, get_or_default}
use Rattle.std.proofs.lemmas.List.FromFn.{get_or-map-range_with_len, length-map-range_with_len}
use Rattle.std.proofs.lemmas.List.Sums.{sum_by-cons}
use Rattle.vh_component.specs.declared.states.Processing.{Processing}
use Rattle.vh_component.specs.States.{of_processing}
use Rattle.vh_counted.specs.Held.{value_of_opened}
use Rattle.vh_counted.specs.declared.numbers.Numbers.{Numbers}
use Rattle.vh_counted.specs.declared.object.Counted.{Counted}
use Rattle.vh_counted.specs.declared.object.Object.{Object}
use Rattle.vh_params.specs.declared.param.ParamInfo.{ParamInfo}
use Rattle.vh_params.specs.Nodes.{Node, no_node, node_at, nodes_of}
use Rattle.vh_plugin.specs.Class.{Class, param_of}
use Rattle.vh_session.specs.declared.session.Session.{Session}
use Rattle.vh_session.specs.Names.{content_of}
use Rattle.vh_session.specs.Content.{Content}
use Rattle.vh_meaning.specs.Scene as scenes
use Rattle.vh_engine.specs.Parts.{AreParts}
use Rattle.vh_engine.specs.Staged.{of_all, holders_of}
use Rattle.vh_instance.specs.Band.{ProcessorMeaning, ControllerMeaning, Suits, IsHeld, by_node, objects_of, of_openers}
use Rattle.vh_instance.specs.Plan.{Plan, code_at, class_at, preset_at}
use Rattle.vh_instance.specs.Presets.{values_under}
use Rattle.vh_instance.specs.Firsts.{firsts_at, first_values}
use Rattle.vh_instance.specs.Seats.{Seat, processor_seat, AreHeld}
use Rattle.vh_instance.specs.declared.band.Band.{Band}
use Rattle.vh_instance.proofs.Settings.{lines_long}
use Rattle.vh_instance.proofs.Lawful.{under_long}
use Rattle.vh_hands.specs.Following.{HaveParams}
use Rattle.vh_live.specs.Bands.{IsMadeFor, values_in}
use Rattle.vh_live.proofs.Wires.{side_reached}

-- ---- a flat list of values, node by node

-- a list of lists that is joined is split again, where each class has as many parameters as its node has values
split_again : (class_of : ℕ → Class) (code : ℕ → ℕ) (firsts : ℕ → List ℕ) (start count : ℕ)
    → ((k : ℕ) → start ≤ k → k < start + count → length (class_of (code k)).params ≡ length (firsts k))
    → scenes.by_node class_of (map code (range_with_len start count)) (flat_map firsts (range_with_len start count)) ≡ map firsts (range_with_len start count)
split_again class_of code firsts start zero long = refl
split_again class_of code firsts start (suc count) long =
    let rest : List ℕ = flat_map firsts (range_with_len (start + 1) count) in
    let codes : List ℕ = map code (range_with_len (start + 1) count) in
    let here : length (class_of (code start)).params ≡ length (firsts start) = long start (omega arith) (omega arith) in
    let front : take (length (class_of (code start)).params) (firsts start ++ rest) ≡ firsts start = ap (λ n. take n (firsts start ++ rest)) here ∙ take-append_seam (firsts start) rest in
    let back : drop (length (class_of (code start)).params) (firsts start ++ rest) ≡ rest = ap (λ n. drop n (firsts start ++ rest)) here ∙ drop-append_seam (firsts start) rest in
    ap (λ xs. xs ∷ scenes.by_node class_of codes (drop (length (class_of (code start)).params) (firsts start ++ rest))) front
    ∙ ap (λ ys. firsts start ∷ scenes.by_node class_of codes ys) back
    ∙ ap (λ xs. firsts start ∷ xs) (split_again class_of code firsts (start + 1) count (λ k le lt. long k (omega (arith, le)) (omega (arith, lt))))

-- it has as many values as all nodes have parameters
flat_length : (firsts : ℕ → List ℕ) (start : ℕ) (nodes : List Node)
    → ((k : ℕ) (d : Node) → k < length nodes → length (firsts (start + k)) ≡ length (get_or nodes k d).params)
    → length (flat_map firsts (range_with_len start (length nodes))) ≡ sum_by (λ node. length node.params) nodes
flat_length firsts start [] long = refl
flat_length firsts start (node ∷ nodes) long =
    let rest : List ℕ = flat_map firsts (range_with_len (start + 1) (length nodes)) in
    let e = length-append (firsts start) rest in
    let here = long 0 node (omega arith) in
    let same : length (firsts (start + 0)) ≡ length (firsts start) = let z : start + 0 ≡ start = omega arith in ap (λ n. length (firsts n)) z in
    let later = flat_length firsts (start + 1) nodes (λ k d lt. let z : start + 1 + k ≡ start + suc k = omega arith in ap (λ n. length (firsts n)) z ∙ long (suc k) d (omega (arith, lt))) in
    let sums = sum_by-cons (λ (x : Node). length x.params) node nodes in
    omega (arith, e, here, same, later, sums)

concat_map : {A : Type 0} (f : A → List ℕ) (xs : List A) → concat (map f xs) ≡ flat_map f xs
concat_map f [] = refl
concat_map f (x ∷ xs) = ap (λ (l : List ℕ). f x ++ l) (concat_map f xs)

-- ---- an engine's parts

-- each node's class has the node's parameters
abbrev Suited : Plan → Type 0
Suited plan = (node : ℕ) → node < length plan.content.nodes → Suits plan node

params_long : (plan : Plan) (node : ℕ) → length (class_at plan node).params ≡ length (firsts_at plan node)
params_long plan node =
    let class : Class = class_at plan node in
    sym (lines_long plan.content.firsts node class.params (values_under class (preset_at plan node)) (under_long class (preset_at plan node)))

-- the first values of a scene's node
firsts_split : (plan : Plan) → Suited plan → (node : ℕ) → node < length plan.content.nodes
    → slice_index_or (scenes.by_node plan.class_of (by_node (length plan.content.nodes) (code_at plan)) (first_values plan)) node [] ≡ firsts_at plan node
firsts_split plan suited node lt =
    let count : ℕ = length plan.content.nodes in
    let split = split_again plan.class_of (code_at plan) (firsts_at plan) 0 count (λ k le within. params_long plan k) in
    ap (λ lists. get_or lists node []) split ∙ get_or-map-range_with_len (firsts_at plan) 0 count node node [] lt (omega arith)

first_flat : (plan : Plan) → Suited plan → length (first_values plan) ≡ sum_by (λ (node : Node). length node.params) plan.content.nodes
first_flat plan suited = flat_length (firsts_at plan) 0 plan.content.nodes (λ k d lt.
    let params : List ParamInfo = (node_at plan.content.nodes k).params in
    let z : 0 + k ≡ k = omega arith in
    ap (λ n. length (firsts_at plan n)) z ∙ sym (params_long plan k) ∙ ap length (suited k lt).params ∙ length-map params param_of
    ∙ ap (λ (node : Node). length node.params) (get_or_default plan.content.nodes k no_node d lt))

-- of each processor what is meant of it is what a list has at its node
meant_at : {P A : Type 0} (meant : P → A) (processors : List (Processing P)) (count : ℕ) (of : ℕ → A) (node : ℕ) (d : A)
    → of_all meant processors ≡ by_node count of → node < count → slice_index_or (of_all meant processors) node d ≡ of node
meant_at meant processors count of node d is lt = ap (λ xs. get_or xs node d) is ∙ get_or-map-range_with_len of 0 count node node d lt (omega arith)

meant_long : {P A : Type 0} (meant : P → A) (processors : List (Processing P)) → length (of_all meant processors) ≡ length processors
meant_long meant processors = length-map processors (λ processor. meant (value_of_opened (of_processing processor)))

-- A band as it is made for a session, for blocks of at most so many frames.
module _ {P C : Type 0} (processing : ProcessorMeaning P) (controlling : ControllerMeaning C) (processed_by controlled_by : ℕ → Class) (session : Session) (band : Band P C)
    (made : IsMadeFor processing controlling processed_by controlled_by (content_of session) band) where
  abbrev content : Content
  content = content_of session

  abbrev plan : Plan
  plan = record { content = content; presets = made.presets; infos = made.infos; code = made.code; class_of = processed_by; max = made.max }

  abbrev processors : List (Processing P)
  processors = band.processors.items

  as_many : length processors ≡ length content.nodes
  as_many = sym (meant_long processing.code processors) ∙ ap length made.band_is.components.codes ∙ length-map-range_with_len (code_at plan) 0 (length content.nodes)

  -- An engine can be made of it, for blocks of no more frames.
  pub are_parts : (most : ℕ) → most ≤ made.max
      → AreParts processed_by processing.code processing.state processing.values processing.phase processing.setup (record { session = session; processors = band.processors; first = band.first }) most
  are_parts most less =
      let components = made.band_is.components in
      let suited = made.band_is.suited in
      let long = as_many in
      record {
        long = long;
        flat = ap length made.band_is.first ∙ first_flat plan suited;
        each = λ node c p s lt.
            let there : node < length content.nodes = omega (arith, lt, long) in
            let suits = suited node there in
            let code_is = meant_at processing.code processors (length content.nodes) (code_at plan) node c components.codes there in
            let phases = meant_long processing.phase processors in
            let setups = meant_long processing.setup processors in
            let setup = components.setups node s (omega (arith, lt, setups)) in
            record {
              params = ap (λ k. (processed_by k).params) code_is ∙ suits.params;
              starts = meant_at processing.state processors (length content.nodes) (λ n. (class_at plan n).start) node [] components.states there ∙ ap (λ k. (processed_by k).start) (sym code_is);
              first = meant_at processing.values processors (length content.nodes) (firsts_at plan) node [] components.values there
                  ∙ sym (firsts_split plan suited node there)
                  ∙ ap (λ (codes : List ℕ). slice_index_or (scenes.by_node processed_by codes (first_values plan)) node []) (sym components.codes)
                  ∙ ap (λ (values : List ℕ). slice_index_or (scenes.by_node processed_by (of_all processing.code processors) values) node []) (sym made.band_is.first);
              phase_is = components.phases node p (omega (arith, lt, phases));
              channels_are = setup.channels;
              most = let e = setup.max in omega (arith, e, less);
              has_aux = λ some. ap (λ k. (processed_by k).aux) code_is ∙ suits.side (side_reached content.wires node some);
            };
      }

  -- The holders of its objects are together whole.
  pub held : IsHeld band
  held = record { components = made.band_is.components.held; controllers = made.band_is.controllers.held }

  -- Its controllers have its first values.
  pub firsts_of_controllers : values_in controlling.values band ≡ band.first.items
  firsts_of_controllers = ap concat made.band_is.controllers.values ∙ concat_map (firsts_at plan) (range_with_len 0 (length content.nodes)) ∙ sym made.band_is.first

  -- The classes of its controllers have the session's parameters.
  pub have_params : HaveParams controlled_by (of_openers controlling.code band.edits.items) (nodes_of session.nodes)
  have_params =
      let codes = made.band_is.controllers.codes in
      let nodes = nodes_of session.nodes in
      record {
        size = ap length codes ∙ length-map-range_with_len (code_at plan) 0 (length nodes);
        params = λ node lt.
            let long : node < length (of_openers controlling.code band.edits.items) = let e = ap length codes ∙ length-map-range_with_len (code_at plan) 0 (length nodes) in omega (arith, e, lt) in
            ap (λ k. (controlled_by k).params) (ap (λ (l : List ℕ). get_or l node 0) codes ∙ get_or-map-range_with_len (code_at plan) 0 (length nodes) node node 0 lt (omega arith)) ∙ made.params node lt;
      }

-- ---- who holds the components
abbrev seat_of : Object × Numbers → Seat
seat_of holder = record { object = holder.0; numbers = holder.1 }

seats_by : {P : Type 0} (processors : List (Processing P)) → map processor_seat processors ≡ map seat_of (holders_of processors)
seats_by [] = refl
seats_by (processor ∷ processors) = ap (λ (l : List Seat). processor_seat processor ∷ l) (seats_by processors)

-- where others have what the processors had, the components are held as they were
pub still_held : {P : Type 0} (components : List (Counted P)) (old new : List (Processing P)) → AreHeld (objects_of components) (map processor_seat old ∷ []) → holders_of new ≡ holders_of old
    → AreHeld (objects_of components) (map processor_seat new ∷ [])
still_held components old new held same = subst (λ (l : List Seat). AreHeld (objects_of components) (l ∷ [])) (seats_by old ∙ ap (map seat_of) (sym same) ∙ sym (seats_by new)) held

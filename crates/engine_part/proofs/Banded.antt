-- A band, as an engine is made of it.
use Rattle.std.proofs.Common.{◌≡◌, ◌∙◌, ℕ, zero, suc, ◌+◌, ◌<◌, ◌≤◌, Bool, true, false, cond, List, [], ◌∷◌, ◌++◌, length, map, take, drop, get_or, refl, sym, ap, subst, arith}
use Rattle.std.specs.Prelude.{All, slice_index_or, sum_by, filter, ◌&&◌, ◌||◌, ◌==◌, not}
use Rattle.std.specs.List.{range_with_len, flat_map, list_any}
use Rattle.std.proofs.lemmas.Bool.{and_parts, eqb-true, eq-eqb}
use Rattle.std.proofs.lemmas.List.{length-map, length-append, take_at, drop_at, get_or_default}
use Rattle.std.proofs.lemmas.List.FromFn.{length-map-range_with_len, get_or-map-range_with_len}
use Rattle.std.proofs.lemmas.List.Sums.{sum_by-cons}
use Rattle.vh_component.specs.declared.setup.Phase.{Phase}
use Rattle.vh_component.specs.declared.setup.Setup.{Setup}
use Rattle.vh_component.specs.declared.states.Processing.{Processing}
use Rattle.vh_component.specs.States.{of_processing}
use Rattle.vh_counted.specs.Held.{value_of_opened, object_of_opened, numbers_of_opened}
use Rattle.vh_counted.specs.declared.numbers.Numbers.{Numbers}
use Rattle.vh_counted.specs.declared.object.Object.{Object}
use Rattle.vh_params.specs.declared.class.ClassInfo.{ClassInfo}
use Rattle.vh_params.specs.declared.param.ParamInfo.{ParamInfo}
use Rattle.vh_params.specs.Nodes.{Node, node_at, nodes_of, no_node}
use Rattle.vh_plugin.specs.Class.{Class, State, Param, param_of}
use Rattle.vh_session.specs.declared.session.Session.{Session}
use Rattle.vh_session.specs.declared.wire.End.{End}
use Rattle.vh_session.specs.declared.wire.End.TheVariants.{In, Out, Node as AtNode}
use Rattle.vh_session.specs.declared.wire.Wire.{Wire}
use Rattle.vh_session.specs.Content.{Content, reaches, sources_into}
use Rattle.vh_session.specs.Lines.{end_number}
use Rattle.vh_session.specs.Names.{content_of}
use Rattle.vh_meaning.specs.Scene.{by_node as values_by_node}
use Rattle.vh_engine.specs.declared.parts.Parts.{Parts}
use Rattle.vh_engine.specs.Parts.{AreParts}
use Rattle.vh_engine.specs.Staged.{of_all, holders_of}
use Rattle.vh_instance.specs.declared.band.Band.{Band}
use Rattle.vh_instance.specs.Plan.{Plan, plain_plan, code_at, class_at}
use Rattle.vh_instance.specs.Band.{ProcessorMeaning, ControllerMeaning, IsBand, by_node, has_side, is_node, objects_of}
use Rattle.vh_instance.specs.Firsts.{first_value, firsts_at, plain_at}
use Rattle.vh_instance.specs.Laws.{BeginPlain}
use Rattle.vh_instance.proofs.Plain.{plain_begins}
use Rattle.vh_instance.specs.Seats.{Seat, processor_seat, AreHeld}
use Rattle.engine_part.specs.declared.band.Rest.{Rest}
use Rattle.engine_part.specs.Whole.{IsWhole}

-- lists one after the other, with a class's parameters each
flat_node : (class_of : ℕ → Class) (codes : List ℕ) (of : ℕ → List ℕ) (from node : ℕ) → ((k : ℕ) → k < length codes → length (class_of (slice_index_or codes k 0)).params ≡ length (of (from + k))) → node < length codes
    → slice_index_or (values_by_node class_of codes (flat_map of (range_with_len from (length codes)))) node [] ≡ of (from + node)
flat_node class_of [] of from node same lt = absurd (omega (arith, lt))
flat_node class_of (code ∷ codes) of from zero same lt =
    let here : from + 0 ≡ from = omega arith in
    let long : length (of from) ≡ length (class_of code).params = ap (λ (n : ℕ). length (of n)) (sym here) ∙ sym (same 0 (omega arith)) in
    take_at (of from) (flat_map of (range_with_len (from + 1) (length codes))) (length (class_of code).params) long ∙ ap of (sym here)
flat_node class_of (code ∷ codes) of from (suc node) same lt =
    let here : from + 0 ≡ from = omega arith in
    let next : (from + 1) + node ≡ from + suc node = omega arith in
    let long : length (of from) ≡ length (class_of code).params = ap (λ (n : ℕ). length (of n)) (sym here) ∙ sym (same 0 (omega arith)) in
    ap (λ (l : List ℕ). slice_index_or (values_by_node class_of codes l) node []) (drop_at (of from) (flat_map of (range_with_len (from + 1) (length codes))) (length (class_of code).params) long)
    ∙ flat_node class_of codes of (from + 1) node (λ k less. same (suc k) (omega (arith, less)) ∙ (let after : from + suc k ≡ (from + 1) + k = omega arith in ap (λ (n : ℕ). length (of n)) after)) (omega (arith, lt))
    ∙ ap of next

-- and of as many as these
flat_long : {A : Type 0} (f : A → ℕ) (xs : List A) (of : ℕ → List ℕ) (from : ℕ) → ((k : ℕ) (d : A) → k < length xs → length (of (from + k)) ≡ f (slice_index_or xs k d)) → length (flat_map of (range_with_len from (length xs))) ≡ sum_by f xs
flat_long f [] of from same = refl
flat_long f (x ∷ xs) of from same =
    let here : from + 0 ≡ from = omega arith in
    let one : length (of from) ≡ f x = ap (λ (n : ℕ). length (of n)) (sym here) ∙ same 0 x (omega arith) in
    let rest = flat_long f xs of (from + 1) (λ k d less. (let after : (from + 1) + k ≡ from + suc k = omega arith in ap (λ (n : ℕ). length (of n)) after) ∙ same (suc k) d (omega (arith, less))) in
    let both = length-append (of from) (flat_map of (range_with_len (from + 1) (length xs))) in
    let sums = sum_by-cons f x xs in
    omega (arith, one, rest, both, sums)

-- ---- an aux wire that reaches a node

numbered : (node : ℕ) (to : End) → (end_number to == (2 + node)) ≡ true → is_node node to ≡ true
numbered node In same = let is = eqb-true 0 (2 + node) same in absurd (omega (arith, is))
numbered node Out same = let is = eqb-true 1 (2 + node) same in absurd (omega (arith, is))
numbered node (AtNode number) same = let is = eqb-true (2 + number) (2 + node) same in eq-eqb number node (omega (arith, is))

later_true : (b rest : Bool) → rest ≡ true → (b || rest) ≡ true
later_true true rest is = refl
later_true false rest is = is

side_of : (wires : List Wire) (node : ℕ) → 0 < length (sources_into wires (AtNode node) true) → has_side wires node ≡ true
side_of [] node some = absurd (omega (arith, some))
side_of (wire ∷ wires) node some =
    let others = filter (reaches (AtNode node) true) wires in
    elim (reaches (AtNode node) true wire) as (λ t. reaches (AtNode node) true wire ≡ t → 0 < length (map (λ (w : Wire). w.from) (cond t (wire ∷ others) others)) → has_side (wire ∷ wires) node ≡ true) [
      | true ↦ λ test more.
          let parts = and_parts _ _ test in
          ap (λ (b : Bool). (b && wire.aux) || has_side wires node) (numbered node wire.to parts.0) ∙ ap (λ (b : Bool). b || has_side wires node) parts.1
      | false ↦ λ test more. later_true (is_node node wire.to && wire.aux) (has_side wires node) (side_of wires node more)
    ] refl some

-- ---- parts

at_node : {A : Type 0} (xs : List A) (of : ℕ → A) (count node : ℕ) (d : A) → xs ≡ by_node count of → node < count → slice_index_or xs node d ≡ of node
at_node xs of count node d same lt = ap (λ l. slice_index_or l node d) same ∙ get_or-map-range_with_len of 0 count node node d lt (omega arith)

pub meant_long : {P A : Type 0} (meant : P → A) (processors : List (Processing P)) → length (of_all meant processors) ≡ length processors
meant_long meant processors = length-map processors (λ processor. meant (value_of_opened (of_processing processor)))

-- a band of a session, and the classes of its nodes
module _ {P C : Type 0} (processing : ProcessorMeaning P) (controlling : ControllerMeaning C) (class_of : ℕ → Class) (infos : List ClassInfo) (code_of : ℕ → ℕ) (session : Session) (max : ℕ) (band : Band P C)
    (is : IsBand processing controlling (plain_plan infos code_of class_of (content_of session) max) band) where
  abbrev plan : Plan
  plan = plain_plan infos code_of class_of (content_of session) max

  begins : BeginPlain plan
  begins = plain_begins processing controlling infos code_of class_of session max band is

  as_many : length band.processors.items ≡ length (nodes_of session.nodes)
  as_many = sym (meant_long processing.code band.processors.items) ∙ ap length is.components.codes ∙ length-map-range_with_len (code_at plan) 0 (length (nodes_of session.nodes))

  code_is : (node c : ℕ) → node < length (nodes_of session.nodes) → slice_index_or (of_all processing.code band.processors.items) node c ≡ code_at plan node
  code_is node c lt = at_node (of_all processing.code band.processors.items) (code_at plan) (length (nodes_of session.nodes)) node c is.components.codes lt

  params_are : (node c : ℕ) → node < length (nodes_of session.nodes) → (class_of (slice_index_or (of_all processing.code band.processors.items) node c)).params ≡ map param_of (node_at (nodes_of session.nodes) node).params
  params_are node c lt = ap (λ (code : ℕ). (class_of code).params) (code_is node c lt) ∙ (is.suited node lt).params

  firsts_long : (node : ℕ) → length (plain_at (content_of session) node) ≡ length (node_at (nodes_of session.nodes) node).params
  firsts_long node = length-map (node_at (nodes_of session.nodes) node).params (λ (param : ParamInfo). first_value (content_of session).firsts node (param_of param) param.first)

  firsts_are : (node : ℕ) → node < length (nodes_of session.nodes)
      → slice_index_or (values_by_node class_of (of_all processing.code band.processors.items) band.first.items) node [] ≡ plain_at (content_of session) node
  firsts_are node lt =
      let codes = of_all processing.code band.processors.items in
      let of = plain_at (content_of session) in
      let counted : length (nodes_of session.nodes) ≡ length codes = sym (meant_long processing.code band.processors.items ∙ as_many) in
      let here : 0 + node ≡ node = omega arith in
      ap (λ (l : List ℕ). slice_index_or (values_by_node class_of codes l) node []) (is.first ∙ begins.first ∙ ap (λ (n : ℕ). flat_map of (range_with_len 0 n)) counted)
      ∙ flat_node class_of codes of 0 node (λ k less.
      let within : k < length (nodes_of session.nodes) = omega (arith, less, counted) in
      let params = (node_at (nodes_of session.nodes) k).params in
      let at : k ≡ 0 + k = omega arith in
      ap length (params_are k 0 within) ∙ length-map params param_of ∙ sym (firsts_long k) ∙ ap (λ (n : ℕ). length (of n)) at) (omega (arith, lt, counted))
      ∙ ap of here

  -- An engine can be made of it.
  pub are_parts : AreParts class_of processing.code processing.state processing.values processing.phase processing.setup (record { session = session; processors = band.processors; first = band.first }) max
  are_parts =
      let nodes = nodes_of session.nodes in
      let count = length nodes in
      let processors = band.processors.items in
      let wires = session.wires.items in
      let many = as_many in
      record {
        long = many;
        flat = ap length (is.first ∙ begins.first) ∙ flat_long (λ (n : Node). length n.params) nodes (plain_at (content_of session)) 0 (λ k d lt.
            let here : 0 + k ≡ k = omega arith in
            ap (λ (n : ℕ). length (plain_at (content_of session) n)) here ∙ firsts_long k ∙ ap (λ (n : Node). length n.params) (get_or_default nodes k no_node d lt));
        each = λ node c p s less.
            let lt : node < count = omega (arith, less, many) in
            let phases = meant_long processing.phase processors in
            let setups = meant_long processing.setup processors in
            let suits = is.suited node lt in
            let set = is.components.setups node s (omega (arith, less, setups)) in
            let most = set.max in
            record {
              params = params_are node c lt;
              starts = at_node (of_all processing.state processors) (λ (n : ℕ). (class_at plan n).start) count node [] is.components.states lt ∙ ap (λ (code : ℕ). (class_of code).start) (sym (code_is node c lt));
              first = at_node (of_all processing.values processors) (firsts_at plan) count node [] is.components.values lt ∙ begins.values node lt ∙ sym (firsts_are node lt);
              phase_is = is.components.phases node p (omega (arith, less, phases));
              channels_are = set.channels;
              most = omega (arith, most);
              has_aux = λ some. ap (λ (code : ℕ). (class_of code).aux) (code_is node c lt) ∙ suits.side (side_of wires node some);
            };
      }

-- ---- who holds the objects of a band

seats_by : {P : Type 0} (processors : List (Processing P)) → map processor_seat processors ≡ map (λ (holder : Object × Numbers). record { object = holder.0; numbers = holder.1 }) (holders_of processors)
seats_by [] = refl
seats_by (processor ∷ processors) = ap (λ (l : List Seat). processor_seat processor ∷ l) (seats_by processors)

-- Where others have what the processors had, the band is as whole as it was.
pub still_whole : {P C : Type 0} (old new : List (Processing P)) (rest : Rest P C) → IsWhole old rest → holders_of new ≡ holders_of old → IsWhole new rest
still_whole old new rest whole same = record {
  components = subst (λ (l : List Seat). AreHeld (objects_of rest.components.items) (l ∷ [])) (seats_by old ∙ ap (map (λ (holder : Object × Numbers). record { object = holder.0; numbers = holder.1 })) (sym same) ∙ sym (seats_by new)) whole.components;
  controllers = whole.controllers;
}

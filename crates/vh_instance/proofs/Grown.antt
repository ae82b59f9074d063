-- A band grows by the instances of one node.
use Rattle.std.proofs.Common.{◌≡◌, ℕ, Option, ◌+◌, ◌<◌, List, [], ◌∷◌, ◌++◌, length, map, get_or, replicate, Vec, vec_capacity, refl, sym, ap, subst, ◌∙◌, arith}
use Rattle.std.specs.Prelude.{All}
use Rattle.std.specs.declared.alloc.Global.{Global}
use Rattle.std.specs.List.{range_with_len, flat_map}
use Rattle.std.specs.Option.{option_and_then}
use Rattle.std.proofs.lemmas.List.{length-map, length-replicate, get_or-map, get_or-replicate, map_push, length_push}
use Rattle.std.proofs.lemmas.List.Elements.{All-push, All-head, All-tail, All-cons, All-nil, All-same, All-map, All-weaker}
use Rattle.vh_component.specs.declared.setup.Phase.{Phase}
use Rattle.vh_component.specs.declared.setup.Phase.TheVariants.{Processing as AtProcessing}
use Rattle.vh_component.specs.declared.states.Processing.{Processing}
use Rattle.vh_component.specs.Layouts.{buses_of}
use Rattle.vh_component.specs.States.{of_processing, layout_of_processing}
use Rattle.vh_counted.specs.declared.object.Object.{Object}
use Rattle.vh_counted.specs.declared.object.Counted.{Counted}
use Rattle.vh_counted.specs.declared.object.Holder.{Holder}
use Rattle.vh_counted.specs.declared.object.Opened.{Opened}
use Rattle.vh_counted.specs.Held.{object_of, value_of_opened}
use Rattle.vh_params.specs.declared.class.ClassInfo.{ClassInfo}
use Rattle.vh_params.specs.Nodes.{nodes_of, node_at}
use Rattle.vh_plugin.specs.Class.{Class}
use Rattle.vh_preset.specs.declared.preset.Preset.{Preset}
use Rattle.vh_session.specs.declared.session.Session.{Session}
use Rattle.vh_session.specs.Names.{content_of}
use Rattle.vh_instance.specs.Plan.{Plan, plan_for, class_number, code_at, class_at, component_at, preset_at}
use Rattle.vh_instance.specs.Presets.{mode_at, preset_refusal, refusal_at, AreAccepted, IsFirstRefused, IsCauseAt, IsCause}
use Rattle.vh_instance.specs.declared.refused.MakeRefused.{MakeRefused}
use Rattle.vh_instance.specs.declared.refused.MakeRefused.TheVariants.{Preset as OfPreset, Memory}
use Rattle.vh_instance.specs.Firsts.{firsts_under, firsts_at, first_values}
use Rattle.vh_instance.specs.Seats.{Seat, opener_seat, processor_seat, holder_seat, row_seats, pushed_rows, ArePushed, AreEmpty, HaveRoom, AreTogether, AreHeld, Has}
use Rattle.vh_instance.specs.Band.{ProcessorMeaning, ControllerMeaning, by_node, of_processors, has_side, node_buses, buses_at, IsSetFor, objects_of, IsComponent, AreComponents, IsController, AreControllers, component_table, component_object, controller_table, controller_object, kept_beside, kept_by_editor}
use Rattle.vh_instance.proofs.Pushes.{pushed_map, pushed_all, held_pushed}

pushed_length : (seats : List Seat) (rows : List (List Seat)) → length seats ≡ length rows → length (pushed_rows seats rows) ≡ length rows
pushed_length [] [] same = refl
pushed_length [] (row ∷ rows) same = absurd (omega (arith, same))
pushed_length (seat ∷ seats) [] same = absurd (omega (arith, same))
pushed_length (seat ∷ seats) (row ∷ rows) same = let rest = pushed_length seats rows (omega (arith, same)) in omega (arith, rest)

pushed_each : (P : Seat → Type 0) (seats : List Seat) (rows : List (List Seat)) → length seats ≡ length rows → All P seats → All (λ row. All P row) rows → All (λ row. All P row) (pushed_rows seats rows)
pushed_each P [] [] same all each = All-nil (λ (row : List Seat). All P row)
pushed_each P [] (row ∷ rows) same all each = absurd (omega (arith, same))
pushed_each P (seat ∷ seats) [] same all each = absurd (omega (arith, same))
pushed_each P (seat ∷ seats) (row ∷ rows) same all each =
    All-cons (λ (row : List Seat). All P row) (row ++ seat ∷ []) (pushed_rows seats rows) (All-push P row seat (All-head (λ (row : List Seat). All P row) row rows each) (All-head P seat seats all))
    (pushed_each P seats rows (omega (arith, same)) (All-tail P seat seats all) (All-tail (λ (row : List Seat). All P row) row rows each))

map_same : {A : Type 0} (f g : ℕ → A) → ((k : ℕ) → f k ≡ g k) → (ks : List ℕ) → map f ks ≡ map g ks
map_same f g same [] = refl
map_same f g same (k ∷ ks) = ap (λ x. x ∷ map f ks) (same k) ∙ ap (λ xs. g k ∷ xs) (map_same f g same ks)

flat_same : (f g : ℕ → List ℕ) → ((k : ℕ) → f k ≡ g k) → (ks : List ℕ) → flat_map f ks ≡ flat_map g ks
flat_same f g same [] = refl
flat_same f g same (k ∷ ks) = ap (λ (xs : List ℕ). xs ++ flat_map f ks) (same k) ∙ ap (λ (xs : List ℕ). g k ++ xs) (flat_same f g same ks)

-- plans of a set before and after calls that keep its classes and codes
module _ (session : Session) (presets : List (Option Preset)) (infos others : List ClassInfo) (code other : ℕ → ℕ) (class_of : ℕ → Class) (max : ℕ) (same_infos : others ≡ infos) (same_codes : (class : ℕ) → other class ≡ code class) where
  abbrev pub now : Plan
  now = plan_for infos code class_of session presets max

  abbrev pub later : Plan
  later = plan_for others other class_of session presets max

  pub code_same : (node : ℕ) → code_at later node ≡ code_at now node
  code_same node = same_codes (class_number others (node_at (nodes_of session.nodes) node).class_name) ∙ ap (λ (list : List ClassInfo). code (class_number list (node_at (nodes_of session.nodes) node).class_name)) same_infos

  pub firsts_same : (node : ℕ) → firsts_at later node ≡ firsts_at now node
  firsts_same node = ap (λ (c : ℕ). firsts_under (class_of c) (preset_at now node) session.firsts.items node) (code_same node)

  pub refusal_same : (node : ℕ) → refusal_at later node ≡ refusal_at now node
  refusal_same node =
      let component : component_at later node ≡ component_at now node =
      ap (λ (list : List ClassInfo). get_or (map (λ (info : ClassInfo). info.component.0) list) (class_number list (node_at (nodes_of session.nodes) node).class_name) []) same_infos in
      ap (λ (c : ℕ). option_and_then (preset_refusal (class_of c) (component_at later node)) (preset_at now node)) (code_same node)
      ∙ ap (λ (id : List ℕ). option_and_then (preset_refusal (class_at now node) id) (preset_at now node)) component

  pub codes_same : (count : ℕ) → by_node count (code_at later) ≡ by_node count (code_at now)
  codes_same count = map_same (code_at later) (code_at now) code_same (range_with_len 0 count)

  pub values_same : (count : ℕ) → by_node count (firsts_at later) ≡ by_node count (firsts_at now)
  values_same count = map_same (firsts_at later) (firsts_at now) firsts_same (range_with_len 0 count)

  pub first_same : first_values later ≡ first_values now
  first_same = flat_same (firsts_at later) (firsts_at now) firsts_same (range_with_len 0 (length (nodes_of session.nodes)))

  -- the cause at a node before which all presets are accepted
  pub first_cause : (node : ℕ) (refused : MakeRefused) → node < length (nodes_of session.nodes) → AreAccepted now node → IsCauseAt later node refused → IsCause now refused
  first_cause node (OfPreset other kind) within accepted cause =
      let IsFirst : ℕ → Type 0 = λ n. IsFirstRefused now n kind in
      subst IsFirst (sym cause.0) (record { within = within; refused = sym (refusal_same node) ∙ cause.1; first = accepted })
  first_cause node Memory within accepted cause = tt

  module _ {P : Type 0} (meant : ProcessorMeaning P) where
    pub grown_components : (count : ℕ) (components : List (Counted P)) (processors : List (Processing P)) (component : Counted P) (processor : Processing P) → AreComponents meant now count components processors → IsComponent meant later count component processor
        → AreComponents meant now (count + 1) (components ++ component ∷ []) (processors ++ processor ∷ [])
    grown_components count components processors component processor are is =
        let same = code_same count in
        let content = content_of session in
        let setup : IsSetFor now (meant.setup (value_of_opened (of_processing processor))) = record { channels = is.setup.channels; max = is.setup.max } in
        let held : AreHeld (objects_of components ++ object_of component ∷ []) ((map processor_seat processors ++ processor_seat processor ∷ []) ∷ []) =
        held_pushed (objects_of components) (object_of component) (processor_seat processor ∷ []) (map processor_seat processors ∷ []) refl are.held is.held in
        record {
          size = length_push components component ∙ ap (λ (n : ℕ). n + 1) are.size;
          codes = pushed_map (λ (processor : Processing P). meant.code (value_of_opened (of_processing processor))) (code_at now) processors processor count are.codes (is.code ∙ same);
          values = pushed_map (λ (processor : Processing P). meant.values (value_of_opened (of_processing processor))) (firsts_at now) processors processor count are.values (is.values ∙ firsts_same count);
          states = pushed_map (λ (processor : Processing P). meant.state (value_of_opened (of_processing processor))) (λ node. (class_at now node).start) processors processor count are.states (is.state ∙ ap (λ (c : ℕ). (class_of c).start) same);
          calls = pushed_all (λ (calls : ℕ). calls ≡ 0) (λ (processor : Processing P). meant.calls (value_of_opened (of_processing processor))) processors processor are.calls is.calls;
          phases = pushed_all (λ (phase : Phase). phase ≡ AtProcessing) (λ (processor : Processing P). meant.phase (value_of_opened (of_processing processor))) processors processor are.phases is.phase;
          setups = pushed_all (IsSetFor now) (λ (processor : Processing P). meant.setup (value_of_opened (of_processing processor))) processors processor are.setups setup;
          buses = pushed_map (λ (processor : Processing P). buses_of (layout_of_processing processor)) (buses_at now) processors processor count are.buses (is.buses ∙ ap (λ (c : ℕ). node_buses content.channels (class_of c).aux (has_side content.wires count)) same);
          objects = pushed_all (λ (object : Object). object ≡ component_object) (λ (component : Counted P). object_of component) components component are.objects is.object;
          references = pushed_all (Has component_table (λ interface. 1) 0) (λ (processor : Processing P). processor_seat processor) processors processor are.references is.references;
          held = subst (λ (row : List Seat). AreHeld (objects_of (components ++ component ∷ [])) (row ∷ [])) (sym (map_push (λ (processor : Processing P). processor_seat processor) processors processor))
              (subst (λ (objects : List Object). AreHeld objects ((map processor_seat processors ++ processor_seat processor ∷ []) ∷ [])) (sym (map_push (λ (component : Counted P). object_of component) components component)) held);
        }

  module _ {C : Type 0} (meant : ControllerMeaning C) where
    pub grown_controllers : (count : ℕ) (controllers : List (Counted C)) (edits : List (Opened C)) (rows new : List (Vec (Holder C) Global)) (controller : Counted C) (made edit : Opened C) (seats : List Seat)
        → AreControllers meant now count controllers edits rows → IsController meant later count controller made → value_of_opened edit ≡ value_of_opened made
        → Has controller_table (kept_beside 0) 0 (opener_seat edit) → ArePushed seats (map row_seats rows) (map row_seats new) → All (Has controller_table kept_by_editor 64) seats → AreTogether (object_of controller) (opener_seat edit ∷ seats)
        → AreControllers meant now (count + 1) (controllers ++ controller ∷ []) (edits ++ edit ∷ []) new
    grown_controllers count controllers edits rows new controller made edit seats are is value references pushed has together =
        let same = code_same count in
        let content = content_of session in
        let old = map row_seats rows in
        let held : AreHeld (objects_of controllers ++ object_of controller ∷ []) ((map opener_seat edits ++ opener_seat edit ∷ []) ∷ pushed_rows seats old) =
        held_pushed (objects_of controllers) (object_of controller) (opener_seat edit ∷ seats) (map opener_seat edits ∷ old) (let each = pushed.each in omega (arith, each)) are.held together in
        let long : length new ≡ length rows =
        sym (length-map new (λ (row : Vec (Holder C) Global). row_seats row)) ∙ ap (λ (seats : List (List Seat)). length seats) pushed.pushed ∙ pushed_length seats old pushed.each ∙ length-map rows (λ (row : Vec (Holder C) Global). row_seats row) in
        record {
          size = length_push controllers controller ∙ ap (λ (n : ℕ). n + 1) are.size;
          codes = pushed_map (λ (edit : Opened C). meant.code (value_of_opened edit)) (code_at now) edits edit count are.codes (ap meant.code value ∙ is.code ∙ same);
          values = pushed_map (λ (edit : Opened C). meant.values (value_of_opened edit)) (firsts_at now) edits edit count are.values (ap meant.values value ∙ is.values ∙ firsts_same count);
          modes = pushed_map (λ (edit : Opened C). meant.mode (value_of_opened edit)) (mode_at now) edits edit count are.modes (ap meant.mode value ∙ is.mode);
          objects = pushed_all (λ (object : Object). object ≡ controller_object (length content.scripts)) (λ (controller : Counted C). object_of controller) controllers controller are.objects is.object;
          references = pushed_all (Has controller_table (kept_beside 0) 0) (λ (edit : Opened C). opener_seat edit) edits edit are.references references;
          editors = long ∙ are.editors;
          holders = All-same (λ (row : List Seat). All (Has controller_table kept_by_editor 64) row) (map row_seats new) (pushed_rows seats old) pushed.pushed (pushed_each (Has controller_table kept_by_editor 64) seats old pushed.each has are.holders);
          held = subst (λ (others : List (List Seat)). AreHeld (objects_of (controllers ++ controller ∷ [])) (map opener_seat (edits ++ edit ∷ []) ∷ others)) (sym pushed.pushed)
              (subst (λ (row : List Seat). AreHeld (objects_of (controllers ++ controller ∷ [])) (row ∷ pushed_rows seats old)) (sym (map_push (λ (edit : Opened C). opener_seat edit) edits edit))
              (subst (λ (objects : List Object). AreHeld objects ((map opener_seat edits ++ opener_seat edit ∷ []) ∷ pushed_rows seats old)) (sym (map_push (λ (controller : Counted C). object_of controller) controllers controller)) held));
        }

-- no node yet
nothing_held : (rows : List (List Seat)) → All (λ row. length row ≡ 0) rows → AreHeld [] rows
nothing_held rows long = record { long = long; each = λ node lt. absurd (omega (arith, lt)) }

begun_components : {P : Type 0} (meant : ProcessorMeaning P) (plan : Plan) → AreComponents meant plan 0 [] []
begun_components meant plan = record {
  size = refl;
  codes = refl;
  values = refl;
  states = refl;
  calls = All-nil (λ (calls : ℕ). calls ≡ 0);
  phases = All-nil (λ (phase : Phase). phase ≡ AtProcessing);
  setups = All-nil (IsSetFor plan);
  buses = refl;
  objects = All-nil (λ (object : Object). object ≡ component_object);
  references = All-nil (Has component_table (λ interface. 1) 0);
  held = nothing_held ([] ∷ []) (All-cons (λ (row : List Seat). length row ≡ 0) [] [] refl (All-nil (λ (row : List Seat). length row ≡ 0)));
}

pub begun_components_at : {P : Type 0} (meant : ProcessorMeaning P) (plan : Plan) (components : List (Counted P)) (processors : List (Processing P)) → components ≡ [] → processors ≡ [] → AreComponents meant plan 0 components processors
begun_components_at {P} meant plan components processors first second =
    subst (λ (cs : List (Counted P)). AreComponents meant plan 0 cs processors) (sym first) (subst (λ (ps : List (Processing P)). AreComponents meant plan 0 [] ps) (sym second) (begun_components meant plan))

none_in_rows : {C : Type 0} (rows : List (Vec (Holder C) Global)) → AreEmpty rows → All (λ row. length row ≡ 0) (map row_seats rows)
none_in_rows {C} rows empty = All-map (λ (row : List Seat). length row ≡ 0) (λ (row : Vec (Holder C) Global). row_seats row) rows (λ k d lt. length-map (get_or rows k d).items (λ (holder : Holder C). holder_seat holder) ∙ empty k d lt)

begun_controllers : {C : Type 0} (meant : ControllerMeaning C) (plan : Plan) (rows : List (Vec (Holder C) Global)) → AreEmpty rows → length rows ≡ length plan.content.scripts → AreControllers meant plan 0 [] [] rows
begun_controllers {C} meant plan rows empty long =
    let none = none_in_rows rows empty in
    record {
      size = refl;
      codes = refl;
      values = refl;
      modes = refl;
      objects = All-nil (λ (object : Object). object ≡ controller_object (length plan.content.scripts));
      references = All-nil (Has controller_table (kept_beside 0) 0);
      editors = long;
      holders = All-weaker (λ (row : List Seat). length row ≡ 0) (λ (row : List Seat). All (Has controller_table kept_by_editor 64) row) (λ row size k d lt. absurd (omega (arith, lt, size))) (map row_seats rows) none;
      held = nothing_held ([] ∷ map row_seats rows) (All-cons (λ (row : List Seat). length row ≡ 0) [] (map row_seats rows) refl none);
    }

pub begun_controllers_at : {C : Type 0} (meant : ControllerMeaning C) (plan : Plan) (controllers : List (Counted C)) (edits : List (Opened C)) (rows : List (Vec (Holder C) Global)) → controllers ≡ [] → edits ≡ [] → AreEmpty rows → length rows ≡ length plan.content.scripts → AreControllers meant plan 0 controllers edits rows
begun_controllers_at {C} meant plan controllers edits rows first second empty long =
    subst (λ (cs : List (Counted C)). AreControllers meant plan 0 cs edits rows) (sym first) (subst (λ (es : List (Opened C)). AreControllers meant plan 0 [] es rows) (sym second) (begun_controllers meant plan rows empty long))

-- rows of so many places, where not all are taken, have room
pub rows_room : {C : Type 0} (seats : List Object) (openers : List Seat) (rows : List (Vec (Holder C) Global)) (editors count : ℕ) → AreHeld seats (openers ∷ map row_seats rows) → map vec_capacity rows ≡ replicate editors count → length seats < count → HaveRoom rows
rows_room {C} seats openers rows editors count held capacities lt = λ k d within.
    let long = All-tail (λ (row : List Seat). length row ≡ length seats) openers (map row_seats rows) held.long in
    let editors_is : length rows ≡ editors = sym (length-map rows (λ (row : Vec (Holder C) Global). vec_capacity row)) ∙ ap (λ (ns : List ℕ). length ns) capacities ∙ length-replicate editors count in
    let there : k < length (map row_seats rows) = omega (arith, within, length-map rows (λ (row : Vec (Holder C) Global). row_seats row)) in
    let here : k < editors = omega (arith, within, editors_is) in
    let size : length (row_seats (get_or rows k d)) ≡ length seats = subst (λ (row : List Seat). length row ≡ length seats) (get_or-map (λ (row : Vec (Holder C) Global). row_seats row) rows k d (row_seats d) within) (long k (row_seats d) there) in
    let capacity : vec_capacity (get_or rows k d) ≡ count = sym (get_or-map (λ (row : Vec (Holder C) Global). vec_capacity row) rows k d (vec_capacity d) within) ∙ ap (λ (ns : List ℕ). get_or ns k (vec_capacity d)) capacities ∙ get_or-replicate editors k count (vec_capacity d) here in
    omega (arith, size, capacity, lt, length-map (get_or rows k d).items (λ (holder : Holder C). holder_seat holder))

-- components that were made behind such calls
module _ (session : Session) (presets : List (Option Preset)) (infos others : List ClassInfo) (code other : ℕ → ℕ) (class_of : ℕ → Class) (max : ℕ) (same_infos : others ≡ infos) (same_codes : (class : ℕ) → other class ≡ code class) where
  pub components_then : {P : Type 0} (meant : ProcessorMeaning P) (count : ℕ) (components : List (Counted P)) (processors : List (Processing P)) → AreComponents meant (later session presets infos others code other class_of max same_infos same_codes) count components processors
      → AreComponents meant (now session presets infos others code other class_of max same_infos same_codes) count components processors
  components_then {P} meant count components processors are =
      let before = now session presets infos others code other class_of max same_infos same_codes in
      let behind = later session presets infos others code other class_of max same_infos same_codes in
      let same = code_same session presets infos others code other class_of max same_infos same_codes in
      record {
        size = are.size;
        codes = are.codes ∙ codes_same session presets infos others code other class_of max same_infos same_codes count;
        values = are.values ∙ values_same session presets infos others code other class_of max same_infos same_codes count;
        states = are.states ∙ map_same (λ (node : ℕ). (class_at behind node).start) (λ (node : ℕ). (class_at before node).start) (λ node. ap (λ (c : ℕ). (class_of c).start) (same node)) (range_with_len 0 count);
        calls = are.calls;
        phases = are.phases;
        setups = All-weaker (IsSetFor behind) (IsSetFor before) (λ setup is. record { channels = is.channels; max = is.max }) (of_processors meant.setup processors) are.setups;
        buses = are.buses ∙ map_same (buses_at behind) (buses_at before) (λ node. ap (λ (c : ℕ). node_buses session.channels (class_of c).aux (has_side session.wires.items node)) (same node)) (range_with_len 0 count);
        objects = are.objects;
        references = are.references;
        held = are.held;
      }

-- What a band of a session is.
use Rattle.std.specs.Prelude.{◌≡◌, ℕ, ◌<◌, ◌+◌, ◌*◌, ◌==◌, ◌&&◌, Bool, true, false, List, [], ◌∷◌, length, map, All, if◌then◌else◌, Vec}
use Rattle.std.specs.declared.alloc.Global.{Global}
use Rattle.std.specs.List.{range_with_len, list_any}
use Rattle.vh_component.specs.declared.layout.BusInfo.{BusInfo}
use Rattle.vh_component.specs.declared.setup.Phase.{Phase}
use Rattle.vh_component.specs.declared.setup.Phase.TheVariants.{Processing as AtProcessing}
use Rattle.vh_component.specs.declared.setup.Setup.{Setup}
use Rattle.vh_component.specs.declared.states.Processing.{Processing}
use Rattle.vh_component.specs.Buses.{main_bus, aux_bus}
use Rattle.vh_component.specs.Layouts.{buses_of}
use Rattle.vh_component.specs.States.{of_processing, layout_of_processing}
use Rattle.vh_counted.specs.declared.object.Object.{Object}
use Rattle.vh_counted.specs.declared.object.Counted.{Counted}
use Rattle.vh_counted.specs.declared.object.Holder.{Holder}
use Rattle.vh_counted.specs.declared.object.Opened.{Opened}
use Rattle.vh_counted.specs.Held.{object_of, value_of_opened}
use Rattle.vh_ids.specs.declared.interface.Interface.{Interface}
use Rattle.vh_ids.specs.declared.interface.Interface.TheVariants.{Unknown, PluginBase, Component, AudioProcessor, EditController, ConnectionPoint}
use Rattle.vh_params.specs.Nodes.{node_at}
use Rattle.vh_plugin.specs.Class.{State, param_of}
use Rattle.vh_session.specs.declared.wire.End.{End}
use Rattle.vh_session.specs.declared.wire.End.TheVariants.{In, Out, Node as AtNode}
use Rattle.vh_session.specs.declared.wire.Wire.{Wire}
use Rattle.vh_instance.specs.declared.band.Band.{Band}
pub use Rattle.vh_instance.specs.Plan.{Plan, code_at, class_at}
use Rattle.vh_instance.specs.Presets.{mode_at}
use Rattle.vh_instance.specs.Firsts.{firsts_at, first_values}
use Rattle.vh_instance.specs.Seats.{opener_seat, processor_seat, row_seats, AreTogether, AreHeld, Has}

-- what is meant by the processors of a set, and by its controllers
pub record ProcessorMeaning (P : Type 0) : Type 0 where
  pub code : P → ℕ
  pub values : P → List ℕ
  pub state : P → State
  pub calls : P → ℕ
  pub phase : P → Phase
  pub setup : P → Setup

pub record ControllerMeaning (C : Type 0) : Type 0 where
  pub code : C → ℕ
  pub values : C → List ℕ
  pub mode : C → ℕ

-- an end of a wire is this node
abbrev pub is_node : ℕ → End → Bool
is_node node In = false
is_node node Out = false
is_node node (AtNode number) = number == node

-- a wire reaches a node's aux bus, and one of these does
abbrev pub is_side : ℕ → Wire → Bool
is_side node wire = is_node node wire.to && wire.aux

abbrev pub has_side : List Wire → ℕ → Bool
has_side wires node = list_any (is_side node) wires

-- the buses of a component: its aux bus, where its class has one, is active exactly where an aux wire reaches it
abbrev pub node_buses : ℕ → Bool → Bool → List BusInfo
node_buses channels aux reached = main_bus 0 channels ∷ main_bus 1 channels ∷ (if aux then record (aux_bus channels) { active = reached } ∷ [] else [])

abbrev pub buses_at : Plan → ℕ → List BusInfo
buses_at plan node = node_buses plan.content.channels (class_at plan node).aux (has_side plan.content.wires node)

-- a node's class has the node's parameters, and has an aux bus where an aux wire reaches the node
pub record Suits (plan : Plan) (node : ℕ) : Type 0 where
  pub params : (class_at plan node).params ≡ map param_of (node_at plan.content.nodes node).params
  pub side : has_side plan.content.wires node ≡ true → (class_at plan node).aux ≡ true

-- set up for the session's channels and the plan's blocks
pub record IsSetFor (plan : Plan) (setup : Setup) : Type 0 where
  pub channels : setup.channels ≡ plan.content.channels
  pub max : setup.max ≡ plan.max

-- of so many nodes, by number
abbrev pub by_node : {A : Type 0} → ℕ → (ℕ → A) → List A
by_node count of = map of (range_with_len 0 count)

-- what is meant of each processor, and of each controller
abbrev pub of_processors : {P A : Type 0} → (P → A) → List (Processing P) → List A
of_processors meant processors = map (λ processor. meant (value_of_opened (of_processing processor))) processors

abbrev pub of_openers : {C A : Type 0} → (C → A) → List (Opened C) → List A
of_openers meant openers = map (λ opener. meant (value_of_opened opener)) openers

abbrev pub objects_of : {T : Type 0} → List (Counted T) → List Object
objects_of objects = map object_of objects

-- the interfaces of a component and of a controller, by position
abbrev pub component_table : List Interface
component_table = Unknown ∷ PluginBase ∷ Component ∷ AudioProcessor ∷ ConnectionPoint ∷ []

abbrev pub controller_table : List Interface
controller_table = Unknown ∷ PluginBase ∷ EditController ∷ ConnectionPoint ∷ []

abbrev pub component_object : Object
component_object = record { interfaces = 5; cap = 4 }

abbrev pub controller_object : ℕ → Object
controller_object editors = record { interfaces = 4; cap = 2 + 66 * editors }

-- The component of a node. It is of the node's class, at its first values, in its start state, not called yet, and
-- processing; its opener has one reference at each of its interfaces.
pub record IsComponent {P : Type 0} (meant : ProcessorMeaning P) (plan : Plan) (node : ℕ) (component : Counted P) (processor : Processing P) : Type 0 where
  pub code : meant.code (value_of_opened (of_processing processor)) ≡ code_at plan node
  pub values : meant.values (value_of_opened (of_processing processor)) ≡ firsts_at plan node
  pub state : meant.state (value_of_opened (of_processing processor)) ≡ (class_at plan node).start
  pub calls : meant.calls (value_of_opened (of_processing processor)) ≡ 0
  pub phase : meant.phase (value_of_opened (of_processing processor)) ≡ AtProcessing
  pub setup : IsSetFor plan (meant.setup (value_of_opened (of_processing processor)))
  pub buses : buses_of (layout_of_processing processor) ≡ buses_at plan node
  pub object : object_of component ≡ component_object
  pub references : Has component_table (λ interface. 1) 0 (processor_seat processor)
  pub held : AreTogether (object_of component) (processor_seat processor ∷ [])

-- so of the first nodes, so many
pub record AreComponents {P : Type 0} (meant : ProcessorMeaning P) (plan : Plan) (count : ℕ) (components : List (Counted P)) (processors : List (Processing P)) : Type 0 where
  pub size : length components ≡ count
  pub codes : of_processors meant.code processors ≡ by_node count (code_at plan)
  pub values : of_processors meant.values processors ≡ by_node count (firsts_at plan)
  pub states : of_processors meant.state processors ≡ by_node count (λ node. (class_at plan node).start)
  pub calls : All (λ calls. calls ≡ 0) (of_processors meant.calls processors)
  pub phases : All (λ phase. phase ≡ AtProcessing) (of_processors meant.phase processors)
  pub setups : All (IsSetFor plan) (of_processors meant.setup processors)
  pub buses : map (λ processor. buses_of (layout_of_processing processor)) processors ≡ by_node count (buses_at plan)
  pub objects : All (λ object. object ≡ component_object) (objects_of components)
  pub references : All (Has component_table (λ interface. 1) 0) (map processor_seat processors)
  pub held : AreHeld (objects_of components) (map processor_seat processors ∷ [])

-- What a controller's opener has at each interface, where so many references of the editors are with it; and what each
-- editor has: a reference for its words, and one for its thread.
abbrev pub kept_beside : ℕ → Interface → ℕ
kept_beside given Unknown = 1
kept_beside given EditController = 1 + given
kept_beside given ConnectionPoint = 1
kept_beside given _ = 0

abbrev pub kept_by_editor : Interface → ℕ
kept_by_editor EditController = 2
kept_by_editor _ = 0

-- The controller of a node, before the editors' references are parted off. It is of the node's class, at its first values
-- and in its mode, and its opener has two references and 64 adds for each editor.
pub record IsController {C : Type 0} (meant : ControllerMeaning C) (plan : Plan) (node : ℕ) (controller : Counted C) (edit : Opened C) : Type 0 where
  pub code : meant.code (value_of_opened edit) ≡ code_at plan node
  pub values : meant.values (value_of_opened edit) ≡ firsts_at plan node
  pub mode : meant.mode (value_of_opened edit) ≡ mode_at plan node
  pub object : object_of controller ≡ controller_object (length plan.content.scripts)
  pub references : Has controller_table (kept_beside (2 * length plan.content.scripts)) (64 * length plan.content.scripts) (opener_seat edit)
  pub held : AreTogether (object_of controller) (opener_seat edit ∷ [])

-- The controllers of the first nodes, so many. Of each editor there is a holder, editor by editor and within each by node,
-- with two references at IEditController and room for 64 adds, and the openers have what is theirs.
pub record AreControllers {C : Type 0} (meant : ControllerMeaning C) (plan : Plan) (count : ℕ) (controllers : List (Counted C)) (edits : List (Opened C)) (rows : List (Vec (Holder C) Global)) : Type 0 where
  pub size : length controllers ≡ count
  pub codes : of_openers meant.code edits ≡ by_node count (code_at plan)
  pub values : of_openers meant.values edits ≡ by_node count (firsts_at plan)
  pub modes : of_openers meant.mode edits ≡ by_node count (mode_at plan)
  pub objects : All (λ object. object ≡ controller_object (length plan.content.scripts)) (objects_of controllers)
  pub references : All (Has controller_table (kept_beside 0) 0) (map opener_seat edits)
  pub editors : length rows ≡ length plan.content.scripts
  pub holders : All (λ row. All (Has controller_table kept_by_editor 64) row) (map row_seats rows)
  pub held : AreHeld (objects_of controllers) (map opener_seat edits ∷ map row_seats rows)

-- a band of a session, as it is made
pub record IsBand {P C : Type 0} (processing : ProcessorMeaning P) (controlling : ControllerMeaning C) (plan : Plan) (band : Band P C) : Type 0 where
  pub suited : (node : ℕ) → node < length plan.content.nodes → Suits plan node
  pub components : AreComponents processing plan (length plan.content.nodes) band.components.items band.processors.items
  pub controllers : AreControllers controlling plan (length plan.content.nodes) band.controllers.items band.edits.items band.holders.items
  pub first : band.first.items ≡ first_values plan

-- the holders of all objects of a band are together whole, object by object
pub record IsHeld {P C : Type 0} (band : Band P C) : Type 0 where
  pub components : AreHeld (objects_of band.components.items) (map processor_seat band.processors.items ∷ [])
  pub controllers : AreHeld (objects_of band.controllers.items) (map opener_seat band.edits.items ∷ map row_seats band.holders.items)

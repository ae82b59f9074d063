-- What an engine is made of.
use Rattle.std.specs.Prelude.{◌≡◌, ◌<◌, ◌≤◌, ◌^◌, ℕ, List, [], length, map, slice_index_or, sum_by, All, true, false}
use Rattle.vh_component.specs.declared.setup.Phase.{Phase}
use Rattle.vh_component.specs.declared.setup.Phase.TheVariants.{Processing as AtProcessing}
use Rattle.vh_component.specs.declared.setup.Setup.{Setup}
use Rattle.vh_params.specs.Nodes.{nodes_of, node_at}
use Rattle.vh_plugin.specs.Class.{Class, State, Param, param_of}
use Rattle.vh_session.specs.declared.wire.End.{End}
use Rattle.vh_session.specs.declared.wire.End.TheVariants.{Node as AtNode}
use Rattle.vh_session.specs.Names.{content_of}
use Rattle.vh_meaning.specs.Scene.{Scene, scene_of, firsts_at}
use Rattle.vh_engine.specs.declared.parts.Parts.{Parts}
use Rattle.vh_session.specs.Content.{sources_into}
use Rattle.vh_engine.specs.Kept.{Kept}
use Rattle.vh_engine.specs.Staged.{of_all, holders_of}

abbrev pub scene_by : {P : Type 0} → (ℕ → Class) → (P → ℕ) → Parts P → Scene
scene_by class_of code parts = scene_of class_of (of_all code parts.processors.items) parts.first.items (content_of parts.session)

-- a processor of a node's class that processes, in its first state and at the node's first values, set up for the
-- session's channels and for so many frames; and an aux wire reaches it only where its class has the bus
pub record IsPlaced (class : Class) (state : State) (values : List ℕ) (phase : Phase) (setup : Setup) (parts_params : List Param) (firsts : List ℕ) (aux : List End) (channels max : ℕ) : Type 0 where
  pub params : class.params ≡ parts_params
  pub starts : state ≡ class.start
  pub first : values ≡ firsts
  pub phase_is : phase ≡ AtProcessing
  pub channels_are : setup.channels ≡ channels
  pub most : max ≤ setup.max
  pub has_aux : 0 < length aux → class.aux ≡ true

pub record AreParts {P : Type 0} (class_of : ℕ → Class) (code : P → ℕ) (state : P → State) (values : P → List ℕ) (phase : P → Phase) (setup : P → Setup) (parts : Parts P) (max : ℕ) : Type 0 where
  pub long : length parts.processors.items ≡ length (nodes_of parts.session.nodes)
  pub flat : length parts.first.items ≡ sum_by (λ node. length node.params) (nodes_of parts.session.nodes)
  pub each : (node c : ℕ) (p : Phase) (s : Setup) → node < length parts.processors.items
      → IsPlaced (class_of (slice_index_or (of_all code parts.processors.items) node c)) (slice_index_or (of_all state parts.processors.items) node []) (slice_index_or (of_all values parts.processors.items) node [])
      (slice_index_or (of_all phase parts.processors.items) node p) (slice_index_or (of_all setup parts.processors.items) node s)
      (map param_of (node_at (nodes_of parts.session.nodes) node).params) (firsts_at (scene_by class_of code parts) node)
      (sources_into parts.session.wires.items (AtNode node) true) parts.session.channels max

-- what an engine begins with
pub record IsFresh {P : Type 0} (class_of : ℕ → Class) (code calls : P → ℕ) (parts : Parts P) (max answers : ℕ) (kept : Kept) : Type 0 where
  pub session : kept.session ≡ content_of parts.session
  pub codes : kept.codes ≡ of_all code parts.processors.items
  pub calls_are : kept.calls ≡ of_all calls parts.processors.items
  pub holders : kept.holders ≡ holders_of parts.processors.items
  pub firsts : kept.firsts ≡ parts.first.items
  pub values : kept.values ≡ parts.first.items
  pub at : kept.at ≡ 0
  pub max_is : kept.max ≡ max
  pub room : answers ≤ kept.room
  pub flushed : kept.flushed ≡ false

-- what it gives back
pub record IsGivenBack {P : Type 0} (code calls : P → ℕ) (state : P → State) (phase : P → Phase) (kept : Kept) (parts : Parts P) : Type 0 where
  pub session : content_of parts.session ≡ kept.session
  pub codes : of_all code parts.processors.items ≡ kept.codes
  pub calls_are : of_all calls parts.processors.items ≡ kept.calls
  pub states : of_all state parts.processors.items ≡ kept.states
  pub holders : holders_of parts.processors.items ≡ kept.holders
  pub processing : All (λ at. at ≡ AtProcessing) (of_all phase parts.processors.items)
  pub first : parts.first.items ≡ kept.firsts

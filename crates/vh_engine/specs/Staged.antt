-- A scene as the engine keeps it.
use Rattle.std.specs.Prelude.{◌≡◌, ◌<◌, ℕ, List, [], length, map, slice_index_or, All, ℤ, Vec}
use Rattle.std.specs.declared.alloc.Global.{Global}
use Rattle.vh_component.specs.declared.states.Processing.{Processing}
use Rattle.vh_component.specs.States.{of_processing}
use Rattle.vh_counted.specs.Held.{value_of_opened, object_of_opened, numbers_of_opened}
use Rattle.vh_counted.specs.declared.numbers.Numbers.{Numbers}
use Rattle.vh_counted.specs.declared.object.Object.{Object}
use Rattle.vh_lane.specs.declared.lane.Lane.{Lane}
use Rattle.vh_params.specs.declared.command.Reply.{Reply}
use Rattle.vh_params.specs.Short.{words_in}
use Rattle.vh_plugin.specs.Class.{Param, State}
use Rattle.vh_meaning.specs.Scene.{Scene, node_count, params_at, lane_of}
use Rattle.vh_meaning.specs.Rendering.{Answer}
use Rattle.vh_meaning.specs.Stands.{Standing}
use Rattle.vh_engine.specs.declared.control.Control.{Control}
use Rattle.vh_engine.specs.Controls.{touch_of, line_of}
use Rattle.vh_engine.specs.Nodes.{AreOf}

-- what is meant of each processor
abbrev pub of_all : {P A : Type 0} → (P → A) → List (Processing P) → List A
of_all meant processors = map (λ processor. meant (value_of_opened (of_processing processor))) processors

-- the object and the numbers of each processor's opener
abbrev pub holders_of : {P : Type 0} → List (Processing P) → List (Object × Numbers)
holders_of processors = map (λ processor. (object_of_opened (of_processing processor), numbers_of_opened (of_processing processor))) processors

-- the parameters of each node
abbrev pub boards_of : List (Vec Control Global) → List (List Control)
boards_of boards = map (λ board. board.items) boards

abbrev pub board_at : List (List Control) → ℕ → List Control
board_at boards node = slice_index_or boards node []

abbrev pub answer_of : Reply → Answer
answer_of reply = record { node = reply.node; sample = reply.sample; words = words_in reply.words }

-- states by node, parameters by node, and answers, as what is kept of a rendering
abbrev pub standing_of : List State → List (List Control) → List Answer → Standing
standing_of states boards answers = record {
  states = λ node. slice_index_or states node [];
  touches = λ node. map touch_of (board_at boards node);
  answers = answers;
}

-- the same is kept of each node of a scene
pub record AreSame (scene : Scene) (one other : Standing) : Type 0 where
  pub states : (node : ℕ) → node < node_count scene → one.states node ≡ other.states node
  pub touches : (node : ℕ) → node < node_count scene → one.touches node ≡ other.touches node
  pub answers : one.answers ≡ other.answers

-- a node's parameters are those of its class, with the lanes of the scene
pub record IsBoard (scene : Scene) (lanes : List (ℕ × ℕ × Lane)) (node : ℕ) (controls : List Control) : Type 0 where
  pub of : AreOf (params_at scene node) controls
  pub lines : (k : ℕ) (d : Control) (e : Param) → k < length controls
      → line_of lanes (slice_index_or controls k d) ≡ lane_of scene node (slice_index_or (params_at scene node) k e)

-- so of each node
pub record AreBoards (scene : Scene) (lanes : List (ℕ × ℕ × Lane)) (boards : List (List Control)) : Type 0 where
  pub long : length boards ≡ node_count scene
  pub each : (node : ℕ) → node < node_count scene → IsBoard scene lanes node (board_at boards node)

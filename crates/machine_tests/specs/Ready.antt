-- A processor that is ready to play a node.
use Rattle.std.specs.Prelude.{◌≡◌, ℕ, List, map}
use Rattle.vh_component.specs.declared.setup.Phase.{Phase}
use Rattle.vh_component.specs.declared.setup.Setup.{Setup}
use Rattle.vh_params.specs.Nodes.{node_at}
use Rattle.vh_plugin.specs.Class.{Class, State, param_of}
use Rattle.vh_session.specs.Content.{Content}
use Rattle.vh_core.specs.Playing.{IsPlayer, has_aux}

-- it is of the node's class, in its first state and at these values
pub record IsReadyAt {P : Type 0} (class_of : ℕ → Class) (code : P → ℕ) (state : P → State) (values : P → List ℕ) (phase : P → Phase) (setup : P → Setup) (session : Content) (node : ℕ) (given : List ℕ) (processor : P) : Type 0 where
  pub player : IsPlayer (class_of (code processor)) (phase processor) (setup processor) (map param_of (node_at session.nodes node).params) session.channels (has_aux session.wires node)
  pub starts : state processor ≡ (class_of (code processor)).start
  pub first : values processor ≡ given

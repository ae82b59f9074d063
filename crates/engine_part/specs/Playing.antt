-- An engine that is played.
use Rattle.std.specs.Prelude.{◌≡◌, ◌<◌, ℕ, length, map}
use Rattle.vh_meaning.specs.Scene.{node_count, params_at}
use Rattle.vh_params.specs.Nodes.{Node, node_at}
use Rattle.vh_plugin.specs.Class.{Class, param_of}
use Rattle.vh_engine.specs.Kept.{Kept, scene_in}

-- the classes of the nodes have the parameters that the session tells of
pub record HasClasses (class_of : ℕ → Class) (kept : Kept) : Type 0 where
  pub count : node_count (scene_in class_of kept) ≡ length kept.session.nodes
  pub params : (node : ℕ) → node < length kept.session.nodes → params_at (scene_in class_of kept) node ≡ map param_of (node_at kept.session.nodes node).params

use Rattle.std.proofs.Common.{◌≡◌, ℕ, ◌<◌, length}
use Rattle.vh_params.specs.Nodes.{nodes_of, node_at}
use Rattle.vh_core.specs.Stage.{frames_in, values_in}
use Rattle.vh_core.proofs.stage.Room.new.Given as goal

abbrev pub invariant-loop-node : goal.invariant-loop-node
invariant-loop-node l = record {
  frames : length l.frames.items ≡ l.node;
  wide : (k : ℕ) → k < l.node → length (frames_in l.frames.items k) ≡ l.session.channels;
  values : length l.values.items ≡ l.node;
  each : (k : ℕ) → k < l.node → length (values_in l.values.items k) ≡ length (node_at (nodes_of l.session.nodes) k).params;
}

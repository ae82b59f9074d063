use Rattle.std.proofs.Common.{◌≡◌, ◌≤◌, ◌+◌, ◌++◌, ℕ, length, drop}
use Rattle.std.specs.Prelude.{sum_by, vec_len, vec_capacity}
use Rattle.std.specs.List.{flat_map, range_with_len}
use Rattle.vh_params.specs.Nodes.{nodes_of}
use Rattle.vh_plugin.specs.Class.{State}
use Rattle.vh_session.specs.Names.{content_of}
use Rattle.vh_meaning.specs.Values.{values_at}
use Rattle.vh_meaning.specs.Rendering.{seen_at}
use Rattle.vh_core.specs.State.{scene_in}
use Rattle.vh_core.specs.Playing.{HaveStates, setting_by}
use Rattle.vh_core.specs.Stage.{IsRoom}
use Rattle.vh_core.proofs.show.show.Given as goal

-- what was seen of the nodes so far
abbrev pub invariant-loop-node : goal.invariant-loop-node
invariant-loop-node g l =
    let content = content_of l.session in
    let scene = scene_in (setting_by g.P.Processor.class_of g.P.Processor.code content l.plan.firsts.items l.processors) in
    record {
      room : IsRoom content l.room;
      space : vec_len l.shown + sum_by (λ node. length node.params) (drop l.node (nodes_of l.session.nodes)) ≤ vec_capacity l.shown;
      shown : (states : ℕ → State) → HaveStates g.P.Processor.state l.processors states
          → l.shown.items ≡ l.fn.shown.items ++ flat_map (seen_at scene states (values_at scene l.journal l.sample)) (range_with_len 0 l.node);
    }

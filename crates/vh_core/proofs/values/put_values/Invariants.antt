use Rattle.std.proofs.Common.{ℕ, ◌<◌, ◌≤◌, ◌^◌, get_or}
use Rattle.vh_params.specs.declared.param.ParamInfo.{ParamInfo}
use Rattle.vh_params.specs.Nodes.{nodes_of, node_at}
use Rattle.vh_session.specs.Names.{content_of}
use Rattle.vh_legal.specs.Values.{IsValue}
use Rattle.vh_core.proofs.values.put_values.Given as goal

abbrev pub invariant-loop-place : goal.invariant-loop-place
invariant-loop-place l = record {
  values : (k : ℕ) (d : ParamInfo) → k < l.place → IsValue (content_of l.session) l.firsts l.entries l.node (get_or (node_at (nodes_of l.session.nodes) l.node).params k d).id l.sample (get_or l.given k 0);
  within : (k : ℕ) → k < l.place → get_or l.given k 0 ≤ 2 ^ 24;
}

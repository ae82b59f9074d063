use Rattle.std.proofs.Common.{◌≡◌, ℕ, ◌-◌, ◌<◌, [], length, slice_index_or, vec_capacity}
use Rattle.std.specs.Arc.{arc_value}
use Rattle.crossbeam_queue.specs.Passes.{view, IsPassOf}
use Rattle.vh_params.specs.Nodes.{nodes_of}
use Rattle.vh_inbox.specs.Lists.{empty_lists}
use Rattle.vh_inbox.specs.Rule.{drain_view}
use Rattle.vh_inbox.specs.Values.{AtDesk, new_desk}
use Rattle.vh_inbox.proofs.opening.inbox.Given as goal

abbrev pub ghosts-opened : goal.ghosts-opened
ghosts-opened a = record { quotas = a.quotas.now }

abbrev pub invariant-loop-number : goal.invariant-loop-number
invariant-loop-number l = record {
  pass : IsPassOf (arc_value l.line) l.pass;
  knows : view l.pass ≡ drain_view l.quotas [] (empty_lists l.number (length l.quotas - l.number));
  inbox : l.pass.table_id ≡ l.initial.pass.table_id;
  count : length l.desks.items ≡ l.number;
  room : vec_capacity l.desks ≡ vec_capacity l.initial.desks;
  desks : (k : ℕ) (d : AtDesk) → k < l.number → slice_index_or l.desks.items k d ≡ new_desk l.initial.pass.table_id l.capacity l.quotas (nodes_of l.nodes) k;
}

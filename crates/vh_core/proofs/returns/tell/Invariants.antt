use Rattle.std.proofs.Common.{◌≡◌, ◌≤◌, ◌+◌, ◌-◌, ◌++◌, length, map, filter, slice_index}
use Rattle.std.specs.List.{range_with_len}
use Rattle.std.specs.VecDeque.{deque_len, deque_capacity}
use Rattle.vh_core.specs.State.{Echo}
use Rattle.vh_core.specs.Steps.{has_changed}
use Rattle.vh_core.specs.Kept.{return_of}
use Rattle.vh_core.proofs.returns.tell.Given as goal

abbrev pub invariant-loop-place : goal.invariant-loop-place
invariant-loop-place l = record {
  room : deque_len l.returns + (length l.new - l.place) ≤ deque_capacity l.returns;
  told : map return_of l.returns.items ≡ map return_of l.fn.returns.items ++ map (λ place. Echo place (slice_index l.new place)) (filter (has_changed l.old l.new) (range_with_len 0 l.place));
}

use Rattle.std.proofs.Common.{◌≡◌, ◌≤◌, ◌^◌, length, take}
use Rattle.std.specs.Prelude.{All}
use Rattle.vh_component.specs.States.{of_processing}
use Rattle.vh_counted.specs.Held.{value_of_opened}
use Rattle.vh_engine.specs.Seen.{seen_of_node}
use Rattle.vh_engine.proofs.seen.see_node.Given as goal

abbrev pub invariant-loop-place : goal.invariant-loop-place
invariant-loop-place g l =
    (length l.values ≡ length l.board)
    × (take l.place l.values ≡ seen_of_node (g.P.Processor.class_of (g.P.Processor.code (value_of_opened (of_processing l.processor)))) (g.P.Processor.state (value_of_opened (of_processing l.processor))) (take l.place l.board))
    × All (λ value. value ≤ 2 ^ 24) (take l.place l.values)

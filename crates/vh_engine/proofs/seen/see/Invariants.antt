use Rattle.std.proofs.Common.{◌≡◌, ◌≤◌, ◌^◌, length, take}
use Rattle.std.specs.Prelude.{All, sum_by}
use Rattle.vh_engine.specs.Seen.{seen_of_all}
use Rattle.vh_engine.specs.Staged.{of_all, boards_of}
use Rattle.vh_engine.proofs.seen.see.Given as goal

abbrev pub invariant-loop-node : goal.invariant-loop-node
invariant-loop-node g l =
    (l.at ≡ sum_by (λ board. length board) (take l.node (boards_of l.boards)))
    × (length l.values ≡ sum_by (λ board. length board) (boards_of l.boards))
    × (take l.at l.values ≡ seen_of_all g.P.Processor.class_of (take l.node (of_all g.P.Processor.code l.processors)) (take l.node (of_all g.P.Processor.state l.processors)) (take l.node (boards_of l.boards)))
    × All (λ value. value ≤ 2 ^ 24) (take l.at l.values)

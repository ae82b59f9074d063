use Rattle.std.proofs.Common.{◌≡◌}
use Rattle.builtin_bench.proofs.play_blocks.Given as goal

abbrev pub invariant-loop : goal.invariant-loop
invariant-loop g l =
    (g.P.Life.phase l.processor ≡ g.P.Life.phase l.fn.processor) × (g.P.Life.last_setup l.processor ≡ g.P.Life.last_setup l.fn.processor) × (g.P.Processor.code l.processor ≡ g.P.Processor.code l.fn.processor)

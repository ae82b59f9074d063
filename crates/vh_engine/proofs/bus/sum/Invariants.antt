use Rattle.std.proofs.Common.{◌≡◌, ◌≤◌, ◌^◌, length, replicate, take, map, pos}
use Rattle.std.specs.Prelude.{All}
use Rattle.vh_num.specs.Laws.{IsSample, summed}
use Rattle.vh_engine.specs.Buses.{rows_of, sources_of}
use Rattle.vh_engine.proofs.bus.sum.Given as goal

abbrev pub invariant-loop-end : goal.invariant-loop-end
invariant-loop-end l = (l.sums ≡ summed (replicate (length l.ins) (pos 0)) (sources_of l.ins (rows_of l.rows) (length l.ins) (take l.end-index l.ends)))
    × All (All IsSample) (sources_of l.ins (rows_of l.rows) (length l.ins) (take l.end-index l.ends))

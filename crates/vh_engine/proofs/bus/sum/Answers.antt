use Rattle.std.proofs.Common.{length, arith}
use Rattle.vh_engine.specs.Buses.{rows_of, samples_of}
use Rattle.vh_engine.proofs.Mixing.{next_source}
use Rattle.vh_engine.proofs.bus.sum.Goals as goal

pub loop-end-preserved : goal.loop-end-preserved
loop-end-preserved c =
    let ins = c.args.ins.now in
    next_source (samples_of ins (rows_of c.args.rows.now) (length ins)) c.args.ends.now c.loop-end.end-index (length ins) _ c.samples-source.result.now c.loop-end.sums c.mix_into.new.acc (omega arith)
    c.samples-source.ensures c.are_samples.ensures c.loop-end.invariant.0 c.loop-end.invariant.1 c.mix_into.ensures

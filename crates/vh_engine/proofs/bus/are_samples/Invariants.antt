use Rattle.std.proofs.Common.{take}
use Rattle.std.specs.Prelude.{All}
use Rattle.vh_num.specs.Laws.{IsSample}
use Rattle.vh_engine.proofs.bus.are_samples.Given as goal

abbrev pub invariant-loop-sample : goal.invariant-loop-sample
invariant-loop-sample l = All IsSample (take l.sample-index l.source)

use Rattle.std.proofs.Common.{arith}
use Rattle.vh_gen.specs.Draws.{next_state}
use Rattle.vh_gen.proofs.draws.next_state.Goals as goal

pub returns : goal.returns
unfolding next_state
returns c = omega arith

use Rattle.vh_plugin.proofs.Streams.{goes_on}
use Rattle.vh_plugin.proofs.laws.block_goes_on.Goals as goal

pub returns : goal.returns
returns c class start stream from block is = goes_on class start stream from block is

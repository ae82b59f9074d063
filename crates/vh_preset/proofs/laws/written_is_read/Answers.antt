use Rattle.vh_preset.proofs.Presets.{written_is_read}
use Rattle.vh_preset.proofs.laws.written_is_read.Goals as goal

pub returns : goal.returns
returns c = written_is_read

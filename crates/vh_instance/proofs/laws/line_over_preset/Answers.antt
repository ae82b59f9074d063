use Rattle.vh_instance.proofs.Lawful.{law_line_over_preset}
use Rattle.vh_instance.proofs.laws.line_over_preset.Goals as goal

pub returns : goal.returns
returns c = law_line_over_preset

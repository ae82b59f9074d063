use Rattle.vh_instance.proofs.Lawful.{law_without_preset}
use Rattle.vh_instance.proofs.laws.without_preset.Goals as goal

pub returns : goal.returns
returns c = law_without_preset

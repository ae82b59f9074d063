use Rattle.vh_instance.proofs.Lawful.{law_without_presets}
use Rattle.vh_instance.proofs.laws.without_presets.Goals as goal

pub returns : goal.returns
returns c = law_without_presets

use Rattle.vh_preset.proofs.Presets.{preset_or_fault}
use Rattle.vh_preset.proofs.laws.preset_or_fault.Goals as goal

pub returns : goal.returns
returns c = preset_or_fault

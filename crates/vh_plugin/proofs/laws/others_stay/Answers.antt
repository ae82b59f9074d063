use Rattle.vh_plugin.proofs.Values.{others_same}
use Rattle.vh_plugin.proofs.laws.others_stay.Goals as goal

pub returns : goal.returns
returns c params values id other value differ = others_same params values id other value differ

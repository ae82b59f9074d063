use Rattle.vh_plugin.proofs.Values.{taken_back}
use Rattle.vh_plugin.proofs.laws.bytes_are_taken_back.Goals as goal

pub returns : goal.returns
returns c class old values new taken lawful are_old are set = taken_back class old values new taken lawful are_old are set

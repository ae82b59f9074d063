use Rattle.vh_back.proofs.Telling.{last_stands}
use Rattle.vh_back.proofs.laws.the_last_stands.Goals as goal

pub returns : goal.returns
returns c = λ class node values items lawful valued within. last_stands node class.params values items lawful.rising valued.each within

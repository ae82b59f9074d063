use Rattle.vh_text.proofs.Runs.{law_runs}
use Rattle.vh_text.proofs.laws.words_are_runs.Goals as goal

pub returns : goal.returns
returns c = law_runs

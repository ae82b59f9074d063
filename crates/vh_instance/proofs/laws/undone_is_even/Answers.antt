use Rattle.vh_instance.proofs.Counting.{law_undone_is_even}
use Rattle.vh_instance.proofs.laws.undone_is_even.Goals as goal

pub returns : goal.returns
returns c = law_undone_is_even

use Rattle.vh_instance.proofs.Saved.{law_saved_is_loaded}
use Rattle.vh_instance.proofs.laws.saved_is_loaded.Goals as goal

pub returns : goal.returns
returns c = law_saved_is_loaded c.bytes_are_taken_back.ensures

use Rattle.vh_journal_text.proofs.Faulty.{law_fault_is_first}
use Rattle.vh_journal_text.proofs.laws.fault_is_first.Goals as goal

pub returns : goal.returns
returns c = law_fault_is_first

use Rattle.vh_ids.proofs.Digits.{same_text}
use Rattle.vh_ids.proofs.laws.either_case.Goals as goal

pub returns : goal.returns
returns c = same_text

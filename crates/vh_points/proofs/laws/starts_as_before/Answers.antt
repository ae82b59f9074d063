use Rattle.vh_points.proofs.Reading.{law_starts_as_before}
use Rattle.vh_points.proofs.laws.starts_as_before.Goals as goal

pub returns : goal.returns
returns c = law_starts_as_before

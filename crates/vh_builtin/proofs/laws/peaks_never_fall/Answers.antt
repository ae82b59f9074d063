use Rattle.vh_builtin.proofs.Sounding.{law_peaks}
use Rattle.vh_builtin.proofs.laws.peaks_never_fall.Goals as goal

pub returns : goal.returns
returns c = law_peaks

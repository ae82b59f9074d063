use Rattle.std.proofs.Common.{ap, ◌∙◌}
use Rattle.vh_builtin.specs.Balance.{balance_frame}
use Rattle.std.proofs.Common.{◌∷◌, []}
use Rattle.vh_builtin.proofs.Sounding.{law_centre}
use Rattle.vh_builtin.proofs.laws.centre_changes_nothing.Goals as goal

pub returns : goal.returns
returns c state values left right aux is = ap (λ position. balance_frame position (left ∷ right ∷ [])) is ∙ law_centre left right

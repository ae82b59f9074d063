use Rattle.vh_params.proofs.Decimals.{fraction_digits}
use Rattle.vh_params.proofs.value.Number.of_fraction.Goals as goal

pub returns : goal.returns
returns c = fraction_digits c.args.parts c.requires

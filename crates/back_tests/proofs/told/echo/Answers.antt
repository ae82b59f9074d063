use Rattle.std.proofs.Common.{◌<◌, length, arith}
use Rattle.vh_back.specs.Items.{parameter}
use Rattle.vh_back.specs.Ends.{offered}
use Rattle.vh_back.proofs.Offering.{few_with}
use Rattle.back_tests.specs.Offers.{levels}
use Rattle.back_tests.proofs.told.echo.Goals as goal

pub offer-requires-clause-may : goal.offer-requires-clause-may
offer-requires-clause-may c =
    let sender = c.args.sender.now in
    let here : 0 < length levels = omega arith in
    few_with sender.params levels (offered sender) 0 (parameter 0 0) c.args.value c.args.after c.args.last c.requires.level.some here c.requires.level.among

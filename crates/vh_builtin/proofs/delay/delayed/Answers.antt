use Rattle.std.proofs.Common.{rules, ◌≡◌, ◌∙◌, w32}
use mir.Val.{SFits}
use Rattle.std.proofs.lemmas.Int.{to_z-of_z}
use Rattle.vh_builtin.specs.Ranges.{IsSample}
use Rattle.vh_builtin.specs.OnePole.{pole_of}
use Rattle.vh_builtin.proofs.Mixes.{delayed_is}
use Rattle.vh_builtin.proofs.delay.delayed.Goals as goal

pub returns : goal.returns
returns c =
    let fits : SFits w32 c.toward.result = search rules in
    let is : IsSample c.args.x = search rules in
    let too : IsSample c.args.w = search rules in
    let way : c.toward.result ≡ pole_of c.args.mix c.args.x c.args.w = search rules in
    to_z-of_z w32 c.toward.result fits ∙ way ∙ delayed_is c.args.x c.args.w c.args.mix c.requires is too

use Rattle.std.proofs.Common.{arith}
use Rattle.vh_lane.proofs.Segments.{pass_other}
use Rattle.vh_lane.proofs.lane.pass.Goals as goal

pub returns-else-breaks-passed : goal.returns-else-breaks-passed
returns-else-breaks-passed c =
    pass_other c.args.breaks.now c.args.passed c.args.s (0, 0) c.requires.breaks c.requires.passed (omega (arith, c.requires.passed.most, c.if-passed-breaks.false)) c.if-breaks-passed.false

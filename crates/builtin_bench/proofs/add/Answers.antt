use Rattle.std.proofs.Common.{List, sym, subst, arith}
use Rattle.vh_points.specs.Model.{queues_of}
use Rattle.vh_points.specs.Queues.{Queue}
use Rattle.builtin_bench.specs.Filled.{IsFilled}
use Rattle.builtin_bench.proofs.Filling.{filled_more}
use Rattle.builtin_bench.proofs.add.Goals as goal

pub returns-then-may_follow-clause-filled : goal.returns-then-may_follow-clause-filled
returns-then-may_follow-clause-filled c =
    subst (λ (queues : List Queue). IsFilled c.args.n queues) (sym c.add_point.ensures.added)
    (filled_more c.args.n (queues_of c.args.points.now) c.args.q c.args.offset c.args.value c.requires.filled (omega (arith, c.requires.last)) c.if-offset-n.true)

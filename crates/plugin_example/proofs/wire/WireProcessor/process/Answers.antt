use Rattle.std.proofs.Common.{sym}
use Rattle.plugin_example.specs.Wires.{no_queues}
use Rattle.plugin_example.proofs.wire.WireProcessor.process.Goals as goal

pub returns-clause-values : goal.returns-clause-values
returns-clause-values c = sym (no_queues c.args.n c.args.self.now.level _ c.requires.points)

use Rattle.std.proofs.Common.{◌∙◌}
use Rattle.vh_session.specs.Names.{content_of}
use Rattle.vh_core.proofs.Through.{frames_seen}
use Rattle.vh_core.proofs.machine.Machine.frames.Goals as goal

pub returns : goal.returns
returns g c = c.deref.ensures.value ∙ frames_seen g.P.Processor.class_of g.P.Processor.code g.P.Processor.state g.P.Life.phase g.P.Life.last_setup (content_of c.self.inside.session.now) c.self.inside.plan c.self.inside.room c.self.inside.processors.items c.self.inside.kept c.args.self.now c.self.view_is c.self.invariant

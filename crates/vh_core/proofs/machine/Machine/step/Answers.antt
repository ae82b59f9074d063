use Rattle.vh_session.specs.Names.{content_of}
use Rattle.vh_core.proofs.Through.{sound_seen}
use Rattle.vh_core.proofs.machine.Machine.step.Goals as goal

pub returns-clause-sound : goal.returns-clause-sound
returns-clause-sound g c =
    sound_seen g.P.Processor.class_of g.P.Processor.code g.P.Processor.state g.P.Life.phase g.P.Life.last_setup (content_of c.self.inside.session.now) c.self.inside.plan c.self.inside.room c.self.inside.processors.items c.self.inside.kept _ c.self.view_is c.self.invariant

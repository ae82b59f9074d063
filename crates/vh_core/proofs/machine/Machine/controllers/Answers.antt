use Rattle.std.proofs.Common.{◌∙◌}
use Rattle.vh_session.specs.Names.{content_of}
use Rattle.vh_core.proofs.Through.{controllers_seen}
use Rattle.vh_core.proofs.machine.Machine.controllers.Goals as goal

pub returns-clause-equal : goal.returns-clause-equal
returns-clause-equal g c = λ returned. c.deref.ensures.value ∙ controllers_seen g.P.Processor.class_of g.P.Processor.code g.P.Processor.state g.P.Life.phase g.P.Life.last_setup (content_of c.self.inside.session.now) c.self.inside.plan c.self.inside.room c.self.inside.processors.items c.self.inside.kept c.args.self.now c.self.view_is c.self.invariant returned

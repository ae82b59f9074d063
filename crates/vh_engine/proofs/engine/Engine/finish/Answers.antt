use Rattle.std.proofs.Common.{◌≡◌, refl, subst}
use Rattle.vh_engine.specs.Engine.{entries_left}
use Rattle.vh_engine.specs.Kept.{Kept}
use Rattle.vh_engine.specs.Parts.{IsGivenBack}
use Rattle.vh_engine.proofs.Here.{all_processing}
use Rattle.vh_engine.proofs.engine.Engine.finish.Goals as goal

pub returns : goal.returns
returns g c =
    let parts = c.self.inside.parts in
    let work = c.self.inside.work in
    subst (λ (k : Kept). IsGivenBack g.P.Processor.code g.P.Processor.calls g.P.Processor.state g.P.Life.phase k parts) c.self.view_is (record {
      session = refl;
      codes = refl;
      calls_are = refl;
      states = refl;
      holders = refl;
      processing = all_processing g.P.Processor.class_of g.P.Processor.code g.P.Processor.values g.P.Life.phase g.P.Life.last_setup parts work (entries_left parts.session.length work.pos work.flushed) c.self.invariant;
      first = refl;
    })

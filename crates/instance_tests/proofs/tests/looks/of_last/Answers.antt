use Rattle.std.proofs.Common.{◌≡◌, sym, subst}
use Rattle.std.specs.Prelude.{All}
use Rattle.vh_component.specs.declared.setup.Phase.{Phase}
use Rattle.vh_component.specs.declared.setup.Phase.TheVariants.{Processing as AtProcessing}
use Rattle.vh_component.specs.States.{of_processing}
use Rattle.vh_counted.specs.Held.{value_of_opened}
use Rattle.vh_instance.specs.Band.{of_processors}
use Rattle.instance_tests.proofs.Fronts.{replaced}
use Rattle.instance_tests.proofs.tests.looks.of_last.Goals as goal

pub returns-clause-processing : goal.returns-clause-processing
returns-clause-processing g c =
    subst (λ items. All (λ (phase : Phase). phase ≡ AtProcessing) (of_processors g.P.Life.phase items)) (sym c.push_reserved.ensures.items)
    (replaced (λ (phase : Phase). phase ≡ AtProcessing) (λ processor. g.P.Life.phase (value_of_opened (of_processing processor))) c.args.processors.now.items c.take_last-processor.new.self.items c.take_last-processor.result _ c.take_last-processor.ensures.items c.requires.processing c.start.ensures.phase)

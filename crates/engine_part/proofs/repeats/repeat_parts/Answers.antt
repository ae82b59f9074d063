use Rattle.std.proofs.Common.{◌≡◌, sym, subst}
use Rattle.std.specs.Prelude.{All}
use Rattle.vh_component.specs.declared.setup.Phase.TheVariants.{Processing as AtProcessing}
use Rattle.vh_engine.specs.declared.parts.Parts.{Parts}
use Rattle.vh_engine.specs.Staged.{of_all}
use Rattle.engine_part.proofs.Parted.{all_processing}
use Rattle.engine_part.proofs.repeats.repeat_parts.Goals as goal

pub returns-in_default-clause-processing : goal.returns-in_default-clause-processing
returns-in_default-clause-processing g c = all_processing g.P.Processor.class_of g.P.Processor.code g.P.Processor.state g.P.Processor.values g.P.Life.phase g.P.Life.last_setup c.args.parts c.args.size c.requires.parts

pub returns-clause-processing : goal.returns-clause-processing
returns-clause-processing g c =
    subst (λ (parts : Parts g.row.P.Denot). All (λ at. at ≡ AtProcessing) (of_all g.P.Life.phase parts.processors.items)) (sym c.in-Err.ensures.back)
    (all_processing g.P.Processor.class_of g.P.Processor.code g.P.Processor.state g.P.Processor.values g.P.Life.phase g.P.Life.last_setup c.args.parts c.args.size c.requires.parts)

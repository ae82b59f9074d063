use Rattle.std.proofs.Common.{◌≡◌, sym, subst}
use Rattle.std.specs.Prelude.{All}
use Rattle.vh_component.specs.declared.setup.Phase.TheVariants.{Processing as AtProcessing}
use Rattle.vh_engine.specs.declared.parts.Parts.{Parts}
use Rattle.vh_engine.specs.Staged.{of_all}
use Rattle.engine_part.proofs.Parted.{all_processing, has_classes}
use Rattle.engine_part.proofs.engines.play_parts.Goals as goal

pub play_engine-requires-clause-classes : goal.play_engine-requires-clause-classes
play_engine-requires-clause-classes g c = has_classes g.P.Processor.class_of g.P.Processor.code g.P.Processor.state g.P.Processor.values g.P.Life.phase g.P.Life.last_setup c.args.parts c.args.score.now.size c.requires.parts g.P.Processor.calls _ c.in-Ok.engine c.in-Ok.ensures.fresh

pub returns-in-Err-clause-processing : goal.returns-in-Err-clause-processing
returns-in-Err-clause-processing g c =
    subst (λ (parts : Parts g.row.P.Denot). All (λ at. at ≡ AtProcessing) (of_all g.P.Life.phase parts.processors.items)) (sym c.in-Err.ensures.back)
    (all_processing g.P.Processor.class_of g.P.Processor.code g.P.Processor.state g.P.Processor.values g.P.Life.phase g.P.Life.last_setup c.args.parts c.args.score.now.size c.requires.parts)

use Rattle.std.proofs.Common.{[], ◌∙◌}
use Rattle.vh_counted.specs.Held.{object_of}
use Rattle.vh_instance.specs.Seats.{processor_seat}
use Rattle.vh_instance.proofs.Ends.{first_of}
use Rattle.vh_instance.proofs.end.end_component.Goals as goal

pub end_whole-holder-requires-clause-of_this : goal.end_whole-holder-requires-clause-of_this
end_whole-holder-requires-clause-of_this g c =
    c.terminate-opener.ensures.step.object ∙ c.deactivate.ensures.step.object ∙ c.stop.ensures.step.object ∙ first_of (object_of c.args.component) (processor_seat c.args.processor) [] c.requires.held

pub dissolve-requires-clause-of_this : goal.dissolve-requires-clause-of_this
dissolve-requires-clause-of_this g c =
    c.end_whole-holder.ensures.object ∙ c.terminate-opener.ensures.step.object ∙ c.deactivate.ensures.step.object ∙ c.stop.ensures.step.object ∙ first_of (object_of c.args.component) (processor_seat c.args.processor) [] c.requires.held

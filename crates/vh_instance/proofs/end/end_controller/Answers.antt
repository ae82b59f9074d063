use Rattle.std.proofs.Common.{[], ◌∙◌}
use Rattle.vh_counted.specs.Held.{object_of}
use Rattle.vh_instance.specs.Seats.{opener_seat}
use Rattle.vh_instance.proofs.Ends.{first_of}
use Rattle.vh_instance.proofs.end.end_controller.Goals as goal

pub end_whole-holder-requires-clause-of_this : goal.end_whole-holder-requires-clause-of_this
end_whole-holder-requires-clause-of_this g c = first_of (object_of c.args.controller) (opener_seat c.args.opener) [] c.requires

pub dissolve-requires-clause-of_this : goal.dissolve-requires-clause-of_this
dissolve-requires-clause-of_this g c = c.end_whole-holder.ensures.object ∙ first_of (object_of c.args.controller) (opener_seat c.args.opener) [] c.requires

use Rattle.std.proofs.Common.{◌∙◌}
use Rattle.vh_instance.proofs.Making.{seat_is}
use Rattle.vh_component.specs.States.{of_processing}
use Rattle.vh_instance.proofs.component.start.Goals as goal

pub returns-clause-seat : goal.returns-clause-seat
returns-clause-seat g c =
    seat_is (of_processing c.start.result) c.args.opener
    (c.start.ensures.step.object ∙ c.activate.ensures.step.object ∙ c.set_up.ensures.step.object ∙ c.initialize-initialized.ensures.step.object)
    (c.start.ensures.step.numbers ∙ c.activate.ensures.step.numbers ∙ c.set_up.ensures.step.numbers ∙ c.initialize-initialized.ensures.step.numbers)

use Rattle.std.proofs.Common.{◌≡◌, take}
use Rattle.vh_instance.specs.Band.{of_openers}
use Rattle.vh_host.proofs.render.modes.Given as goal

abbrev pub invariant-loop-opened : goal.invariant-loop-opened
invariant-loop-opened g l = record { modes : l.modes.items ≡ of_openers g.C.Controller.mode (take l.opened-index l.edits) }

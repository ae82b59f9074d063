use Rattle.std.proofs.Common.{◌∙◌, sym}
use Rattle.vh_journal_text.specs.Standing.{has_gesture}
use Rattle.vh_journal_text.specs.View.{so_far}
use Rattle.vh_journal_text.proofs.Tracked.{open_is_kept}
use Rattle.vh_journal_text.proofs.standing.Standing.is_open.Goals as goal

pub returns : goal.returns
returns c = c.contains.ensures ∙ sym (open_is_kept (so_far c.args.self.now) (has_gesture c.args.self.now.open) c.args.editor c.args.node c.args.id c.requires.gestures)

use Rattle.std.proofs.Common.{sym, subst}
use Rattle.vh_journal_text.specs.Standing.{IsKept}
use Rattle.vh_journal_text.proofs.standing.keep_gestures.Goals as goal

pub returns-in_ok-insert-in-Begin : goal.returns-in_ok-insert-in-Begin
returns-in_ok-insert-in-Begin c =
    subst (λ m. IsKept c.args.open.now c.insert.new.self c.args.editor m) (sym c.in-Begin.is) (λ e n i. c.in_ok-insert-in-Begin.ensures.updates.0 (record { editor = e; node = n; id = i }))

pub returns-in-End : goal.returns-in-End
returns-in-End c =
    subst (λ m. IsKept c.args.open.now c.remove.new.self c.args.editor m) (sym c.in-End.is) (λ e n i. c.remove.ensures.updates.0 (record { editor = e; node = n; id = i }))

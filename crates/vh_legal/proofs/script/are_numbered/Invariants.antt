use Rattle.std.proofs.Common.{ℕ, ◌<◌, get_or}
use Rattle.vh_params.specs.declared.command.Command.{Command}
use Rattle.vh_journal.specs.declared.entry.Entry.{Entry}
use Rattle.vh_legal.proofs.Numbered.{IsNumber}
use Rattle.vh_legal.proofs.script.are_numbered.Given as goal

abbrev pub invariant-loop-i : goal.invariant-loop-i
invariant-loop-i l = (k : ℕ) (d : Entry) (e : Command) → k < l.i → IsNumber k (get_or l.entries k d) (get_or l.commands k e)

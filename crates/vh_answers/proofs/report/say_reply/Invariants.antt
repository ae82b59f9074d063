use Rattle.std.proofs.Common.{◌≡◌, ◌≤◌, ◌+◌, ◌*◌, ◌++◌, length, map, drop}
use Rattle.std.specs.Fmt.{decimal}
use Rattle.vh_text.specs.Written.{further_text}
use Rattle.vh_answers.specs.Told.{written_in}
use Rattle.vh_answers.proofs.report.say_reply.Given as goal

abbrev pub invariant-loop-word : goal.invariant-loop-word
invariant-loop-word g l =
    (length (written_in l.line) ≤ length (written_in l.initial.line) + 11 * l.word-index)
    × (written_in l.line ++ further_text (map decimal (drop l.word-index l.word-items)) ≡ written_in l.initial.line ++ further_text (map decimal l.word-items))

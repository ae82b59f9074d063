use Rattle.std.proofs.Common.{◌≡◌, ◌<◌, ◌+◌, ◌^◌, length}
use Rattle.std.specs.Prelude.{All}
use Rattle.vh_params.specs.ClassList.{classes_of}
use Rattle.vh_session.specs.Sound.{IsSound}
use Rattle.vh_text.specs.Left.{left}
use Rattle.vh_session.specs.Reading.{lines_from}
use Rattle.vh_session.specs.View.{draft_in}
use Rattle.vh_session.proofs.reader.read_lines.Given as goal

abbrev pub invariant-loop-text : goal.invariant-loop-text
invariant-loop-text l =
    (goal.iterator-loop-text).can_next l.text-iterator ×
    (goal.iterator-loop-text).is_finite l.text-iterator
    × IsSound l.draft
    × (l.line + length (left l.text-iterator) ≡ 1 + length (left l.fn.lines))
    × All (λ text. length text < 2 ^ 32) (left l.text-iterator)
    × (lines_from (classes_of l.classes) 2 (draft_in l.fn.draft) (left l.fn.lines) ≡ lines_from (classes_of l.classes) (l.line + 1) (draft_in l.draft) (left l.text-iterator))

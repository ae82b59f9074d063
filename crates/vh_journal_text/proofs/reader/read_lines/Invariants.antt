use Rattle.std.proofs.Common.{◌≡◌, ◌<◌, ◌+◌, ◌^◌, length}
use Rattle.std.specs.Prelude.{All}
use Rattle.vh_params.specs.Nodes.{nodes_of}
use Rattle.vh_text.specs.Left.{left}
use Rattle.vh_journal_text.specs.Reading.{items_from}
use Rattle.vh_journal_text.specs.Standing.{StandsFor}
use Rattle.vh_journal_text.specs.Steps.{left_of}
use Rattle.vh_journal_text.specs.View.{so_far}
use Rattle.vh_journal_text.proofs.reader.read_lines.Given as goal

abbrev pub invariant-loop-text : goal.invariant-loop-text
invariant-loop-text l =
    (goal.iterator-loop-text).can_next l.text-iterator ×
    (goal.iterator-loop-text).is_finite l.text-iterator
    × StandsFor l.standing
    × (l.line + length (left l.text-iterator) ≡ 1 + length (left l.fn.lines))
    × All (λ text. length text < 2 ^ 32) (left l.text-iterator)
    × (items_from (nodes_of l.nodes) l.frames 2 (so_far l.fn.standing) (left l.fn.lines) ≡ left_of (nodes_of l.nodes) l.frames l.closed (l.line + 1) (so_far l.standing) (left l.text-iterator))

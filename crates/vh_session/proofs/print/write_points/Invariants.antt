use Rattle.std.proofs.Common.{◌≡◌, ◌++◌, map, drop}
use Rattle.vh_session.specs.Text.{point_words}
use Rattle.vh_text.specs.Written.{lines_text}
use Rattle.vh_session.proofs.print.write_points.Given as goal

abbrev pub invariant-loop-point : goal.invariant-loop-point
invariant-loop-point l = l.text.bytes.items ++ lines_text (map point_words (drop l.point-index l.points)) ≡ l.fn.text.bytes.items ++ lines_text (map point_words l.points)

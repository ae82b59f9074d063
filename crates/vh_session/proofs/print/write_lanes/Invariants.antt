use Rattle.std.proofs.Common.{◌≡◌, ◌++◌, map, drop}
use Rattle.vh_params.specs.Nodes.{nodes_of}
use Rattle.vh_session.specs.Parts.{laned}
use Rattle.vh_session.specs.Text.{lanes_words}
use Rattle.vh_text.specs.Written.{lines_text}
use Rattle.vh_session.proofs.print.write_lanes.Given as goal

abbrev pub invariant-loop-lane : goal.invariant-loop-lane
invariant-loop-lane l = l.text.bytes.items ++ lines_text (lanes_words (nodes_of l.nodes) (drop l.lane-index (map laned l.lanes))) ≡ l.fn.text.bytes.items ++ lines_text (lanes_words (nodes_of l.nodes) (map laned l.lanes))

use Rattle.std.proofs.Common.{◌≡◌, ◌++◌, map, drop}
use Rattle.vh_params.specs.Nodes.{nodes_of}
use Rattle.vh_session.specs.Text.{wire_words}
use Rattle.vh_text.specs.Written.{lines_text}
use Rattle.vh_session.proofs.print.write_wires.Given as goal

abbrev pub invariant-loop-wire : goal.invariant-loop-wire
invariant-loop-wire l = l.text.bytes.items ++ lines_text (map (wire_words (nodes_of l.nodes)) (drop l.wire-index l.wires)) ≡ l.fn.text.bytes.items ++ lines_text (map (wire_words (nodes_of l.nodes)) l.wires)

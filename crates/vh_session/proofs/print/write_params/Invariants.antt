use Rattle.std.proofs.Common.{◌≡◌, ◌++◌, map, drop}
use Rattle.vh_params.specs.Nodes.{nodes_of}
use Rattle.vh_session.specs.Text.{param_words}
use Rattle.vh_text.specs.Written.{lines_text}
use Rattle.vh_session.proofs.print.write_params.Given as goal

abbrev pub invariant-loop-first : goal.invariant-loop-first
invariant-loop-first l = l.text.bytes.items ++ lines_text (map (param_words (nodes_of l.nodes)) (drop l.first-index l.firsts)) ≡ l.fn.text.bytes.items ++ lines_text (map (param_words (nodes_of l.nodes)) l.firsts)

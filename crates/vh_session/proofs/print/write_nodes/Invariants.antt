use Rattle.std.proofs.Common.{◌≡◌, ◌++◌, map, drop}
use Rattle.vh_params.specs.Nodes.{nodes_of}
use Rattle.vh_session.specs.Text.{node_words}
use Rattle.vh_text.specs.Written.{lines_text}
use Rattle.vh_session.proofs.print.write_nodes.Given as goal

abbrev pub invariant-loop-node : goal.invariant-loop-node
invariant-loop-node l = l.text.bytes.items ++ lines_text (map node_words (drop l.node (nodes_of l.nodes))) ≡ l.fn.text.bytes.items ++ lines_text (map node_words (nodes_of l.nodes))

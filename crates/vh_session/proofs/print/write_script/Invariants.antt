use Rattle.std.proofs.Common.{◌≡◌, ◌++◌, map, drop}
use Rattle.vh_params.specs.Nodes.{nodes_of}
use Rattle.vh_session.specs.View.{script_word}
use Rattle.vh_session.specs.Text.{script_words}
use Rattle.vh_text.specs.Written.{lines_text}
use Rattle.vh_session.proofs.print.write_script.Given as goal

abbrev pub invariant-loop-word : goal.invariant-loop-word
invariant-loop-word l = l.text.bytes.items ++ lines_text (map (script_words (nodes_of l.nodes)) (drop l.word-index (map script_word l.script))) ≡ l.fn.text.bytes.items ++ lines_text (map (script_words (nodes_of l.nodes)) (map script_word l.script))

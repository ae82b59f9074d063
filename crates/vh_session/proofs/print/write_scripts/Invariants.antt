use Rattle.std.proofs.Common.{◌≡◌, ◌++◌, map, drop}
use Rattle.vh_params.specs.Nodes.{nodes_of}
use Rattle.vh_session.specs.View.{script_text}
use Rattle.vh_session.specs.Text.{scripts_words}
use Rattle.vh_text.specs.Written.{lines_text}
use Rattle.vh_session.proofs.print.write_scripts.Given as goal

abbrev pub invariant-loop-editor : goal.invariant-loop-editor
invariant-loop-editor l = l.text.bytes.items ++ lines_text (scripts_words (nodes_of l.nodes) l.editor (drop l.editor (map script_text l.scripts))) ≡ l.fn.text.bytes.items ++ lines_text (scripts_words (nodes_of l.nodes) 0 (map script_text l.scripts))

use Rattle.std.proofs.Common.{◌≡◌, ◌++◌, map, drop}
use Rattle.vh_params.specs.Nodes.{nodes_of}
use Rattle.vh_session.specs.Parts.{preset_text}
use Rattle.vh_session.specs.Text.{preset_words}
use Rattle.vh_text.specs.Written.{lines_text}
use Rattle.vh_session.proofs.print.write_presets.Given as goal

abbrev pub invariant-loop-preset : goal.invariant-loop-preset
invariant-loop-preset l = l.text.bytes.items ++ lines_text (map (preset_words (nodes_of l.nodes)) (drop l.preset-index (map preset_text l.presets))) ≡ l.fn.text.bytes.items ++ lines_text (map (preset_words (nodes_of l.nodes)) (map preset_text l.presets))

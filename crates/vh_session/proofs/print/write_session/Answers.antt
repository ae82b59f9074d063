use Rattle.std.proofs.Common.{rules, ◌≡◌, ◌++◌, map}
use Rattle.vh_params.specs.Nodes.{nodes_of}
use Rattle.vh_session.specs.Names.{content_of}
use Rattle.vh_session.specs.Parts.{preset_text, laned}
use Rattle.vh_session.specs.View.{script_text}
use Rattle.vh_session.specs.Text.{session_text, settings_words, node_words, preset_words, param_words, wire_words, lanes_words, scripts_words}
use Rattle.vh_text.specs.Written.{lines_text}
use Rattle.vh_session.proofs.Written.{all_lines}
use Rattle.vh_session.proofs.print.write_session.Goals as goal

pub returns : goal.returns
unfolding session_text
returns c =
    let s = c.args.session.now in
    let nodes = nodes_of s.nodes in
    let w0 : c.write_settings.new.text.bytes.items ≡ c.args.text.now.bytes.items ++ lines_text (settings_words (content_of s)) = search rules in
    let w1 : c.write_nodes.new.text.bytes.items ≡ c.write_settings.new.text.bytes.items ++ lines_text (map node_words nodes) = search rules in
    let w2 : c.write_presets.new.text.bytes.items ≡ c.write_nodes.new.text.bytes.items ++ lines_text (map (preset_words nodes) (map preset_text s.presets.items)) = search rules in
    let w3 : c.write_params.new.text.bytes.items ≡ c.write_presets.new.text.bytes.items ++ lines_text (map (param_words nodes) s.firsts.items) = search rules in
    let w4 : c.write_wires.new.text.bytes.items ≡ c.write_params.new.text.bytes.items ++ lines_text (map (wire_words nodes) s.wires.items) = search rules in
    let w5 : c.write_lanes.new.text.bytes.items ≡ c.write_wires.new.text.bytes.items ++ lines_text (lanes_words nodes (map laned s.lanes.items)) = search rules in
    let w6 : c.write_scripts.new.text.bytes.items ≡ c.write_lanes.new.text.bytes.items ++ lines_text (scripts_words nodes 0 (map script_text s.scripts.items)) = search rules in
    all_lines c.args.text.now.bytes.items c.write_settings.new.text.bytes.items c.write_nodes.new.text.bytes.items c.write_presets.new.text.bytes.items c.write_params.new.text.bytes.items c.write_wires.new.text.bytes.items c.write_lanes.new.text.bytes.items c.write_scripts.new.text.bytes.items
    (settings_words (content_of s)) (map node_words nodes) (map (preset_words nodes) (map preset_text s.presets.items)) (map (param_words nodes) s.firsts.items) (map (wire_words nodes) s.wires.items) (lanes_words nodes (map laned s.lanes.items)) (scripts_words nodes 0 (map script_text s.scripts.items))
    w0 w1 w2 w3 w4 w5 w6

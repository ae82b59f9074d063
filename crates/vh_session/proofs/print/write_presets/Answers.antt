use Rattle.std.proofs.Common.{rules, ◌≡◌, ◌∙◌, ◌<◌, ◌++◌, ℕ, map, length, get_or, sym, subst, ap, Vec, arith}
use Rattle.std.specs.declared.alloc.Global.{Global}
use Rattle.std.proofs.lemmas.List.{get_or-map, length-map}
use Rattle.vh_params.specs.Nodes.{nodes_of}
use Rattle.vh_session.specs.Parts.{preset_text}
use Rattle.vh_session.specs.Text.{preset_words}
use Rattle.vh_text.specs.Written.{line_text, lines_text}
use Rattle.vh_text.proofs.Written.{next_line}
use Rattle.vh_session.proofs.print.write_presets.Goals as goal

pub write_preset-requires : goal.write_preset-requires
write_preset-requires c =
    let d = c.preset-item.result in
    subst (λ (p : ℕ × Vec ℕ Global). p.0 < length (nodes_of c.args.nodes.now)) (sym c.preset-item.is) (c.requires c.loop-preset.preset-index d c.loop-preset-test.true)

pub loop-preset-preserved : goal.loop-preset-preserved
loop-preset-preserved c =
    let nodes = nodes_of c.args.nodes.now in
    let presets = c.args.presets.now in
    let i = c.loop-preset.preset-index in
    let d = c.preset-item.result in
    let texts = map preset_text presets in
    let long = length-map presets preset_text in
    let lt = c.loop-preset-test.true in
    let within : i < length texts = omega (arith, lt, long) in
    let here : get_or texts i (preset_text d) ≡ preset_text d = get_or-map preset_text presets i d (preset_text d) lt ∙ ap preset_text (sym c.preset-item.is) in
    let wrote : c.write_preset.new.text.bytes.items ≡ c.loop-preset.text.bytes.items ++ line_text (preset_words nodes (preset_text d)) = search rules in
    next_line (preset_words nodes) texts i (preset_text d) c.loop-preset.text.bytes.items c.write_preset.new.text.bytes.items (c.args.text.now.bytes.items ++ lines_text (map (preset_words nodes) texts)) within c.loop-preset.invariant
    (wrote ∙ ap (λ p. c.loop-preset.text.bytes.items ++ line_text (preset_words nodes p)) (sym here))

use Rattle.std.proofs.Common.{rules, ◌≡◌, ◌∙◌, ◌<◌, ◌++◌, ◌∷◌, [], map, length, get_or, sym, ap, arith}
use Rattle.std.specs.Prelude.{codes}
use Rattle.std.specs.Fmt.{decimal}
use Rattle.std.proofs.lemmas.List.{get_or-map, length-map}
use Rattle.vh_params.specs.Nodes.{nodes_of}
use Rattle.vh_session.specs.View.{script_text, script_word}
use Rattle.vh_session.specs.Text.{script_words, scripts_words}
use Rattle.vh_text.specs.Written.{line_text, lines_text}
use Rattle.vh_session.proofs.Written.{next_script}
use Rattle.vh_session.proofs.print.write_scripts.Goals as goal

pub loop-editor-preserved : goal.loop-editor-preserved
loop-editor-preserved c =
    let nodes = nodes_of c.args.nodes.now in
    let scripts = c.args.scripts.now in
    let i = c.loop-editor.editor in
    let d = c.index-scripts-editor.result in
    let texts = map script_text scripts in
    let long = length-map scripts script_text in
    let lt = c.loop-editor-test.true in
    let within : i < length texts = omega (arith, lt, long) in
    let here : get_or texts i [] ≡ map script_word c.deref.result.now = get_or-map script_text scripts i d [] lt ∙ ap script_text (sym c.index-scripts-editor.is) ∙ ap (λ ws. map script_word ws) (sym c.deref.ensures.value) in
    let first : c.write_setting.new.text.bytes.items ≡ c.loop-editor.text.bytes.items ++ line_text (codes "editor" ∷ decimal i ∷ []) = search rules in
    let wrote : c.write_script.new.text.bytes.items ≡ c.write_setting.new.text.bytes.items ++ lines_text (map (script_words nodes) (map script_word c.deref.result.now)) = search rules in
    next_script nodes texts i c.loop-editor.text.bytes.items c.write_setting.new.text.bytes.items c.write_script.new.text.bytes.items (c.args.text.now.bytes.items ++ lines_text (scripts_words nodes 0 texts)) within c.loop-editor.invariant first
    (wrote ∙ ap (λ ws. c.write_setting.new.text.bytes.items ++ lines_text (map (script_words nodes) ws)) (sym here))

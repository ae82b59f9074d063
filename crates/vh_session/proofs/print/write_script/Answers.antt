use Rattle.std.proofs.Common.{rules, ◌≡◌, ◌∙◌, ◌<◌, ◌++◌, map, length, get_or, sym, ap, arith}
use Rattle.std.proofs.lemmas.List.{get_or-map, length-map}
use Rattle.vh_params.specs.Nodes.{nodes_of}
use Rattle.vh_session.specs.View.{script_word}
use Rattle.vh_session.specs.Text.{script_words}
use Rattle.vh_text.specs.Written.{line_text, lines_text}
use Rattle.vh_text.proofs.Written.{next_line}
use Rattle.vh_session.proofs.print.write_script.Goals as goal

pub loop-word-preserved : goal.loop-word-preserved
loop-word-preserved c =
    let nodes = nodes_of c.args.nodes.now in
    let script = c.args.script.now in
    let i = c.loop-word.word-index in
    let d = c.word-item.result in
    let words = map script_word script in
    let long = length-map script script_word in
    let lt = c.loop-word-test.true in
    let within : i < length words = omega (arith, lt, long) in
    let here : get_or words i (script_word d) ≡ script_word d = get_or-map script_word script i d (script_word d) lt ∙ ap script_word (sym c.word-item.is) in
    let wrote : c.write_script_word.new.text.bytes.items ≡ c.loop-word.text.bytes.items ++ line_text (script_words nodes (script_word d)) = search rules in
    next_line (script_words nodes) words i (script_word d) c.loop-word.text.bytes.items c.write_script_word.new.text.bytes.items (c.args.text.now.bytes.items ++ lines_text (map (script_words nodes) words)) within c.loop-word.invariant
    (wrote ∙ ap (λ w. c.loop-word.text.bytes.items ++ line_text (script_words nodes w)) (sym here))

use Rattle.std.proofs.Common.{rules, ◌≡◌, ◌∙◌, ◌<◌, ◌++◌, map, length, get_or, sym, ap, arith}
use Rattle.std.proofs.lemmas.List.{length-map}
use Rattle.std.proofs.Math.ListN.{get_or-map}
use Rattle.vh_params.specs.Nodes.{nodes_of}
use Rattle.vh_text.specs.Written.{written, line_text, lines_text}
use Rattle.vh_text.proofs.Written.{next_line}
use Rattle.vh_journal_text.specs.Items.{item_of, items_of}
use Rattle.vh_journal_text.specs.Text.{item_words}
use Rattle.vh_journal_text.proofs.canonical.write_entries.Goals as goal

pub loop-entry-preserved : goal.loop-entry-preserved
loop-entry-preserved c =
    let nodes = nodes_of c.args.nodes.now in
    let entries = c.args.entries.now in
    let i = c.loop-entry.entry-index in
    let d = c.entry-item.result in
    let items = items_of entries in
    let long = length-map entries item_of in
    let lt = c.loop-entry-test.true in
    let within : i < length items = omega (arith, lt, long) in
    let here : get_or items i (item_of d) ≡ item_of d = get_or-map item_of entries i d ∙ ap item_of (sym c.entry-item.is) in
    let wrote : written c.write_entry.new.text ≡ written c.loop-entry.text ++ line_text (item_words nodes (item_of d)) = search rules in
    next_line (item_words nodes) items i (item_of d) (written c.loop-entry.text) (written c.write_entry.new.text) (written c.args.text.now ++ lines_text (map (item_words nodes) items)) within c.loop-entry.invariant
    (wrote ∙ ap (λ x. written c.loop-entry.text ++ line_text (item_words nodes x)) (sym here))

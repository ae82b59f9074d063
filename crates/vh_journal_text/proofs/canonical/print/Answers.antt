use Rattle.std.proofs.Common.{◌≡◌, ◌∙◌, ◌++◌, ap}
use Rattle.vh_params.specs.Nodes.{nodes_of}
use Rattle.vh_text.specs.Written.{written, line_text}
use Rattle.vh_journal_text.specs.Items.{items_of}
use Rattle.vh_journal_text.specs.Reading.{journal_of}
use Rattle.vh_journal_text.specs.Text.{header_words, journal_text}
use Rattle.vh_journal_text.proofs.ReadsBack.{law_printed_is_read}
use Rattle.vh_journal_text.proofs.Whole.{text_is}
use Rattle.vh_journal_text.proofs.canonical.print.Goals as goal

says : (c : goal.After-finish) → c.finish.result.items ≡ journal_text (nodes_of c.args.nodes.now) (items_of c.args.entries.now)
says c =
    let header : written c.begin.new.self ≡ line_text header_words = c.in_ok-begin.ensures ∙ ap (λ bs. bs ++ line_text header_words) c.new-text.ensures in
    c.finish.ensures ∙ text_is (nodes_of c.args.nodes.now) (items_of c.args.entries.now) (written c.begin.new.self) (written c.write_entries.new.text) (written c.begin-2.new.self) header c.in_ok-write_entries.ensures c.in_ok-begin-2.ensures

pub returns-clause-text : goal.returns-clause-text
returns-clause-text c = says c

pub returns-clause-reads_back : goal.returns-clause-reads_back
returns-clause-reads_back c most small are =
    let nodes = nodes_of c.args.nodes.now in
    let items = items_of c.args.entries.now in
    ap (journal_of nodes most) (says c) ∙ law_printed_is_read nodes most items c.names_differ.ensures small are

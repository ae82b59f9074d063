use Rattle.std.proofs.Common.{◌≡◌, ◌++◌, map, drop}
use Rattle.vh_params.specs.Nodes.{nodes_of}
use Rattle.vh_text.specs.Written.{written, lines_text}
use Rattle.vh_journal_text.specs.Items.{items_of}
use Rattle.vh_journal_text.specs.Text.{item_words}
use Rattle.vh_journal_text.proofs.canonical.write_entries.Given as goal

abbrev pub invariant-loop-entry : goal.invariant-loop-entry
invariant-loop-entry l = written l.text ++ lines_text (map (item_words (nodes_of l.nodes)) (drop l.entry-index (items_of l.entries))) ≡ written l.fn.text ++ lines_text (map (item_words (nodes_of l.nodes)) (items_of l.entries))

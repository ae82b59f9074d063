-- The canonical text of a journal: its lines as words, with single spaces between them.
use Rattle.std.specs.Prelude.{ℕ, List, [], ◌∷◌, ◌++◌, map, codes}
use Rattle.std.specs.Fmt.{decimal}
use Rattle.vh_params.specs.Nodes.{Node, node_at}
use Rattle.vh_text.specs.Written.{lines_text}
use Rattle.vh_journal_text.specs.Items.{Act, Begins, Performs, Ends, Tells, Item}

abbrev pub name_of : List Node → ℕ → List ℕ
name_of nodes node = (node_at nodes node).name

-- the verb, the node's name and what follows
abbrev pub act_words : List ℕ → Act → List (List ℕ)
act_words name (Begins id) = codes "begin" ∷ name ∷ decimal id ∷ []
act_words name (Performs id value) = codes "perform" ∷ name ∷ decimal id ∷ decimal value ∷ []
act_words name (Ends id) = codes "end" ∷ name ∷ decimal id ∷ []
act_words name (Tells numbers) = codes "tell" ∷ name ∷ map decimal numbers

abbrev pub item_words : List Node → Item → List (List ℕ)
item_words nodes item = decimal item.sample ∷ decimal item.editor ∷ decimal item.seq ∷ act_words (name_of nodes item.node) item.act

abbrev pub header_words : List (List ℕ)
header_words = codes "vsthost" ∷ codes "journal" ∷ codes "1" ∷ []

abbrev pub close_words : List (List ℕ)
close_words = codes "close" ∷ []

-- the first line, the entries and the last line
abbrev pub journal_words : List Node → List Item → List (List (List ℕ))
journal_words nodes items = header_words ∷ (map (item_words nodes) items ++ close_words ∷ [])

unfoldable pub journal_text : List Node → List Item → List ℕ
journal_text nodes items = lines_text (journal_words nodes items)

-- Entries that are written one after the other, and the whole text.
use Rattle.std.proofs.Common.{◌≡◌, ◌∙◌, ℕ, List, [], ◌∷◌, ◌++◌, map, sym, ap}
use Rattle.std.proofs.lemmas.List.{append_assoc}
use Rattle.vh_params.specs.Nodes.{Node}
use Rattle.vh_text.specs.Written.{line_text, lines_text}
use Rattle.vh_text.proofs.Written.{lines_append}
use Rattle.vh_journal_text.specs.Items.{Item}
use Rattle.vh_journal_text.specs.Text.{item_words, header_words, close_words, journal_text}

pub text_is : (nodes : List Node) (items : List Item) (b1 b2 b3 : List ℕ) → b1 ≡ line_text header_words → b2 ≡ b1 ++ lines_text (map (item_words nodes) items) → b3 ≡ b2 ++ line_text close_words → b3 ≡ journal_text nodes items
unfolding journal_text
text_is nodes items b1 b2 b3 header entries close =
    close
    ∙ ap (λ bs. bs ++ line_text close_words) (entries ∙ ap (λ bs. bs ++ lines_text (map (item_words nodes) items)) header)
    ∙ append_assoc (line_text header_words) (lines_text (map (item_words nodes) items)) (line_text close_words)
    ∙ ap (λ bs. line_text header_words ++ bs) (sym (lines_append (map (item_words nodes) items) (close_words ∷ [])))

-- Gestures that are open, counted over an editor's commands or over all entries.
use Rattle.std.proofs.Common.{◌≡◌, ◌∙◌, ℕ, suc, Bool, true, false, ◌==◌, ◌&&◌, cond, List, [], ◌∷◌, length, map, filter, refl, sym, ap, arith}
use Rattle.std.proofs.lemmas.Bool.{le-ltb, lt-ltb}
use Rattle.std.proofs.lemmas.List.Sums.{length-filter}
use Rattle.vh_params.specs.declared.command.Command.{Command}
use Rattle.vh_params.specs.declared.command.Command.TheVariants.{Begin, Perform, End, Tell}
use Rattle.vh_params.specs.declared.command.Word.{Word}
use Rattle.vh_params.specs.declared.command.Word.TheVariants.{Edit}
use Rattle.vh_gesture.specs.Scripts.{is_begin, is_end, count}
use Rattle.vh_journal.specs.declared.entry.Entry.{Entry}
use Rattle.vh_journal_text.specs.Items.{Item, item_of, items_of}
use Rattle.vh_journal_text.specs.Rules.{begins_of, ends_of, is_open}
use Rattle.vh_journal_text.specs.Rules as text
use Rattle.vh_legal.specs.Legal.{is_by, by_editor}
use Rattle.vh_legal.specs.Journals.{commands_of, open_after}

abbrev begins_item : ℕ → ℕ → ℕ → Item → Bool
begins_item editor node id item = text.is_begin editor node id item item.act

abbrev ends_item : ℕ → ℕ → ℕ → Item → Bool
ends_item editor node id item = text.is_end editor node id item item.act

never : (t : Bool) → false ≡ (t && false)
never true = refl
never false = refl

with_command : Entry → Command → Item
with_command entry command = item_of (record entry { command = command })

same_begin : (editor node id : ℕ) (entry : Entry) → begins_item editor node id (item_of entry) ≡ (is_by editor entry && is_begin node id (Edit entry.command))
unfolding with_command
same_begin editor node id entry = elim entry.command as (λ (c : Command). begins_item editor node id (with_command entry c) ≡ ((entry.editor == editor) && is_begin node id (Edit c))) [
  | Begin other key ↦ refl
  | Perform other key value ↦ never (entry.editor == editor)
  | End other key ↦ never (entry.editor == editor)
  | Tell other words ↦ never (entry.editor == editor)
]

same_end : (editor node id : ℕ) (entry : Entry) → ends_item editor node id (item_of entry) ≡ (is_by editor entry && is_end node id (Edit entry.command))
unfolding with_command
same_end editor node id entry = elim entry.command as (λ (c : Command). ends_item editor node id (with_command entry c) ≡ ((entry.editor == editor) && is_end node id (Edit c))) [
  | Begin other key ↦ never (entry.editor == editor)
  | Perform other key value ↦ never (entry.editor == editor)
  | End other key ↦ refl
  | Tell other words ↦ never (entry.editor == editor)
]

-- how many of an editor's commands are so
abbrev so_many : (Word → Bool) → List Entry → ℕ
so_many is own = count is (map Edit (commands_of own))

one_more : (is : Word → Bool) (entry : Entry) (own : List Entry) (item : Item) (items : List Item) → length items ≡ so_many is own
    → length (cond (is (Edit entry.command)) (item ∷ items) items) ≡ so_many is (entry ∷ own)
one_more is entry own item items same =
    let left = filter is (map Edit (commands_of own)) in
    elim (is (Edit entry.command)) as (λ t. length (cond t (item ∷ items) items) ≡ length (cond t (Edit entry.command ∷ left) left)) [
      | true ↦ ap suc same
      | false ↦ same
    ]

-- over all entries as over the editor's own
counted : (editor : ℕ) (is : Word → Bool) (test : Item → Bool) → ((entry : Entry) → test (item_of entry) ≡ (is_by editor entry && is (Edit entry.command)))
    → (entries : List Entry) → length (filter test (items_of entries)) ≡ so_many is (by_editor editor entries)
counted editor is test same [] = refl
counted editor is test same (entry ∷ entries) =
    let left = filter test (items_of entries) in
    let rest = counted editor is test same entries in
    ap (λ t. length (cond t (item_of entry ∷ left) left)) (same entry)
    ∙ elim (is_by editor entry) as (λ t. length (cond (t && is (Edit entry.command)) (item_of entry ∷ left) left) ≡ so_many is (cond t (entry ∷ by_editor editor entries) (by_editor editor entries))) [
      | true ↦ one_more is entry (by_editor editor entries) (item_of entry) left rest
      | false ↦ rest
    ]

begins_are : (before : List Entry) (editor node id : ℕ) → begins_of (items_of before) editor node id ≡ so_many (is_begin node id) (by_editor editor before)
begins_are before editor node id =
    sym (length-filter (begins_item editor node id) (items_of before)) ∙ counted editor (is_begin node id) (begins_item editor node id) (same_begin editor node id) before

ends_are : (before : List Entry) (editor node id : ℕ) → ends_of (items_of before) editor node id ≡ so_many (is_end node id) (by_editor editor before)
ends_are before editor node id =
    sym (length-filter (ends_item editor node id) (items_of before)) ∙ counted editor (is_end node id) (ends_item editor node id) (same_end editor node id) before

pub none_open : (before : List Entry) (editor node id : ℕ) → open_after (commands_of (by_editor editor before)) node id ≡ 0 → is_open (items_of before) editor node id ≡ false
none_open before editor node id none =
    let begun = begins_are before editor node id in
    let ended = ends_are before editor node id in
    le-ltb (ends_of (items_of before) editor node id) (begins_of (items_of before) editor node id) (omega (arith, none, begun, ended))

pub one_open : (before : List Entry) (editor node id : ℕ) → open_after (commands_of (by_editor editor before)) node id ≡ 1 → is_open (items_of before) editor node id ≡ true
one_open before editor node id one =
    let begun = begins_are before editor node id in
    let ended = ends_are before editor node id in
    lt-ltb (ends_of (items_of before) editor node id) (begins_of (items_of before) editor node id) (omega (arith, one, begun, ended))

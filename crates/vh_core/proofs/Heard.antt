-- What an editor's table comes to as it hears what is put.
use Rattle.std.proofs.Common.{◌≡◌, ◌∙◌, ℕ, ◌+◌, Bool, true, false, not, ◌&&◌, ◌==◌, cond, nat_lt, is_none, ◌^◌, List, [], ◌∷◌, length, map, filter, refl, sym, ap, arith}
use Rattle.std.specs.Prelude.{All}
use Rattle.std.specs.List.{AllByRecursion}
use Rattle.std.proofs.lemmas.Bool.{ltb-true}
use Rattle.std.proofs.lemmas.List.Elements.{All-from_recursion}
use Rattle.vh_params.specs.declared.command.Command.{Command}
use Rattle.vh_params.specs.declared.command.Command.TheVariants.{Begin, Perform, End, Tell}
use Rattle.vh_params.specs.declared.command.Word.{Word}
use Rattle.vh_params.specs.declared.command.Word.TheVariants.{Edit, Hold, Unhold, Wait}
use Rattle.vh_params.specs.Nodes.{Node, info_in}
use Rattle.vh_gesture.specs.declared.fault.GestureFault.TheVariants.{NoReference, TooManyHolds, UnknownParam, ReadOnly, OutOfRange, AlreadyOpen, NotOpen}
use Rattle.vh_gesture.specs.Rules.{Counts, NamesNode, first_fault, is_read_only, fault}
use Rattle.vh_gesture.specs.Scripts.{accepted, commands, counts_after}
use Rattle.vh_gesture.specs.Tables.{Table, counts_in, fault_at, after, accepted_by, table_after, fresh}
use Rattle.vh_gesture.specs.Laws.{AreSame, TableCounts}
use Rattle.vh_core.specs.declared.sent.Sent.{Sent}
use Rattle.vh_core.specs.Accepting.{names_node, words_by, edits_by, sent_by}
use Rattle.vh_core.specs.Heard.{is_heard, table_with, edit_count, edits_with}

-- a word's node is there
pub node_named : (nodes : List Node) (word : Word) → names_node nodes word ≡ true → NamesNode nodes word
node_named nodes (Edit (Begin node id)) is = ltb-true node (length nodes) is
node_named nodes (Edit (Perform node id value)) is = ltb-true node (length nodes) is
node_named nodes (Edit (End node id)) is = ltb-true node (length nodes) is
node_named nodes (Edit (Tell node words)) is = ltb-true node (length nodes) is
node_named nodes (Hold node) is = ltb-true node (length nodes) is
node_named nodes (Unhold node) is = ltb-true node (length nodes) is
node_named nodes (Wait block) is = tt

named_words : (nodes : List Node) (words : List Word) → AllByRecursion (NamesNode nodes) (filter (names_node nodes) words)
named_words nodes [] = tt
named_words nodes (word ∷ words) = elim (names_node nodes word) as (λ t. names_node nodes word ≡ t → AllByRecursion (NamesNode nodes) (cond t (word ∷ filter (names_node nodes) words) (filter (names_node nodes) words))) [
  | true ↦ λ is. (node_named nodes word is, named_words nodes words)
  | false ↦ λ is. named_words nodes words
] refl

pub all_named : (nodes : List Node) (editor : ℕ) (puts : List (ℕ × Word)) → All (NamesNode nodes) (words_by nodes editor puts)
all_named nodes editor puts = All-from_recursion (NamesNode nodes) (words_by nodes editor puts) (named_words nodes (map (λ (put : ℕ × Word). put.1) (filter (λ put. put.0 == editor) puts)))

-- one word more

abbrev word_table : List Node → Table → Word → Table
word_table nodes table word = cond (is_none (fault_at nodes table word)) (after table word) table

abbrev word_edits : List Node → Table → Word → ℕ
word_edits nodes table word = cond (is_none (fault_at nodes table word)) (edit_count word) 0

table_next : (nodes : List Node) (table : Table) (word : Word) (words : List Word) → table_after nodes table (word ∷ words) ≡ table_after nodes (word_table nodes table word) words
table_next nodes table (Edit command) words = elim (is_none (fault_at nodes table (Edit command))) as (λ t. cond t (table_after nodes (after table (Edit command)) words) (table_after nodes table words) ≡ table_after nodes (cond t (after table (Edit command)) table) words) [
  | true ↦ refl
  | false ↦ refl
]
table_next nodes table (Hold node) words = elim (is_none (fault_at nodes table (Hold node))) as (λ t. cond t (table_after nodes (after table (Hold node)) words) (table_after nodes table words) ≡ table_after nodes (cond t (after table (Hold node)) table) words) [
  | true ↦ refl
  | false ↦ refl
]
table_next nodes table (Unhold node) words = elim (is_none (fault_at nodes table (Unhold node))) as (λ t. cond t (table_after nodes (after table (Unhold node)) words) (table_after nodes table words) ≡ table_after nodes (cond t (after table (Unhold node)) table) words) [
  | true ↦ refl
  | false ↦ refl
]
table_next nodes table (Wait block) words = refl

abbrev count_by_table : List Node → Table → List Word → ℕ
count_by_table nodes table words = length (commands (accepted_by nodes table words))

edits_next : (nodes : List Node) (table : Table) (word : Word) (words : List Word) → word_edits nodes table word + count_by_table nodes (word_table nodes table word) words ≡ count_by_table nodes table (word ∷ words)
edits_next nodes table (Edit command) words = elim (is_none (fault_at nodes table (Edit command))) as (λ t. cond t 1 0 + count_by_table nodes (cond t (after table (Edit command)) table) words
    ≡ length (commands (cond t (Edit command ∷ accepted_by nodes (after table (Edit command)) words) (accepted_by nodes table words)))) [
      | true ↦ omega arith
      | false ↦ omega arith
    ]
edits_next nodes table (Hold node) words = elim (is_none (fault_at nodes table (Hold node))) as (λ t. cond t 0 0 + count_by_table nodes (cond t (after table (Hold node)) table) words
    ≡ length (commands (cond t (Hold node ∷ accepted_by nodes (after table (Hold node)) words) (accepted_by nodes table words)))) [
      | true ↦ omega arith
      | false ↦ omega arith
    ]
edits_next nodes table (Unhold node) words = elim (is_none (fault_at nodes table (Unhold node))) as (λ t. cond t 0 0 + count_by_table nodes (cond t (after table (Unhold node)) table) words
    ≡ length (commands (cond t (Unhold node ∷ accepted_by nodes (after table (Unhold node)) words) (accepted_by nodes table words)))) [
      | true ↦ omega arith
      | false ↦ omega arith
    ]
edits_next nodes table (Wait block) words = omega arith

-- one put more
abbrev own_words : List Node → List Word → Word → Bool → List Word
own_words nodes words word own = filter (names_node nodes) (cond own (word ∷ words) words)

abbrev later_words : ℕ → List (ℕ × Word) → List Word
later_words editor puts = map (λ (put : ℕ × Word). put.1) (filter (λ put. put.0 == editor) puts)

words_first : (nodes : List Node) (editor : ℕ) (put : ℕ × Word) (puts : List (ℕ × Word)) → words_by nodes editor (put ∷ puts) ≡ own_words nodes (later_words editor puts) put.1 (put.0 == editor)
words_first nodes editor put puts = elim (put.0 == editor) as (λ t. filter (names_node nodes) (map (λ (p : ℕ × Word). p.1) (cond t (put ∷ filter (λ p. p.0 == editor) puts) (filter (λ p. p.0 == editor) puts))) ≡ own_words nodes (later_words editor puts) put.1 t) [
  | true ↦ refl
  | false ↦ refl
]

pub put_table : (nodes : List Node) (editor : ℕ) (table : Table) (put : ℕ × Word) (puts : List (ℕ × Word))
    → table_after nodes (table_with nodes editor table put) (words_by nodes editor puts) ≡ table_after nodes table (words_by nodes editor (put ∷ puts))
put_table nodes editor table put puts =
    let later = words_by nodes editor puts in
    let none = is_none (fault_at nodes table put.1) in
    elim (put.0 == editor) as (λ t. table_after nodes (cond (t && is_heard nodes table put.1) (after table put.1) table) later ≡ table_after nodes table (own_words nodes (later_words editor puts) put.1 t)) [
      | true ↦ elim (names_node nodes put.1) as (λ u. table_after nodes (cond (u && none) (after table put.1) table) later ≡ table_after nodes table (cond u (put.1 ∷ later) later)) [
        | true ↦ sym (table_next nodes table put.1 later)
        | false ↦ refl
      ]
      | false ↦ refl
    ]
    ∙ ap (table_after nodes table) (sym (words_first nodes editor put puts))

pub put_edits : (nodes : List Node) (editor : ℕ) (table : Table) (put : ℕ × Word) (puts : List (ℕ × Word))
    → edits_with nodes editor table put + count_by_table nodes (table_with nodes editor table put) (words_by nodes editor puts) ≡ count_by_table nodes table (words_by nodes editor (put ∷ puts))
put_edits nodes editor table put puts =
    let later = words_by nodes editor puts in
    let none = is_none (fault_at nodes table put.1) in
    elim (put.0 == editor) as (λ t. cond (t && is_heard nodes table put.1) (edit_count put.1) 0 + count_by_table nodes (cond (t && is_heard nodes table put.1) (after table put.1) table) later
    ≡ count_by_table nodes table (own_words nodes (later_words editor puts) put.1 t)) [
      | true ↦ elim (names_node nodes put.1) as (λ u. cond (u && none) (edit_count put.1) 0 + count_by_table nodes (cond (u && none) (after table put.1) table) later ≡ count_by_table nodes table (cond u (put.1 ∷ later) later)) [
        | true ↦ edits_next nodes table put.1 later
        | false ↦ omega arith
      ]
      | false ↦ omega arith
    ]
    ∙ ap (count_by_table nodes table) (sym (words_first nodes editor put puts))

-- a word has the same fault where the editor has the same

pub same_fault : (nodes : List Node) (one other : Counts) (word : Word) → AreSame one other → fault nodes one word ≡ fault nodes other word
same_fault nodes one other (Edit (Begin node id)) same =
    ap (λ n. first_fault ((n == 0, NoReference) ∷ (is_none (info_in nodes node id), UnknownParam) ∷ (is_read_only (info_in nodes node id), ReadOnly) ∷ (not (one.opened node id == 0), AlreadyOpen) ∷ [])) (same.held node)
    ∙ ap (λ n. first_fault ((other.held node == 0, NoReference) ∷ (is_none (info_in nodes node id), UnknownParam) ∷ (is_read_only (info_in nodes node id), ReadOnly) ∷ (not (n == 0), AlreadyOpen) ∷ [])) (same.opened node id)
same_fault nodes one other (Edit (Perform node id value)) same =
    ap (λ n. first_fault ((n == 0, NoReference) ∷ (is_none (info_in nodes node id), UnknownParam) ∷ (is_read_only (info_in nodes node id), ReadOnly) ∷ (nat_lt (2 ^ 24) value, OutOfRange value) ∷ (not (one.opened node id == 1), NotOpen) ∷ [])) (same.held node)
    ∙ ap (λ n. first_fault ((other.held node == 0, NoReference) ∷ (is_none (info_in nodes node id), UnknownParam) ∷ (is_read_only (info_in nodes node id), ReadOnly) ∷ (nat_lt (2 ^ 24) value, OutOfRange value) ∷ (not (n == 1), NotOpen) ∷ [])) (same.opened node id)
same_fault nodes one other (Edit (End node id)) same =
    ap (λ n. first_fault ((n == 0, NoReference) ∷ (is_none (info_in nodes node id), UnknownParam) ∷ (is_read_only (info_in nodes node id), ReadOnly) ∷ (not (one.opened node id == 1), NotOpen) ∷ [])) (same.held node)
    ∙ ap (λ n. first_fault ((other.held node == 0, NoReference) ∷ (is_none (info_in nodes node id), UnknownParam) ∷ (is_read_only (info_in nodes node id), ReadOnly) ∷ (not (n == 1), NotOpen) ∷ [])) (same.opened node id)
same_fault nodes one other (Edit (Tell node words)) same = ap (λ n. first_fault ((n == 0, NoReference) ∷ [])) (same.held node)
same_fault nodes one other (Hold node) same =
    ap (λ n. first_fault ((n == 0, NoReference) ∷ (not (nat_lt (one.holds node) 64), TooManyHolds) ∷ [])) (same.held node)
    ∙ ap (λ n. first_fault ((other.held node == 0, NoReference) ∷ (not (nat_lt n 64), TooManyHolds) ∷ [])) (same.holds node)
same_fault nodes one other (Unhold node) same = ap (λ n. first_fault ((n == 0, NoReference) ∷ [])) (same.held node)
same_fault nodes one other (Wait block) same = refl

-- What is let through is what is accepted, but for a wait.
pub sent_is : (nodes : List Node) (puts : List (ℕ × Word)) (editor : ℕ) (command : Command) (table : Table) → TableCounts
    → table ≡ table_after nodes (fresh nodes) (words_by nodes editor puts)
    → sent_by nodes puts editor (Edit command) ≡ cond (is_heard nodes table (Edit command)) (record { editor = editor; seq = length (edits_by nodes editor puts); command = command } ∷ []) []
sent_is nodes puts editor command table counts is =
    let words = words_by nodes editor puts in
    let same : fault_at nodes table (Edit command) ≡ fault nodes (counts_after (accepted nodes words)) (Edit command) =
    ap (λ t. fault_at nodes t (Edit command)) is ∙ same_fault nodes (counts_in (table_after nodes (fresh nodes) words)) (counts_after (accepted nodes words)) (Edit command) (counts nodes words (all_named nodes editor puts)) in
    let sent : List Sent = record { editor = editor; seq = length (edits_by nodes editor puts); command = command } ∷ [] in
    ap (λ f. cond (names_node nodes (Edit command) && is_none f) sent []) (sym same)

pub none_sent : (nodes : List Node) (puts : List (ℕ × Word)) (editor : ℕ) (word : Word) (table : Table) → TableCounts
    → table ≡ table_after nodes (fresh nodes) (words_by nodes editor puts) → is_heard nodes table word ≡ false → sent_by nodes puts editor word ≡ []
none_sent nodes puts editor (Edit command) table counts is none =
    sent_is nodes puts editor command table counts is ∙ ap (λ t. cond t (record { editor = editor; seq = length (edits_by nodes editor puts); command = command } ∷ []) []) none
none_sent nodes puts editor (Hold node) table counts is none = refl
none_sent nodes puts editor (Unhold node) table counts is none = refl
none_sent nodes puts editor (Wait block) table counts is none = refl

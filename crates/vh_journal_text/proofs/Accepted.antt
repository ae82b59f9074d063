-- What is read is a journal.
use Rattle.std.proofs.Common.{◌≡◌, ℕ, ◌+◌, ◌<◌, ◌≤◌, ◌^◌, Bool, true, false, not, cond, List, [], ◌∷◌, ◌++◌, length, take, drop, get_or, refl, sym, subst, arith, Ok, Err, Result}
use Rattle.std.specs.Prelude.{All, Some, None, Option, is_none, nat_lt, nat_le, ◌==◌, codes, ⊤}
use Rattle.std.specs.Option.{is_some}
use Rattle.std.specs.Str.{bytes_eq}
use Rattle.std.proofs.lemmas.Bool.{ltb-true, ltb-false, leb-false, leb-true, eqb-true}
use Rattle.std.proofs.lemmas.List.{take-append-le, get_or_append_left}
use Rattle.std.proofs.Math.Seq.{take-append_seam, get_or-append_seam}
use Rattle.std.proofs.lemmas.List.{length-append, length-map}
use Rattle.vh_params.specs.Flags as flags
use Rattle.vh_params.specs.declared.param.ParamInfo.{ParamInfo}
use Rattle.vh_params.specs.Nodes.{Node, info_in}
use Rattle.vh_text.specs.Chains.{given, fault_if}
use Rattle.vh_text.specs.Lines.{lines_of}
use Rattle.vh_text.specs.Tokens.{bad_byte, words_of}
use Rattle.vh_text.proofs.Gives.{no_value, same_value}
use Rattle.vh_journal_text.specs.declared.fault.JournalKind.{JournalKind}
use Rattle.vh_journal_text.specs.declared.fault.JournalKind.TheVariants.{BadHeader, BadLine, TooMany, SampleOver, SampleFalls, UnknownParam, ReadOnlyParam, SeqWrong, NotOpen, AlreadyOpen, NoClose, TooLong}
use Rattle.vh_journal_text.specs.declared.fault.JournalFault.{JournalFault}
use Rattle.std.proofs.Math.ListN.{get_or-map}
use Rattle.vh_journal.specs.declared.entry.Entry.{Entry}
use Rattle.vh_journal_text.specs.Items.{Act, Begins, Performs, Ends, Tells, Line, Item, Said, Close, Entered, item_of, items_of}
use Rattle.vh_journal_text.specs.Steps.{KeepsTurns}
use Rattle.vh_journal_text.specs.Keeps.{is_writable, IsSettable, MayStand, IsBehind, AreEntries, AreThere}
use Rattle.vh_journal_text.specs.Laws.{ReadIsJournal}
use Rattle.vh_journal_text.specs.Lines.{Checked, word, any_number, editor_number, value_number, any_numbers, has_count, act_in, entry_line, are_close, said_by, said_in}
use Rattle.vh_journal_text.specs.Reading.{Step, Closes, Adds, fault, step_of, step_after, behind, items_from, lines_say, journal_limit, is_header}
use Rattle.vh_journal_text.specs.Rules.{last_sample, in_place, the_node, is_read_only, on_writable, count_of, in_turn, is_open, in_gesture, item_at, item_after}
use Rattle.vh_journal_text.proofs.Inverts.{passed, gave}
use Rattle.vh_journal_text.proofs.Named.{node_there}
use Rattle.vh_journal_text.proofs.Several.{number_small, numbers_small}

-- what an act's words leave of it
abbrev pub IsSmall : Act → Type 0
IsSmall (Begins id) = id < 2 ^ 32
IsSmall (Performs id value) = (id < 2 ^ 32) × (value ≤ 2 ^ 24)
IsSmall (Ends id) = id < 2 ^ 32
IsSmall (Tells numbers) = (length numbers ≤ 4) × All (λ n. n < 2 ^ 32) numbers

begin_small : (words : List (List ℕ)) (act : Act) → fault_if (not (has_count 1 words)) BadLine (given (any_number (word words 0)) (λ id. Ok (Begins id))) ≡ Ok act → IsSmall act
begin_small words act is =
    let counted = passed (not (has_count 1 words)) BadLine (given (any_number (word words 0)) (λ id. Ok (Begins id))) act is in
    let id = gave (any_number (word words 0)) (λ id. Ok (Begins id)) act counted.1 in
    subst IsSmall (same_value (Begins id.0) act id.2) (number_small (word words 0) id.0 id.1)

end_small : (words : List (List ℕ)) (act : Act) → fault_if (not (has_count 1 words)) BadLine (given (any_number (word words 0)) (λ id. Ok (Ends id))) ≡ Ok act → IsSmall act
end_small words act is =
    let counted = passed (not (has_count 1 words)) BadLine (given (any_number (word words 0)) (λ id. Ok (Ends id))) act is in
    let id = gave (any_number (word words 0)) (λ id. Ok (Ends id)) act counted.1 in
    subst IsSmall (same_value (Ends id.0) act id.2) (number_small (word words 0) id.0 id.1)

most_number : (most : ℕ) (text : List ℕ) (n : ℕ) → given (any_number text) (λ m. fault_if (not (nat_le m most)) BadLine (Ok m)) ≡ Ok n → n ≤ most
most_number most text n is =
    let read = gave (any_number text) (λ m. fault_if (not (nat_le m most)) BadLine (Ok m)) n is in
    let within = passed (not (nat_le read.0 most)) BadLine (Ok read.0) n read.2 in
    let same = same_value read.0 n within.1 in
    let le = elim (nat_le read.0 most) as (λ t. nat_le read.0 most ≡ t → not t ≡ false → read.0 ≤ most) [
      | true ↦ λ e no. leb-true read.0 most e
      | false ↦ λ e no. absurd (cc)
    ] refl within.0 in
    omega (arith, same, le)

perform_small : (words : List (List ℕ)) (act : Act) → fault_if (not (has_count 2 words)) BadLine (given (any_number (word words 0)) (λ id. given (value_number (word words 1)) (λ value. Ok (Performs id value)))) ≡ Ok act → IsSmall act
perform_small words act is =
    let counted = passed (not (has_count 2 words)) BadLine (given (any_number (word words 0)) (λ id. given (value_number (word words 1)) (λ value. Ok (Performs id value)))) act is in
    let id = gave (any_number (word words 0)) (λ id. given (value_number (word words 1)) (λ value. Ok (Performs id value))) act counted.1 in
    let value = gave (value_number (word words 1)) (λ value. Ok (Performs id.0 value)) act id.2 in
    let small = number_small (word words 0) id.0 id.1 in
    let most = most_number 16777216 (word words 1) value.0 value.1 in
    subst IsSmall (same_value (Performs id.0 value.0) act value.2) (small, omega (arith, most))

tell_small : (words : List (List ℕ)) (act : Act) → fault_if (nat_lt 4 (length words)) BadLine (given (any_numbers words) (λ numbers. Ok (Tells numbers))) ≡ Ok act → IsSmall act
tell_small words act is =
    let counted = passed (nat_lt 4 (length words)) BadLine (given (any_numbers words) (λ numbers. Ok (Tells numbers))) act is in
    let read = gave (any_numbers words) (λ numbers. Ok (Tells numbers)) act counted.1 in
    let small = numbers_small words read.0 read.1 in
    let le = ltb-false 4 (length words) counted.0 in
    let long = small.0 in
    subst IsSmall (same_value (Tells read.0) act read.2) (omega (arith, le, long), small.1)

act_small : (verb : List ℕ) (words : List (List ℕ)) (act : Act) → act_in verb words ≡ Ok act → IsSmall act
act_small verb words act is =
    let a = fault_if (not (has_count 1 words)) BadLine (given (any_number (word words 0)) (λ id. Ok (Begins id))) in
    let b = fault_if (not (has_count 2 words)) BadLine (given (any_number (word words 0)) (λ id. given (value_number (word words 1)) (λ value. Ok (Performs id value)))) in
    let c = fault_if (not (has_count 1 words)) BadLine (given (any_number (word words 0)) (λ id. Ok (Ends id))) in
    let d = fault_if (nat_lt 4 (length words)) BadLine (given (any_numbers words) (λ numbers. Ok (Tells numbers))) in
    elim (bytes_eq verb (codes "begin")) as (λ t. cond t a (cond (bytes_eq verb (codes "perform")) b (cond (bytes_eq verb (codes "end")) c (cond (bytes_eq verb (codes "tell")) d (Err BadLine)))) ≡ Ok act → IsSmall act) [
      | true ↦ begin_small words act
      | false ↦ elim (bytes_eq verb (codes "perform")) as (λ t. cond t b (cond (bytes_eq verb (codes "end")) c (cond (bytes_eq verb (codes "tell")) d (Err BadLine))) ≡ Ok act → IsSmall act) [
        | true ↦ perform_small words act
        | false ↦ elim (bytes_eq verb (codes "end")) as (λ t. cond t c (cond (bytes_eq verb (codes "tell")) d (Err BadLine)) ≡ Ok act → IsSmall act) [
          | true ↦ end_small words act
          | false ↦ elim (bytes_eq verb (codes "tell")) as (λ t. cond t d (Err BadLine) ≡ Ok act → IsSmall act) [
            | true ↦ tell_small words act
            | false ↦ λ none. absurd (no_value act BadLine none)
          ]
        ]
      ]
    ] is

-- what a line's words leave of it
abbrev pub IsLine : Line → Type 0
IsLine line = (line.editor < 8) × IsSmall line.act

pub line_small : (words : List (List ℕ)) (line : Line) → entry_line words ≡ Ok line → IsLine line
line_small words line is =
    let rest4 : ℕ → ℕ → ℕ → Act → Checked Line = λ sample editor seq act. Ok (record { sample = sample; editor = editor; seq = seq; name = word words 4; act = act }) in
    let rest3 : ℕ → ℕ → ℕ → Checked Line = λ sample editor seq. given (act_in (word words 3) (drop 5 words)) (rest4 sample editor seq) in
    let rest2 : ℕ → ℕ → Checked Line = λ sample editor. given (any_number (word words 2)) (rest3 sample editor) in
    let rest1 : ℕ → Checked Line = λ sample. given (editor_number (word words 1)) (rest2 sample) in
    let counted = passed (nat_lt (length words) 5) BadLine (given (any_number (word words 0)) rest1) line is in
    let sample = gave (any_number (word words 0)) rest1 line counted.1 in
    let editor = gave (editor_number (word words 1)) (rest2 sample.0) line sample.2 in
    let seq = gave (any_number (word words 2)) (rest3 sample.0 editor.0) line editor.2 in
    let act = gave (act_in (word words 3) (drop 5 words)) (rest4 sample.0 editor.0 seq.0) line seq.2 in
    let same = same_value (let l : Line = record { sample = sample.0; editor = editor.0; seq = seq.0; name = word words 4; act = act.0 } in l) line act.2 in
    let few = most_number 7 (word words 1) editor.0 editor.1 in
    subst IsLine same (omega (arith, few), act_small (word words 3) (drop 5 words) act.0 act.1)

-- what a line says, where it says something
abbrev SaysLine : Said → Type 0
SaysLine Close = ⊤
SaysLine (Entered line) = IsLine line

said_small : (text : List ℕ) (said : Said) → said_in text ≡ Ok said → SaysLine said
said_small text said is =
    let words = words_of text in
    let printable = passed (is_some (bad_byte text)) BadLine (said_by words) said is in
    elim (are_close words) as (λ t. cond t (Ok Close) (given (entry_line words) (λ line. Ok (Entered line))) ≡ Ok said → SaysLine said) [
      | true ↦ λ e. subst SaysLine (same_value Close said e) tt
      | false ↦ λ e. let line = gave (entry_line words) (λ line. Ok (Entered line)) said e in subst SaysLine (same_value (Entered line.0) said line.2) (line_small words line.0 line.1)
    ] printable.1

-- each rule, where it lets a line through

place_holds : (most : ℕ) (before : List Item) (sample : ℕ) (u : Unit {0}) → in_place most before sample ≡ Ok u → (length before < 4096) × (sample ≤ most) × (last_sample before ≤ sample)
place_holds most before sample u is =
    let few = passed (nat_le 4096 (length before)) TooMany (fault_if (nat_lt most sample) SampleOver (fault_if (nat_lt sample (last_sample before)) SampleFalls (Ok tt))) u is in
    let within = passed (nat_lt most sample) SampleOver (fault_if (nat_lt sample (last_sample before)) SampleFalls (Ok tt)) u few.1 in
    let rising = passed (nat_lt sample (last_sample before)) SampleFalls (Ok tt) u within.1 in
    (leb-false 4096 (length before) few.0, ltb-false most sample within.0, ltb-false sample (last_sample before) rising.0)

writable : (found : Option ParamInfo) → is_none found ≡ false → is_read_only found ≡ false → is_writable found ≡ true
writable None there shown = absurd (cc)
writable (Some param) there shown = elim (flags.is_writable param.flags) as (λ t. not t ≡ false → t ≡ true) [ true ↦ λ e. refl | false ↦ λ e. absurd (cc) ] shown

may_set : (nodes : List Node) (node id : ℕ) (u : Unit {0}) → id < 2 ^ 32 → fault_if (is_none (info_in nodes node id)) UnknownParam (fault_if (is_read_only (info_in nodes node id)) ReadOnlyParam (Ok tt)) ≡ Ok u → IsSettable nodes node id
may_set nodes node id u small is =
    let there = passed (is_none (info_in nodes node id)) UnknownParam (fault_if (is_read_only (info_in nodes node id)) ReadOnlyParam (Ok tt)) u is in
    let shown = passed (is_read_only (info_in nodes node id)) ReadOnlyParam (Ok tt) u there.1 in
    record { number = small; writable = writable (info_in nodes node id) there.0 shown.0 }

open_now : (test : Bool) (kind : JournalKind) (u : Unit {0}) → fault_if (not test) kind (Ok tt) ≡ Ok u → test ≡ true
open_now true kind u is = refl
open_now false kind u is = absurd (no_value u kind is)

stands : (nodes : List Node) (before : List Item) (editor node : ℕ) (act : Act) (u v : Unit {0}) → IsSmall act → on_writable nodes node act ≡ Ok u → in_gesture before editor node act ≡ Ok v → MayStand nodes before editor node act
stands nodes before editor node (Begins id) u v small may fits = (may_set nodes node id u small may, (passed (is_open before editor node id) AlreadyOpen (Ok tt) v fits).0)
stands nodes before editor node (Performs id value) u v small may fits = (may_set nodes node id u small.0 may, open_now (is_open before editor node id) NotOpen v fits, small.1)
stands nodes before editor node (Ends id) u v small may fits = (may_set nodes node id u small may, open_now (is_open before editor node id) NotOpen v fits)
stands nodes before editor node (Tells numbers) u v small may fits = small

turn_holds : (before : List Item) (editor seq : ℕ) (u : Unit {0}) → in_turn before editor seq ≡ Ok u → seq ≡ count_of before editor
turn_holds before editor seq u is =
    elim (seq == count_of before editor) as (λ t. (seq == count_of before editor) ≡ t → fault_if (not t) (SeqWrong (count_of before editor)) (Ok tt) ≡ Ok u → seq ≡ count_of before editor) [
      | true ↦ λ e ok. eqb-true seq (count_of before editor) e
      | false ↦ λ e ok. absurd (no_value u (SeqWrong (count_of before editor)) ok)
    ] refl is

pub item_behind : (nodes : List Node) (most : ℕ) (before : List Item) (line : Line) (item : Item) → IsLine line → item_after nodes most before line ≡ Ok item → IsBehind nodes most before item
item_behind nodes most before line item small is =
    let rest4 : ℕ → Unit {0} → Checked Item = λ node u. given (in_gesture before line.editor node line.act) (λ gesture. Ok (item_at line node)) in
    let rest3 : ℕ → Unit {0} → Checked Item = λ node u. given (in_turn before line.editor line.seq) (rest4 node) in
    let rest2 : ℕ → Checked Item = λ node. given (on_writable nodes node line.act) (rest3 node) in
    let rest1 : Unit {0} → Checked Item = λ u. given (the_node nodes line.name) rest2 in
    let placed = gave (in_place most before line.sample) rest1 item is in
    let node = gave (the_node nodes line.name) rest2 item placed.2 in
    let may = gave (on_writable nodes node.0 line.act) (rest3 node.0) item node.2 in
    let turn = gave (in_turn before line.editor line.seq) (rest4 node.0) item may.2 in
    let fits = gave (in_gesture before line.editor node.0 line.act) (λ gesture. Ok (item_at line node.0)) item turn.2 in
    let place = place_holds most before line.sample placed.0 placed.1 in
    subst (λ i. IsBehind nodes most before i) (same_value (item_at line node.0) item fits.2) (record {
      few = place.0;
      within = place.1;
      rising = place.2;
      editor = small.0;
      turn = turn_holds before line.editor line.seq turn.0 turn.1;
      node = node_there nodes line.name node.0 node.1;
      act = stands nodes before line.editor node.0 line.act may.0 fits.0 small.1 may.1 fits.1;
    })

-- what a line adds may stand
abbrev Stands : List Node → ℕ → List Item → Step → Type 0
Stands nodes most before Closes = ⊤
Stands nodes most before (Adds item) = IsBehind nodes most before item

said_stands : (nodes : List Node) (most : ℕ) (before : List Item) (said : Said) (step : Step) → SaysLine said → step_of nodes most before said ≡ Ok step → Stands nodes most before step
said_stands nodes most before Close step small is = subst (Stands nodes most before) (same_value Closes step is) tt
said_stands nodes most before (Entered line) step small is =
    let item = gave (item_after nodes most before line) (λ item. Ok (Adds item)) step is in
    subst (Stands nodes most before) (same_value (Adds item.0) step item.2) (item_behind nodes most before line item.0 small item.1)

pub step_stands : (nodes : List Node) (most : ℕ) (before : List Item) (text : List ℕ) (step : Step) → step_after nodes most before text ≡ Ok step → Stands nodes most before step
step_stands nodes most before text step is =
    let said = gave (said_in text) (step_of nodes most before) step is in
    said_stands nodes most before said.0 step (said_small text said.0 said.1) said.2

-- one entry more
pub entries_more : (nodes : List Node) (most : ℕ) (before : List Item) (item : Item) → AreEntries nodes most before → IsBehind nodes most before item → AreEntries nodes most (before ++ item ∷ [])
entries_more nodes most before item are is i d lt =
    let long = length-append before (item ∷ []) in
    elim (nat_lt i (length before)) as (λ t. nat_lt i (length before) ≡ t → IsBehind nodes most (take i (before ++ item ∷ [])) (get_or (before ++ item ∷ []) i d)) [
      | true ↦ λ e.
          let l : i < length before = ltb-true i (length before) e in
          let le : i ≤ length before = omega (arith, l) in
          subst (λ xs. IsBehind nodes most xs (get_or (before ++ item ∷ []) i d)) (sym (take-append-le i before (item ∷ []) le))
          (subst (λ x. IsBehind nodes most (take i before) x) (sym (get_or_append_left before (item ∷ []) d i l)) (are i d l))
      | false ↦ λ e.
          let ge = ltb-false i (length before) e in
          let same : length before ≡ i = omega (arith, ge, lt, long) in
          subst (λ n. IsBehind nodes most (take n (before ++ item ∷ [])) (get_or (before ++ item ∷ []) n d)) same
          (subst (λ xs. IsBehind nodes most xs (get_or (before ++ item ∷ []) (length before) d)) (sym (take-append_seam before (item ∷ [])))
          (subst (λ x. IsBehind nodes most before x) (sym (get_or-append_seam before item [] d)) is))
    ] refl

-- the value that goes on behind a step
behind_keeps : (nodes : List Node) (most line : ℕ) (before items : List Item) (texts : List (List ℕ)) (step : Checked Step) (further : List Item → Result (List Item) JournalFault) → AreEntries nodes most before
    → ((s : Step) → step ≡ Ok s → Stands nodes most before s) → ((more : List Item) → AreEntries nodes most more → further more ≡ Ok items → AreEntries nodes most items)
    → behind step line before texts further ≡ Ok items → AreEntries nodes most items
behind_keeps nodes most line before items texts (Err kind) further are stand goes is = absurd (no_value items (fault line kind) is)
behind_keeps nodes most line before items [] (Ok Closes) further are stand goes is = subst (AreEntries nodes most) (same_value before items is) are
behind_keeps nodes most line before items (text ∷ texts) (Ok Closes) further are stand goes is = absurd (no_value items (fault (line + 1) BadLine) is)
behind_keeps nodes most line before items texts (Ok (Adds item)) further are stand goes is = goes (before ++ item ∷ []) (entries_more nodes most before item are (stand (Adds item) refl)) is

items_keep : (nodes : List Node) (most line : ℕ) (before items : List Item) (texts : List (List ℕ)) → AreEntries nodes most before → items_from nodes most line before texts ≡ Ok items → AreEntries nodes most items
items_keep nodes most line before items [] are is = absurd (no_value items (fault line NoClose) is)
items_keep nodes most line before items (text ∷ texts) are is =
    behind_keeps nodes most line before items texts (step_after nodes most before text) (λ more. items_from nodes most (line + 1) more texts) are
    (step_stands nodes most before text)
    (λ more keep. items_keep nodes most (line + 1) more items texts keep)
    is

lines_keep : (nodes : List Node) (most : ℕ) (items : List Item) (texts : List (List ℕ)) → lines_say nodes most texts ≡ Ok items → AreEntries nodes most items
lines_keep nodes most items [] is = absurd (no_value items (fault 1 BadHeader) is)
lines_keep nodes most items (text ∷ texts) is = items_keep nodes most 2 [] items texts (λ i d lt. absurd (omega (arith, lt))) (passed (not (is_header text)) (fault 1 BadHeader) (items_from nodes most 2 [] texts) items is).1

pub law_read_is_journal : ReadIsJournal
law_read_is_journal nodes most bytes items is = lines_keep nodes most items (lines_of bytes) (passed (nat_lt journal_limit (length bytes)) (fault 0 TooLong) (lines_say nodes most (lines_of bytes)) items is).1

-- the nodes of a journal are there
pub entries_there : (nodes : List Node) (most : ℕ) (entries : List Entry) → AreEntries nodes most (items_of entries) → AreThere nodes entries
entries_there nodes most entries are k d lt =
    let long = length-map entries item_of in
    let is = (are k (item_of d) (omega (arith, lt, long))).node in
    subst (λ (i : Item). i.node < length nodes) (get_or-map item_of entries k d) is

-- what a gesture's rules leave
pub turns_kept : (before : List Item) (editor node : ℕ) (act : Act) (u : Unit {0}) → in_gesture before editor node act ≡ Ok u → KeepsTurns before editor node act
turns_kept before editor node (Begins id) u is = (passed (is_open before editor node id) AlreadyOpen (Ok tt) u is).0
turns_kept before editor node (Performs id value) u is = tt
turns_kept before editor node (Ends id) u is = open_now (is_open before editor node id) NotOpen u is
turns_kept before editor node (Tells numbers) u is = tt

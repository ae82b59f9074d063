-- The canonical text of a journal says this journal.
use Rattle.std.proofs.Common.{◌≡◌, ◌∙◌, ℕ, suc, ◌+◌, ◌<◌, ◌≤◌, ◌^◌, true, false, cond, not, List, [], ◌∷◌, ◌++◌, map, take, length, get_or, refl, sym, ap, subst, arith, Some, None, Ok, Option}
use Rattle.std.specs.Prelude.{All, codes, nat_le, nat_lt, ◌==◌, ◌&&◌, is_none}
use Rattle.std.specs.Fmt.{decimal}
use Rattle.std.specs.Str.{bytes_eq}
use Rattle.std.proofs.lemmas.Bool.{le-ltb, le-leb, lt-leb, eq-eqb, ne_eqb, not_from_true}
use Rattle.std.proofs.lemmas.List.{append_assoc, append-nil, length-map}
use Rattle.std.proofs.lemmas.List.Elements.{All-cons, All-tail}
use Rattle.std.proofs.lemmas.List.Sums.{count_by-le-length}
use Rattle.vh_params.specs.Flags as flags
use Rattle.vh_params.specs.declared.param.ParamInfo.{ParamInfo}
use Rattle.vh_params.specs.Nodes.{Node, info_in}
use Rattle.vh_text.specs.Chains.{given, fault_if}
use Rattle.vh_text.specs.Lines.{lines_of}
use Rattle.vh_text.specs.Tokens.{words_of, IsWord}
use Rattle.vh_text.specs.Written.{lines_text}
use Rattle.vh_text.proofs.Gives.{then_, passes_}
use Rattle.vh_text.proofs.Joined.{joined, joined_printable, none_bad, words_joined, lines_are}
use Rattle.vh_text.proofs.Numerals.{number_word}
use Rattle.vh_text.proofs.WordsOf.{code_word, no_words, one_more}
use Rattle.vh_journal_text.specs.declared.fault.JournalKind.TheVariants.{BadLine, TooMany, SampleOver, SampleFalls, UnknownParam, ReadOnlyParam, SeqWrong, NotOpen, AlreadyOpen, TooLong}
use Rattle.vh_journal_text.specs.Items.{Act, Begins, Performs, Ends, Tells, Line, Item, Close, Entered}
use Rattle.vh_journal_text.specs.Keeps.{AreNamed, is_writable, IsSettable, MayStand, IsBehind, AreEntries}
use Rattle.vh_journal_text.specs.Laws.{PrintedIsRead}
use Rattle.vh_journal_text.specs.Lines.{Checked, any_number, editor_number, value_number, any_numbers, act_in, entry_line, said_by, said_in}
use Rattle.vh_journal_text.specs.Reading.{Adds, fault, step_of, step_after, behind, items_from, lines_say, journal_limit, journal_of}
use Rattle.vh_journal_text.specs.Rules.{last_sample, in_place, the_node, is_read_only, on_writable, count_of, in_turn, is_open, in_gesture, item_at, item_after}
use Rattle.vh_journal_text.specs.Text.{name_of, act_words, item_words, header_words, close_words, journal_words, journal_text}
use Rattle.vh_journal_text.proofs.Names.{name_word}
use Rattle.vh_journal_text.proofs.Named.{node_found}
use Rattle.vh_journal_text.proofs.Several.{any_reads, any_read_back}
use Rattle.vh_journal_text.proofs.Sizes.{text_size}

-- the verb of an act, and the words behind the node's name

abbrev verb_of : Act → List ℕ
verb_of (Begins id) = codes "begin"
verb_of (Performs id value) = codes "perform"
verb_of (Ends id) = codes "end"
verb_of (Tells numbers) = codes "tell"

abbrev rest_of : Act → List (List ℕ)
rest_of (Begins id) = decimal id ∷ []
rest_of (Performs id value) = decimal id ∷ decimal value ∷ []
rest_of (Ends id) = decimal id ∷ []
rest_of (Tells numbers) = map decimal numbers

are_words : (name : List ℕ) (act : Act) → act_words name act ≡ verb_of act ∷ name ∷ rest_of act
are_words name (Begins id) = refl
are_words name (Performs id value) = refl
are_words name (Ends id) = refl
are_words name (Tells numbers) = refl

most_reads : (most n : ℕ) → n < 2 ^ 32 → n ≤ most → given (any_number (decimal n)) (λ m. fault_if (not (nat_le m most)) BadLine (Ok m)) ≡ Ok n
most_reads most n small within =
    ap (λ r. given r (λ m. fault_if (not (nat_le m most)) BadLine (Ok m))) (any_reads n small)
    ∙ ap (λ t. fault_if (not t) BadLine (Ok n)) (le-leb n most within)

module _ (nodes : List Node) (most : ℕ) (named : AreNamed nodes) (small : most < 2 ^ 32) where
  act_back : (before : List Item) (editor node : ℕ) (act : Act) → MayStand nodes before editor node act → act_in (verb_of act) (rest_of act) ≡ Ok act
  act_back before editor node (Begins id) stands = ap (λ r. given r (λ i. Ok (Begins i))) (any_reads id stands.0.number)
  act_back before editor node (Performs id value) stands =
      let within = stands.2 in
      ap (λ r. given r (λ i. given (value_number (decimal value)) (λ v. Ok (Performs i v)))) (any_reads id stands.0.number)
      ∙ ap (λ r. given r (λ v. Ok (Performs id v))) (most_reads 16777216 value (omega (arith, within)) (omega (arith, within)))
  act_back before editor node (Ends id) stands = ap (λ r. given r (λ i. Ok (Ends i))) (any_reads id stands.0.number)
  act_back before editor node (Tells numbers) stands =
      let few = stands.0 in
      let long = length-map numbers decimal in
      passes_ (nat_lt 4 (length (map decimal numbers))) BadLine (given (any_numbers (map decimal numbers)) (λ ns. Ok (Tells ns))) (le-ltb 4 (length (map decimal numbers)) (omega (arith, few, long)))
      ∙ ap (λ r. given r (λ ns. Ok (Tells ns))) (any_read_back numbers stands.1)

  line_of : Item → Line
  line_of item = record { sample = item.sample; editor = item.editor; seq = item.seq; name = name_of nodes item.node; act = item.act }

  seq_small : (before : List Item) (item : Item) → IsBehind nodes most before item → item.seq < 2 ^ 32
  seq_small before item is =
      let few = is.few in
      let turn = is.turn in
      let le = count_by-le-length (λ (x : Item). x.editor == item.editor) before in
      omega (arith, few, turn, le)

  abbrev words_of_item : Item → List (List ℕ)
  words_of_item item = decimal item.sample ∷ decimal item.editor ∷ decimal item.seq ∷ verb_of item.act ∷ name_of nodes item.node ∷ rest_of item.act

  entry_back : (before : List Item) (item : Item) → IsBehind nodes most before item → said_by (words_of_item item) ≡ Ok (Entered (line_of item))
  unfolding line_of
  entry_back before item is =
      let words = words_of_item item in
      let within = is.within in
      let low = is.editor in
      let a = any_reads item.sample (omega (arith, within, small)) in
      let b = most_reads 7 item.editor (omega (arith, low)) (omega (arith, low)) in
      let c = any_reads item.seq (seq_small before item is) in
      let d = act_back before item.editor item.node item.act is.act in
      let rest4 : ℕ → ℕ → ℕ → Act → Checked Line = λ sample editor seq act. Ok (record { sample = sample; editor = editor; seq = seq; name = name_of nodes item.node; act = act }) in
      let rest3 : ℕ → ℕ → ℕ → Checked Line = λ sample editor seq. given (act_in (verb_of item.act) (rest_of item.act)) (rest4 sample editor seq) in
      let rest2 : ℕ → ℕ → Checked Line = λ sample editor. given (any_number (decimal item.seq)) (rest3 sample editor) in
      let rest1 : ℕ → Checked Line = λ sample. given (editor_number (decimal item.editor)) (rest2 sample) in
      let long : nat_lt (length words) 5 ≡ false = le-ltb (length words) 5 (omega arith) in
      let several : (length words == 1) ≡ false = ne_eqb (length words) 1 (λ e. omega (arith, e)) in
      let line : entry_line words ≡ Ok (line_of item) =
      passes_ (nat_lt (length words) 5) BadLine (given (any_number (decimal item.sample)) rest1) long
      ∙ then_ rest1 item.sample a
      ∙ then_ (rest2 item.sample) item.editor b
      ∙ then_ (rest3 item.sample item.editor) item.seq c
      ∙ then_ (rest4 item.sample item.editor item.seq) item.act d in
      ap (λ t. cond (t && bytes_eq (decimal item.sample) (codes "close")) (Ok Close) (given (entry_line words) (λ l. Ok (Entered l)))) several
      ∙ ap (λ r. given r (λ l. Ok (Entered l))) line

  -- the words are words

  number_words : (numbers : List ℕ) → All (λ n. n < 2 ^ 32) numbers → All IsWord (map decimal numbers)
  number_words [] all = no_words
  number_words (n ∷ ns) all = one_more (decimal n) (map decimal ns) (number_word n (all 0 n (omega arith))) (number_words ns (All-tail (λ n. n < 2 ^ 32) n ns all))

  rest_words : (before : List Item) (editor node : ℕ) (act : Act) → MayStand nodes before editor node act → IsWord (verb_of act) × All IsWord (rest_of act)
  rest_words before editor node (Begins id) stands = (code_word (codes "begin") refl, one_more (decimal id) [] (number_word id stands.0.number) no_words)
  rest_words before editor node (Performs id value) stands =
      let within = stands.2 in
      (code_word (codes "perform") refl, one_more (decimal id) (decimal value ∷ []) (number_word id stands.0.number) (one_more (decimal value) [] (number_word value (omega (arith, within))) no_words))
  rest_words before editor node (Ends id) stands = (code_word (codes "end") refl, one_more (decimal id) [] (number_word id stands.0.number) no_words)
  rest_words before editor node (Tells numbers) stands = (code_word (codes "tell") refl, number_words numbers stands.1)

  item_is_words : (before : List Item) (item : Item) → IsBehind nodes most before item → All IsWord (words_of_item item)
  item_is_words before item is =
      let within = is.within in
      let low = is.editor in
      let act = rest_words before item.editor item.node item.act is.act in
      let name = name_word (name_of nodes item.node) (named.names item.node _ is.node) in
      one_more (decimal item.sample) (decimal item.editor ∷ decimal item.seq ∷ verb_of item.act ∷ name_of nodes item.node ∷ rest_of item.act) (number_word item.sample (omega (arith, within, small)))
      (one_more (decimal item.editor) (decimal item.seq ∷ verb_of item.act ∷ name_of nodes item.node ∷ rest_of item.act) (number_word item.editor (omega (arith, low)))
      (one_more (decimal item.seq) (verb_of item.act ∷ name_of nodes item.node ∷ rest_of item.act) (number_word item.seq (seq_small before item is))
      (one_more (verb_of item.act) (name_of nodes item.node ∷ rest_of item.act) act.0 (one_more (name_of nodes item.node) (rest_of item.act) name act.1))))

  -- the rules let the entry through

  placed : (before : List Item) (item : Item) → IsBehind nodes most before item → in_place most before item.sample ≡ Ok tt
  placed before item is =
      passes_ (nat_le 4096 (length before)) TooMany (fault_if (nat_lt most item.sample) SampleOver (fault_if (nat_lt item.sample (last_sample before)) SampleFalls (Ok tt))) (lt-leb 4096 (length before) is.few)
      ∙ passes_ (nat_lt most item.sample) SampleOver (fault_if (nat_lt item.sample (last_sample before)) SampleFalls (Ok tt)) (le-ltb most item.sample is.within)
      ∙ passes_ (nat_lt item.sample (last_sample before)) SampleFalls (Ok tt) (le-ltb item.sample (last_sample before) is.rising)

  seen : (found : Option ParamInfo) → is_writable found ≡ true → (is_none found ≡ false) × (is_read_only found ≡ false)
  seen None can = absurd (cc)
  seen (Some param) can = (refl, not_from_true (flags.is_writable param.flags) can)

  set_ : (node id : ℕ) (u : Unit {0}) → IsSettable nodes node id → fault_if (is_none (info_in nodes node id)) UnknownParam (fault_if (is_read_only (info_in nodes node id)) ReadOnlyParam (Ok u)) ≡ Ok u
  set_ node id u can =
      let both = seen (info_in nodes node id) can.writable in
      passes_ (is_none (info_in nodes node id)) UnknownParam (fault_if (is_read_only (info_in nodes node id)) ReadOnlyParam (Ok u)) both.0
      ∙ passes_ (is_read_only (info_in nodes node id)) ReadOnlyParam (Ok u) both.1

  fits : (before : List Item) (editor node : ℕ) (act : Act) → MayStand nodes before editor node act → (on_writable nodes node act ≡ Ok tt) × (in_gesture before editor node act ≡ Ok tt)
  fits before editor node (Begins id) stands = (set_ node id tt stands.0, passes_ (is_open before editor node id) AlreadyOpen (Ok tt) stands.1)
  fits before editor node (Performs id value) stands = (set_ node id tt stands.0, passes_ (not (is_open before editor node id)) NotOpen (Ok tt) (not_from_true (is_open before editor node id) stands.1))
  fits before editor node (Ends id) stands = (set_ node id tt stands.0, passes_ (not (is_open before editor node id)) NotOpen (Ok tt) (not_from_true (is_open before editor node id) stands.1))
  fits before editor node (Tells numbers) stands = (refl, refl)

  judged : (before : List Item) (item : Item) → IsBehind nodes most before item → item_after nodes most before (line_of item) ≡ Ok item
  unfolding line_of
  judged before item is =
      let both = fits before item.editor item.node item.act is.act in
      let turn : in_turn before item.editor item.seq ≡ Ok tt = passes_ (not (item.seq == count_of before item.editor)) (SeqWrong (count_of before item.editor)) (Ok tt) (not_from_true (item.seq == count_of before item.editor) (eq-eqb item.seq (count_of before item.editor) is.turn)) in
      let rest4 : ℕ → Unit {0} → Checked Item = λ node u. given (in_gesture before item.editor node item.act) (λ gesture. Ok (item_at (line_of item) node)) in
      let rest3 : ℕ → Unit {0} → Checked Item = λ node u. given (in_turn before item.editor item.seq) (rest4 node) in
      let rest2 : ℕ → Checked Item = λ node. given (on_writable nodes node item.act) (rest3 node) in
      let rest1 : Unit {0} → Checked Item = λ u. given (the_node nodes (name_of nodes item.node)) rest2 in
      then_ rest1 tt (placed before item is)
      ∙ then_ rest2 item.node (node_found nodes item.node named.apart is.node)
      ∙ then_ (rest3 item.node) tt both.0
      ∙ then_ (rest4 item.node) tt turn
      ∙ then_ (λ (gesture : Unit {0}). Ok (item_at (line_of item) item.node)) tt both.1

  -- a line of words says what they say
  line_says : (words : List (List ℕ)) → All IsWord words → said_in (joined words) ≡ said_by words
  line_says words all = passes_ _ BadLine (said_by (words_of (joined words))) (none_bad 0 (joined words) (joined_printable words all)) ∙ ap said_by (words_joined words all)

  line_back : (before : List Item) (item : Item) → IsBehind nodes most before item → step_after nodes most before (joined (item_words nodes item)) ≡ Ok (Adds item)
  line_back before item is =
      let same : item_words nodes item ≡ words_of_item item = ap (λ ws. decimal item.sample ∷ decimal item.editor ∷ decimal item.seq ∷ ws) (are_words (name_of nodes item.node) item.act) in
      ap (λ ws. step_after nodes most before (joined ws)) same
      ∙ ap (λ r. given r (step_of nodes most before)) (line_says (words_of_item item) (item_is_words before item is) ∙ entry_back before item is)
      ∙ ap (λ r. given r (λ i. Ok (Adds i))) (judged before item is)

  close_back : (before : List Item) (line : ℕ) → items_from nodes most line before (joined close_words ∷ []) ≡ Ok before
  close_back before line = refl

  reads_from : (before items : List Item) (line : ℕ) → ((i : ℕ) (d : Item) → i < length items → IsBehind nodes most (before ++ take i items) (get_or items i d))
      → items_from nodes most line before (map joined (map (item_words nodes) items ++ close_words ∷ [])) ≡ Ok (before ++ items)
  reads_from before [] line are = close_back before line ∙ ap (λ xs. Ok xs) (sym (append-nil before))
  reads_from before (item ∷ items) line are =
      let here : IsBehind nodes most before item = subst (λ xs. IsBehind nodes most xs item) (append-nil before) (are 0 item (omega arith)) in
      let rest = map joined (map (item_words nodes) items ++ close_words ∷ []) in
      ap (λ s. behind s line before rest (λ more. items_from nodes most (line + 1) more rest)) (line_back before item here)
      ∙ reads_from (before ++ item ∷ []) items (line + 1) (λ i d lt. subst (λ xs. IsBehind nodes most xs (get_or items i d)) (sym (append_assoc before (item ∷ []) (take i items))) (are (suc i) d (omega (arith, lt))))
      ∙ ap (λ xs. Ok xs) (append_assoc before (item ∷ []) items)

  all_words : (before items : List Item) → ((i : ℕ) (d : Item) → i < length items → IsBehind nodes most (before ++ take i items) (get_or items i d)) → All (All IsWord) (map (item_words nodes) items ++ close_words ∷ [])
  all_words before [] are = All-cons (All IsWord) close_words [] (one_more (codes "close") [] (code_word (codes "close") refl) no_words) (λ k d lt. absurd (omega (arith, lt)))
  all_words before (item ∷ items) are =
      let here : IsBehind nodes most before item = subst (λ xs. IsBehind nodes most xs item) (append-nil before) (are 0 item (omega arith)) in
      let same : item_words nodes item ≡ words_of_item item = ap (λ ws. decimal item.sample ∷ decimal item.editor ∷ decimal item.seq ∷ ws) (are_words (name_of nodes item.node) item.act) in
      All-cons (All IsWord) (item_words nodes item) (map (item_words nodes) items ++ close_words ∷ []) (subst (All IsWord) (sym same) (item_is_words before item here))
      (all_words (before ++ item ∷ []) items (λ i d lt. subst (λ xs. IsBehind nodes most xs (get_or items i d)) (sym (append_assoc before (item ∷ []) (take i items))) (are (suc i) d (omega (arith, lt)))))

  header_is_words : All IsWord header_words
  header_is_words = one_more (codes "vsthost") (codes "journal" ∷ codes "1" ∷ []) (code_word (codes "vsthost") refl) (one_more (codes "journal") (codes "1" ∷ []) (code_word (codes "journal") refl) (one_more (codes "1") [] (code_word (codes "1") refl) no_words))

  reads_back : (items : List Item) → AreEntries nodes most items → journal_of nodes most (lines_text (journal_words nodes items)) ≡ Ok items
  reads_back items are =
      let words = all_words [] items are in
      let lines = map (item_words nodes) items ++ close_words ∷ [] in
      let size = text_size nodes most items named small (λ i d lt. seq_small (take i items) (get_or items i d) (are i d lt)) are in
      passes_ (nat_lt journal_limit (length (lines_text (journal_words nodes items)))) (fault 0 TooLong) (lines_say nodes most (lines_of (lines_text (journal_words nodes items)))) (le-ltb journal_limit (length (lines_text (journal_words nodes items))) size)
      ∙ ap (lines_say nodes most) (lines_are (header_words ∷ lines) (All-cons (All IsWord) header_words lines header_is_words words))
      ∙ reads_from [] items 2 are

pub law_printed_is_read : PrintedIsRead
unfolding journal_text
law_printed_is_read nodes most items named small are = reads_back nodes most named small items are

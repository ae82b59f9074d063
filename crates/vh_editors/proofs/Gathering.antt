-- What gathered desks and what was taken of them make.
use Rattle.std.proofs.Common.{◌≡◌, ◌∙◌, inl, ℕ, suc, ◌+◌, ◌<◌, ◌≤◌, true, false, cond, List, [], ◌∷◌, ◌++◌, length, map, get_or, replicate, refl, sym, ap, subst, arith}
use Rattle.std.specs.Prelude.{All, sum}
use Rattle.std.specs.List.{AllByRecursion, enumerate_from}
use Rattle.std.proofs.lemmas.List.{length-map, get_or-map, get_or-replicate, same_lists}
use Rattle.std.proofs.lemmas.List.Elements.{All-from_recursion, All-append}
use Rattle.std.proofs.lemmas.List.Sums.{sum_by-cons}
use Rattle.vh_params.specs.Nodes.{Node}
use Rattle.vh_params.specs.declared.command.Command.{Command}
use Rattle.vh_params.specs.declared.command.Word.{Word}
use Rattle.vh_params.specs.declared.command.Word.TheVariants.{Edit, Hold, Unhold, Wait}
use Rattle.vh_gesture.specs.Scripts.{is_accepted, accepted_behind, commands, edits}
use Rattle.vh_journal.specs.declared.entry.Entry.{Entry}
use Rattle.vh_legal.specs.Blocks.{IsAtBlock}
use Rattle.vh_legal.specs.Legal.{is_by, by_editor, numbered as number_of, HasPlayed, script_at, IsLegal}
use Rattle.vh_inbox.specs.declared.rule.Item.{Item}
use Rattle.vh_inbox.specs.Lists.{of, numbered}
use Rattle.vh_inbox.specs.Facts.{sent_in}
use Rattle.vh_inbox.specs.Values.{TableId, item_of, entry_at, IsUpTo, Are}
use Rattle.vh_editors.specs.declared.editor.Editor.{Editor}
use Rattle.vh_editors.specs.Gathered.{script_in, list_in, listed, refused_at}
use Rattle.vh_editors.specs.Scripts.{quotas_of, refused_in, refused_by_each}
use Rattle.vh_editors.specs.Seats.{inbox_in, AreSeated}
use Rattle.vh_editors.proofs.Seating.{IsDone, is_done}

-- desks of one inbox
pub at_inbox : (inbox : TableId) (list : List Editor) → map inbox_in list ≡ replicate (length (map script_in list)) inbox → All (λ editor. editor.desk.inbox ≡ inbox) list
at_inbox inbox list is k d within =
    let long = length-map list script_in in
    sym (get_or-map inbox_in list k d inbox within) ∙ ap (λ (inboxes : List TableId). get_or inboxes k inbox) is ∙ get_or-replicate (length (map script_in list)) k inbox inbox (omega (arith, within, long))

abbrev pub AreDone : List Node → List Editor → Type 0
AreDone nodes list = (k : ℕ) (d : Editor) → k < length list → IsDone nodes k (get_or list k d)

pub are_done : (nodes : List Node) (list : List Editor) → AreSeated nodes (map script_in list) true list → AreDone nodes list
are_done nodes list are k d within = is_done nodes (map script_in list) k (get_or list k d) (are k d within)

-- of each editor the refused words
pub refused_each : (nodes : List Node) (list : List Editor) → AreDone nodes list → map refused_at list ≡ refused_by_each nodes (map script_in list)
refused_each nodes list are =
    let one = length-map list refused_at in
    let scripts = length-map list script_in in
    let other = length-map (map script_in list) (refused_in nodes) in
    same_lists (map refused_at list) (refused_by_each nodes (map script_in list)) (omega (arith, one, scripts, other)) (λ k d lt.
    let within : k < length list = omega (arith, lt, one) in
    at k d within)
  where
    at : (k : ℕ) (d : ℕ) → k < length list → get_or (map refused_at list) k d ≡ get_or (refused_by_each nodes (map script_in list)) k d
    at k d within = elim list as (λ l. AreDone nodes l → k < length l → get_or (map refused_at l) k d ≡ get_or (refused_by_each nodes (map script_in l)) k d) [
      | [] ↦ λ all lt. absurd (omega (arith, lt))
      | first ∷ rest ↦ λ all lt.
          let l = first ∷ rest in
          let long = length-map l script_in in
          get_or-map refused_at l k first d lt ∙ (all k first lt).refused
          ∙ sym (get_or-map (refused_in nodes) (map script_in l) k [] d (omega (arith, lt, long)) ∙ ap (refused_in nodes) (get_or-map script_in l k first [] lt))
    ] are within

-- a script does no more than its commands
few_commands : (nodes : List Node) (before words : List Word) → length (commands (accepted_behind nodes before words)) ≤ length (commands words)
few_commands nodes before [] = omega arith
few_commands nodes before (word ∷ words) =
    elim (is_accepted nodes before word) as (λ t. length (commands (cond t (word ∷ accepted_behind nodes (before ++ word ∷ []) words) (accepted_behind nodes before words))) ≤ length (commands (word ∷ words))) [
      | true ↦ with_word word (accepted_behind nodes (before ++ word ∷ []) words) words (few_commands nodes (before ++ word ∷ []) words)
      | false ↦ without word (accepted_behind nodes before words) words (few_commands nodes before words)
    ]
  where
    with_word : (word : Word) (some words : List Word) → length (commands some) ≤ length (commands words) → length (commands (word ∷ some)) ≤ length (commands (word ∷ words))
    with_word (Edit command) some words few = omega (arith, few)
    with_word (Hold node) some words few = few
    with_word (Unhold node) some words few = few
    with_word (Wait block) some words few = few

    without : (word : Word) (some words : List Word) → length (commands some) ≤ length (commands words) → length (commands some) ≤ length (commands (word ∷ words))
    without (Edit command) some words few = omega (arith, few)
    without (Hold node) some words few = few
    without (Unhold node) some words few = few
    without (Wait block) some words few = few

-- so all desks put no more than the quotas
few_sent : (nodes : List Node) (list : List Editor) → ((k : ℕ) (d : Editor) → k < length list → (get_or list k d).desk.list ≡ edits nodes (get_or list k d).script.items) → sent_in (listed list) ≤ sum (quotas_of (map script_in list))
few_sent nodes [] are = omega arith
few_sent nodes (editor ∷ list) are =
    let here : length editor.desk.list ≡ length (edits nodes editor.script.items) = ap length (are 0 editor (omega arith)) in
    let few = few_commands nodes [] editor.script.items in
    let rest = few_sent nodes list (λ k d lt. are (suc k) d (omega (arith, lt))) in
    let more = sum_by-cons (λ (n : ℕ). n) (length (commands editor.script.items)) (quotas_of (map script_in list)) in
    omega (arith, here, few, rest, more)

pub sent_within : (nodes : List Node) (list : List Editor) → AreDone nodes list → sent_in (listed list) ≤ sum (quotas_of (map script_in list))
sent_within nodes list are = few_sent nodes list (λ k d lt. (are k d lt).list)

pub all_listed : (list : List Editor) → length ([] ++ listed list) ≡ length (quotas_of (map script_in list))
all_listed list = length-map list list_in ∙ sym (length-map (map script_in list) (λ (script : List Word). length (commands script)) ∙ length-map list script_in)

-- items and entries of an editor
own_items : (editor : ℕ) (entries : List Entry) → of editor (map item_of entries) ≡ map item_of (by_editor editor entries)
own_items editor [] = refl
own_items editor (entry ∷ entries) =
    elim (is_by editor entry) as (λ t. cond t (item_of entry ∷ of editor (map item_of entries)) (of editor (map item_of entries)) ≡ map item_of (cond t (entry ∷ by_editor editor entries) (by_editor editor entries))) [
      | true ↦ ap (λ (items : List Item). item_of entry ∷ items) (own_items editor entries)
      | false ↦ own_items editor entries
    ]

abbrev pair_of : Item → ℕ × Command
pair_of item = (item.seq, item.command)

pairs_of_entries : (entries : List Entry) → map pair_of (map item_of entries) ≡ map number_of entries
pairs_of_entries [] = refl
pairs_of_entries (entry ∷ entries) = ap (λ (pairs : List (ℕ × Command)). number_of entry ∷ pairs) (pairs_of_entries entries)

pairs_of_numbered : (editor seq : ℕ) (sent : List Command) → map pair_of (numbered editor seq sent) ≡ enumerate_from seq sent
pairs_of_numbered editor seq [] = refl
pairs_of_numbered editor seq (command ∷ sent) = ap (λ (pairs : List (ℕ × Command)). (seq, command) ∷ pairs) (pairs_of_numbered editor (seq + 1) sent)

-- what was taken of an editor is what its script does
played_by : (nodes : List Node) (list : List Editor) (entries : List Entry) → AreDone nodes list → AllByRecursion (Are (map item_of entries)) (listed list)
    → (editor : ℕ) → editor < length (map script_in list) → HasPlayed nodes (script_at (map script_in list) editor) editor entries
played_by nodes list entries done are editor there = elim list as (λ l. AreDone nodes l → AllByRecursion (Are (map item_of entries)) (listed l) → editor < length (map script_in l) → HasPlayed nodes (script_at (map script_in l) editor) editor entries) [
  | [] ↦ λ each all lt. absurd (omega (arith, lt))
  | first ∷ rest ↦ λ each all lt. at (first ∷ rest) first each all lt
] done are there
  where
    at : (l : List Editor) (d : Editor) → AreDone nodes l → AllByRecursion (Are (map item_of entries)) (listed l) → editor < length (map script_in l) → HasPlayed nodes (script_at (map script_in l) editor) editor entries
    at l d each all lt =
        let long = length-map l script_in in
        let within : editor < length l = omega (arith, lt, long) in
        let long_too = length-map l list_in in
        let one = get_or l editor d in
        let is = each editor d within in
        let read : get_or (listed l) editor (list_in d) ≡ list_in one = get_or-map list_in l editor d (list_in d) within in
        let taken : Are (map item_of entries) (list_in one) =
        subst (Are (map item_of entries)) read (All-from_recursion (Are (map item_of entries)) (listed l) all editor (list_in d) (omega (arith, within, long_too))) in
        let script : script_at (map script_in l) editor ≡ one.script.items = get_or-map script_in l editor d [] within in
        let own : of editor (map item_of entries) ≡ numbered editor 0 (edits nodes one.script.items) =
        ap (λ n. of n (map item_of entries)) (sym is.number_is) ∙ taken ∙ ap (λ n. numbered n 0 one.desk.list) is.number_is ∙ ap (numbered editor 0) is.list in
        sym (pairs_of_entries (by_editor editor entries)) ∙ ap (map pair_of) (sym (own_items editor entries)) ∙ ap (map pair_of) own ∙ pairs_of_numbered editor 0 (edits nodes one.script.items)
        ∙ ap (λ (s : List Word). enumerate_from 0 (edits nodes s)) (sym script)

-- entries that are taken at a sample
pub all_at : (samples : ℕ) (taken : List Item) → All (λ entry. entry.sample ≡ samples) (map (entry_at samples) taken)
all_at samples taken k d lt =
    let long = length-map taken (entry_at samples) in
    ap (λ (entry : Entry). entry.sample) (get_or-map (entry_at samples) taken k (item_of d) d (omega (arith, lt, long)))

-- a journal of editors that are done, once all was taken of them
pub gathered : (nodes : List Node) (samples : ℕ) (list : List Editor) (old new more : List Entry) (pattern : List ℕ) → AreDone nodes list → IsUpTo samples new → All (λ entry. entry.editor < length (quotas_of (map script_in list))) new
    → AllByRecursion (Are (map item_of new)) (listed list) → new ≡ old ++ more → All (λ entry. entry.sample ≡ samples) more → All (λ entry. IsAtBlock samples pattern entry.sample) old
    → IsLegal nodes samples pattern (map script_in list) new
gathered nodes samples list old new more pattern done up_to editors are added last blocks =
    let count = length-map (map script_in list) (λ (script : List Word). length (commands script)) in
    record {
      rising = λ i j d lt within. up_to.never_fall i j d (omega (arith, lt)) within;
      within = up_to.most;
      blocks = subst (All (λ (entry : Entry). IsAtBlock samples pattern entry.sample)) (sym added)
          (All-append (λ (entry : Entry). IsAtBlock samples pattern entry.sample) old more blocks (λ k d lt. inl (last k d lt)));
      editors = λ k d lt. let at = editors k d lt in omega (arith, at, count);
      played = played_by nodes list new done are;
    }

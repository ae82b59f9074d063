-- A legal journal keeps the rules by which a text is read.
use Rattle.std.proofs.Common.{◌≡◌, ◌∙◌, ℕ, zero, suc, ◌-◌, ◌^◌, ◌<◌, ◌≤◌, true, false, not, ◌==◌, cond, List, [], ◌∷◌, ◌++◌, length, filter, take, get_or, refl, sym, ap, subst, arith}
use Rattle.std.specs.Prelude.{All, Option, Some, None}
use Rattle.std.specs.List.{AllByRecursion}
use Rattle.std.proofs.lemmas.Bool.{true≢false}
use Rattle.std.proofs.lemmas.List.{map-append, append-nil, append_assoc, length-map}
use Rattle.std.proofs.lemmas.List.Elements.{All-map, All-weaker}
use Rattle.std.proofs.lemmas.List.Sums.{length-filter}
use Rattle.vh_params.specs.Flags as flags
use Rattle.vh_params.specs.declared.param.ParamInfo.{ParamInfo}
use Rattle.vh_params.specs.declared.command.Command.{Command}
use Rattle.vh_params.specs.declared.command.Command.TheVariants.{Begin, Perform, End, Tell}
use Rattle.vh_params.specs.declared.command.Word.TheVariants.{Edit}
use Rattle.vh_params.specs.Nodes.{Node, nodes_of, info_in}
use Rattle.vh_journal.specs.declared.entry.Entry.{Entry}
use Rattle.vh_journal_text.specs.Items.{Item, act_of, node_of, item_of, items_of}
use Rattle.vh_journal_text.specs.Keeps.{is_writable, IsSettable, MayStand, IsBehind, AreEntries, AreThere}
use Rattle.vh_journal_text.specs.Laws.{PrintedIsRead}
use Rattle.vh_journal_text.specs.Rules.{no_item, last_sample}
use Rattle.vh_session.specs.Keeps.{EachBehind, IsScriptWord, is_settable, can_set}
use Rattle.vh_session.specs.Lines.{is_any}
use Rattle.vh_session.specs.View.{script_word}
use Rattle.vh_session.proofs.Says.{within_small}
use Rattle.vh_legal.specs.Legal.{by_editor}
use Rattle.vh_legal.specs.Journals.{IsOnParam, IsInTurn, commands_of, MayStandBehind}
use Rattle.vh_legal.specs.Laws.{LegalIsJournal}
use Rattle.vh_legal_text.specs.Laws.{LegalReadsBack}
use Rattle.vh_legal_text.proofs.Named.{are_named}
use Rattle.vh_legal_text.proofs.Opened.{none_open, one_open}
use Rattle.vh_legal_text.proofs.Scripted.{IsScripted, legal_is_scripted}

settable : (found : Option ParamInfo) → is_settable found ≡ true → is_writable found ≡ true
settable None can = absurd (true≢false (sym can))
settable (Some param) can = elim (flags.is_writable param.flags) as (λ t. not (not t) ≡ true → t ≡ true) [
  | true ↦ λ is. refl
  | false ↦ λ is. is
] can

small : (n : ℕ) → is_any n ≡ true → n < 2 ^ 32
small n any = within_small 0 4294967295 n (omega arith) any

can_be_set : (nodes : List Node) (node id : ℕ) → can_set nodes node id ≡ true → is_any id ≡ true → IsSettable nodes node id
can_be_set nodes node id can any = record { number = small id any; writable = settable (info_in nodes node id) can }

-- what an editor did may stand behind what it and the others did before
stands : (nodes : List Node) (before : List Entry) (editor : ℕ) (command : Command) → IsScriptWord (length nodes) (script_word (Edit command)) → IsOnParam nodes command
    → IsInTurn (commands_of (by_editor editor before)) command → (node_of command < length nodes) × MayStand nodes (items_of before) editor (node_of command) (act_of command)
stands nodes before editor (Begin node id) word on turn = (word.0, (can_be_set nodes node id on word.1, none_open before editor node id turn))
stands nodes before editor (Perform node id value) word on turn = (word.0, (can_be_set nodes node id on.0 word.1, one_open before editor node id turn, on.1))
stands nodes before editor (End node id) word on turn = (word.0, (can_be_set nodes node id on word.1, one_open before editor node id turn))
stands nodes before editor (Tell node words) word on turn = (word.0, (word.1.0, All-weaker (λ n. is_any n ≡ true) (λ n. n < 2 ^ 32) small _ word.1.1))

last_within : (items : List Item) (most : ℕ) → All (λ item. item.sample ≤ most) items → last_sample items ≤ most
last_within [] most all = omega arith
last_within (item ∷ items) most all =
    let at : suc (length items) - 1 ≡ length items = omega arith in
    subst (λ k. (get_or (item ∷ items) k no_item).sample ≤ most) (sym at) (all (length items) no_item (omega arith))

same_count : (before : List Entry) (editor : ℕ) → length (by_editor editor before) ≡ length (filter (λ item. item.editor == editor) (items_of before))
same_count [] editor = refl
same_count (entry ∷ before) editor =
    let rest = same_count before editor in
    let own = by_editor editor before in
    let items = filter (λ item. item.editor == editor) (items_of before) in
    elim (entry.editor == editor) as (λ t. length (cond t (entry ∷ own) own) ≡ length (cond t (item_of entry ∷ items) items)) [
      | true ↦ ap suc rest
      | false ↦ rest
    ]

behind : (nodes : List Node) (most : ℕ) (before : List Entry) (entry : Entry) → IsScripted nodes entry → MayStandBehind nodes most before entry → IsBehind nodes most (items_of before) (item_of entry)
behind nodes most before entry word may =
    let both = stands nodes before entry.editor entry.command word may.param may.turn in
    let long = length-map before item_of in
    let few = may.few in
    record {
      few = omega (arith, long, few);
      within = may.within;
      rising = last_within (items_of before) entry.sample (All-map (λ (item : Item). item.sample ≤ entry.sample) item_of before may.rising);
      editor = may.editor;
      turn = may.number ∙ same_count before entry.editor ∙ length-filter (λ (item : Item). item.editor == entry.editor) (items_of before);
      node = both.0;
      act = both.1;
    }

entries_from : (nodes : List Node) (most : ℕ) (before entries : List Entry) → EachBehind (MayStandBehind nodes most) before entries → AllByRecursion (IsScripted nodes) entries
    → (i : ℕ) (d : Item) → i < length (items_of entries) → IsBehind nodes most (items_of before ++ take i (items_of entries)) (get_or (items_of entries) i d)
entries_from nodes most before [] each words i d lt = absurd (omega (arith, lt))
entries_from nodes most before (entry ∷ entries) each words zero d lt =
    subst (λ bs. IsBehind nodes most bs (item_of entry)) (sym (append-nil (items_of before))) (behind nodes most before entry words.0 each.0)
entries_from nodes most before (entry ∷ entries) each words (suc i) d lt =
    let whole : items_of (before ++ entry ∷ []) ++ take i (items_of entries) ≡ items_of before ++ item_of entry ∷ take i (items_of entries) =
    ap (λ bs. bs ++ take i (items_of entries)) (map-append item_of before (entry ∷ [])) ∙ append_assoc (items_of before) (item_of entry ∷ []) (take i (items_of entries)) in
    subst (λ bs. IsBehind nodes most bs (get_or (items_of entries) i d)) whole (entries_from nodes most (before ++ entry ∷ []) entries each.1 words.1 i d (omega (arith, lt)))

node_there : (nodes : List Node) (command : Command) → IsScriptWord (length nodes) (script_word (Edit command)) → node_of command < length nodes
node_there nodes (Begin node id) word = word.0
node_there nodes (Perform node id value) word = word.0
node_there nodes (End node id) word = word.0
node_there nodes (Tell node words) word = word.0

entries_there : (nodes : List Node) (entries : List Entry) → AllByRecursion (IsScripted nodes) entries → AreThere nodes entries
entries_there nodes [] words i d lt = absurd (omega (arith, lt))
entries_there nodes (entry ∷ entries) words zero d lt = node_there nodes entry.command words.0
entries_there nodes (entry ∷ entries) words (suc i) d lt = entries_there nodes entries words.1 i d (omega (arith, lt))

pub law_legal_reads_back : LegalIsJournal → PrintedIsRead → LegalReadsBack
law_legal_reads_back journal_ printed session entries legal =
    let nodes = nodes_of session.nodes in
    let words = legal_is_scripted session entries legal in
    let rules : AreEntries nodes session.length (items_of entries) = entries_from nodes session.length [] entries (journal_ session entries legal) words in
    record {
      rules = rules;
      there = entries_there nodes entries words;
      text = printed nodes session.length (items_of entries) (are_named session) (within_small 0 16777216 session.length (omega arith) session.keeps.frames) rules;
    }

-- The entries of a journal, put by their editors, are accepted one after another.
use Rattle.std.proofs.Common.{◌≡◌, ◌∙◌, ℕ, ◌^◌, Bool, true, false, not, ◌==◌, ◌&&◌, cond, nat_lt, List, [], ◌∷◌, ◌++◌, length, map, filter, Option, Some, None, is_none, refl, sym, ap, subst, arith}
use Rattle.std.proofs.lemmas.Bool.{eq-eqb, eqb-true, ne_eqb, lt-ltb, le-ltb, true≢false}
use Rattle.std.proofs.lemmas.List.{append-nil, map-append, length-map}
use Rattle.std.proofs.lemmas.List.Elements.{filter-append}
use Rattle.vh_params.specs.declared.param.ParamInfo.{ParamInfo}
use Rattle.vh_params.specs.declared.command.Command.{Command}
use Rattle.vh_params.specs.declared.command.Command.TheVariants.{Begin, Perform, End, Tell}
use Rattle.vh_params.specs.declared.command.Word.{Word}
use Rattle.vh_params.specs.declared.command.Word.TheVariants.{Edit}
use Rattle.vh_params.specs.Nodes.{Node, info_in}
use Rattle.vh_gesture.specs.declared.fault.GestureFault.{GestureFault}
use Rattle.vh_gesture.specs.declared.fault.GestureFault.TheVariants.{NoReference, UnknownParam, ReadOnly, OutOfRange, AlreadyOpen, NotOpen}
use Rattle.vh_gesture.specs.Rules.{Rule, first_fault, fault, is_read_only}
use Rattle.vh_gesture.specs.Scripts.{is_hold, is_drop, count, counts_after, is_accepted, accepted, commands}
use Rattle.vh_journal.specs.declared.entry.Entry.{Entry}
use Rattle.vh_session.specs.Keeps.{is_settable}
use Rattle.vh_session.proofs.PartsNamed.{node_there}
use Rattle.vh_legal.specs.Legal.{is_by, by_editor}
use Rattle.vh_legal.specs.Journals.{IsOnParam, IsInTurn, commands_of, MayStandBehind}
use Rattle.vh_core.specs.declared.sent.Sent.{Sent}
use Rattle.vh_core.specs.Accepting.{names_node, words_by, edits_by, accepts, sent_by}
use Rattle.vh_core.proofs.Edits.{accepted_more, words_more}

-- what editors put, entry by entry
abbrev pub puts_of : List Entry → List (ℕ × Word)
puts_of entries = map (λ entry. (entry.editor, Edit entry.command)) entries

abbrev pub sent_as : Entry → Sent
sent_as entry = record { editor = entry.editor; seq = entry.seq; command = entry.command }

-- all that was put so far was accepted
abbrev pub AreAccepted : List Node → List Entry → Type 0
AreAccepted nodes entries = (editor : ℕ) → accepted nodes (words_by nodes editor (puts_of entries)) ≡ map Edit (commands_of (by_editor editor entries))

passes : (test : Bool) (given : GestureFault) (rules : List Rule) → test ≡ false → first_fault ((test, given) ∷ rules) ≡ first_fault rules
passes test given rules none = ap (λ t. cond t (Some given) (first_fault rules)) none

-- edits neither hold a node nor drop it
none_of : (is : Word → Bool) → ((command : Command) → is (Edit command) ≡ false) → (done : List Command) → count is (map Edit done) ≡ 0
none_of is none [] = refl
none_of is none (command ∷ done) = ap (λ t. length (cond t (Edit command ∷ filter is (map Edit done)) (filter is (map Edit done)))) (none command) ∙ none_of is none done

has_reference : (done : List Command) (node : ℕ) → ((counts_after (map Edit done)).held node == 0) ≡ false
has_reference done node =
    let held = none_of (is_hold node) (λ command. refl) done in
    let dropped = none_of (is_drop node) (λ command. refl) done in
    ne_eqb ((counts_after (map Edit done)).held node) 0 (λ e. omega (arith, e, held, dropped))

there : (found : Option ParamInfo) → is_settable found ≡ true → is_none found ≡ false
there None can = absurd (true≢false (sym can))
there (Some param) can = refl

writable : (found : Option ParamInfo) → is_settable found ≡ true → is_read_only found ≡ false
writable None can = refl
writable (Some param) can = elim (is_read_only (Some param)) as (λ t. not t ≡ true → t ≡ false) [
  | true ↦ λ is. absurd (true≢false (sym is))
  | false ↦ λ is. refl
] can

open_is : (counted wanted : ℕ) → counted ≡ wanted → not (counted == wanted) ≡ false
open_is counted wanted same = ap not (eq-eqb counted wanted same)

-- a command on a parameter, in turn, is let through
let_through : (nodes : List Node) (done : List Command) (command : Command) → IsOnParam nodes command → IsInTurn done command → fault nodes (counts_after (map Edit done)) (Edit command) ≡ None
let_through nodes done (Begin node id) on turn =
    let counts = counts_after (map Edit done) in
    let found = info_in nodes node id in
    passes (counts.held node == 0) NoReference ((is_none found, UnknownParam) ∷ (is_read_only found, ReadOnly) ∷ (not (counts.opened node id == 0), AlreadyOpen) ∷ []) (has_reference done node)
    ∙ passes (is_none found) UnknownParam ((is_read_only found, ReadOnly) ∷ (not (counts.opened node id == 0), AlreadyOpen) ∷ []) (there found on)
    ∙ passes (is_read_only found) ReadOnly ((not (counts.opened node id == 0), AlreadyOpen) ∷ []) (writable found on)
    ∙ passes (not (counts.opened node id == 0)) AlreadyOpen [] (open_is (counts.opened node id) 0 turn)
let_through nodes done (Perform node id value) on turn =
    let counts = counts_after (map Edit done) in
    let found = info_in nodes node id in
    let within = on.1 in
    passes (counts.held node == 0) NoReference ((is_none found, UnknownParam) ∷ (is_read_only found, ReadOnly) ∷ (nat_lt (2 ^ 24) value, OutOfRange value) ∷ (not (counts.opened node id == 1), NotOpen) ∷ []) (has_reference done node)
    ∙ passes (is_none found) UnknownParam ((is_read_only found, ReadOnly) ∷ (nat_lt (2 ^ 24) value, OutOfRange value) ∷ (not (counts.opened node id == 1), NotOpen) ∷ []) (there found on.0)
    ∙ passes (is_read_only found) ReadOnly ((nat_lt (2 ^ 24) value, OutOfRange value) ∷ (not (counts.opened node id == 1), NotOpen) ∷ []) (writable found on.0)
    ∙ passes (nat_lt (2 ^ 24) value) (OutOfRange value) ((not (counts.opened node id == 1), NotOpen) ∷ []) (le-ltb (2 ^ 24) value within)
    ∙ passes (not (counts.opened node id == 1)) NotOpen [] (open_is (counts.opened node id) 1 turn)
let_through nodes done (End node id) on turn =
    let counts = counts_after (map Edit done) in
    let found = info_in nodes node id in
    passes (counts.held node == 0) NoReference ((is_none found, UnknownParam) ∷ (is_read_only found, ReadOnly) ∷ (not (counts.opened node id == 1), NotOpen) ∷ []) (has_reference done node)
    ∙ passes (is_none found) UnknownParam ((is_read_only found, ReadOnly) ∷ (not (counts.opened node id == 1), NotOpen) ∷ []) (there found on)
    ∙ passes (is_read_only found) ReadOnly ((not (counts.opened node id == 1), NotOpen) ∷ []) (writable found on)
    ∙ passes (not (counts.opened node id == 1)) NotOpen [] (open_is (counts.opened node id) 1 turn)
let_through nodes done (Tell node words) on turn = passes ((counts_after (map Edit done)).held node == 0) NoReference [] (has_reference done node)

-- its node is there
is_named : (nodes : List Node) (command : Command) → IsOnParam nodes command → names_node nodes (Edit command) ≡ true
is_named nodes (Begin node id) on = lt-ltb node (length nodes) (node_there is_settable nodes node id refl on)
is_named nodes (Perform node id value) on = lt-ltb node (length nodes) (node_there is_settable nodes node id refl on.0)
is_named nodes (End node id) on = lt-ltb node (length nodes) (node_there is_settable nodes node id refl on)
is_named nodes (Tell node words) on = lt-ltb node (length nodes) on

commands_are : (done : List Command) → commands (map Edit done) ≡ done
commands_are [] = refl
commands_are (command ∷ done) = ap (λ (cs : List Command). command ∷ cs) (commands_are done)

module _ (nodes : List Node) (samples : ℕ) (before : List Entry) (entry : Entry) (all : AreAccepted nodes before) (may : MayStandBehind nodes samples before entry) where
  word_accepted : is_accepted nodes (accepted nodes (words_by nodes entry.editor (puts_of before))) (Edit entry.command) ≡ true
  word_accepted =
      ap (λ (ws : List Word). is_accepted nodes ws (Edit entry.command)) (all entry.editor)
      ∙ ap is_none (let_through nodes (commands_of (by_editor entry.editor before)) entry.command may.param may.turn)

  is_taken : accepts nodes (puts_of before) entry.editor (Edit entry.command) ≡ true
  is_taken = ap (λ t. t && is_accepted nodes (accepted nodes (words_by nodes entry.editor (puts_of before))) (Edit entry.command)) (is_named nodes entry.command may.param) ∙ word_accepted

  -- an entry that was put waits as it will stand
  pub waits_as : sent_by nodes (puts_of before) entry.editor (Edit entry.command) ≡ sent_as entry ∷ []
  waits_as =
      let own = commands_of (by_editor entry.editor before) in
      let long : length (edits_by nodes entry.editor (puts_of before)) ≡ entry.seq =
      ap (λ (ws : List Word). length (commands ws)) (all entry.editor) ∙ ap length (commands_are own) ∙ length-map (by_editor entry.editor before) (λ (e : Entry). e.command) ∙ sym may.number in
      let sent : ℕ → Sent = λ seq. record { editor = entry.editor; seq = seq; command = entry.command } in
      ap (λ t. cond t (sent (length (edits_by nodes entry.editor (puts_of before))) ∷ []) []) is_taken
      ∙ ap (λ seq. sent seq ∷ []) long

  own_more : (editor : ℕ) → (entry.editor == editor) ≡ true
      → accepted nodes (words_by nodes editor (puts_of before) ++ cond (names_node nodes (Edit entry.command)) (Edit entry.command ∷ []) []) ≡ map Edit (commands_of (by_editor editor before ++ entry ∷ []))
  own_more editor is =
      let same : entry.editor ≡ editor = eqb-true entry.editor editor is in
      let words = words_by nodes editor (puts_of before) in
      let here : is_accepted nodes (accepted nodes words) (Edit entry.command) ≡ true = subst (λ e. is_accepted nodes (accepted nodes (words_by nodes e (puts_of before))) (Edit entry.command) ≡ true) same word_accepted in
      let own = by_editor editor before in
      ap (λ t. accepted nodes (words ++ cond t (Edit entry.command ∷ []) [])) (is_named nodes entry.command may.param)
      ∙ accepted_more nodes [] words (Edit entry.command)
      ∙ ap (λ t. accepted nodes words ++ cond t (Edit entry.command ∷ []) []) here
      ∙ ap (λ (ws : List Word). ws ++ Edit entry.command ∷ []) (all editor)
      ∙ sym (map-append Edit (commands_of own) (entry.command ∷ []))
      ∙ ap (map Edit) (sym (map-append (λ (e : Entry). e.command) own (entry ∷ [])))

  pub all_more : AreAccepted nodes (before ++ entry ∷ [])
  all_more editor =
      let puts : puts_of (before ++ entry ∷ []) ≡ puts_of before ++ (entry.editor, Edit entry.command) ∷ [] = map-append (λ (e : Entry). (e.editor, Edit e.command)) before (entry ∷ []) in
      let words = words_by nodes editor (puts_of before) in
      ap (λ (ps : List (ℕ × Word)). accepted nodes (words_by nodes editor ps)) puts
      ∙ ap (accepted nodes) (words_more nodes editor entry.editor (puts_of before) (Edit entry.command))
      ∙ elim (entry.editor == editor) as (λ t. (entry.editor == editor) ≡ t → accepted nodes (words ++ cond t (cond (names_node nodes (Edit entry.command)) (Edit entry.command ∷ []) []) [])
      ≡ map Edit (commands_of (by_editor editor before ++ cond t (entry ∷ []) []))) [
        | true ↦ λ is. own_more editor is
        | false ↦ λ is. ap (accepted nodes) (append-nil words) ∙ all editor ∙ ap (λ (es : List Entry). map Edit (commands_of es)) (sym (append-nil (by_editor editor before)))
      ] refl
      ∙ ap (λ (es : List Entry). map Edit (commands_of es)) (sym (filter-append (is_by editor) before (entry ∷ [])))

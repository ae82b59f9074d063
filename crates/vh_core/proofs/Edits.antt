-- What each event makes of an editor's edits.
use Rattle.std.proofs.Common.{◌≡◌, ◌∙◌, ℕ, ◌+◌, Bool, true, false, ◌==◌, ◌&&◌, cond, List, [], ◌∷◌, ◌++◌, length, map, filter, take, drop, refl, sym, ap, arith}
use Rattle.std.specs.List.{enumerate_from}
use Rattle.std.proofs.lemmas.Bool.{eqb-true}
use Rattle.std.proofs.lemmas.List.{append_assoc, append-nil, map-append, take-append-drop}
use Rattle.std.proofs.lemmas.List.Elements.{filter-append}
use Rattle.vh_params.specs.declared.command.Command.{Command}
use Rattle.vh_params.specs.declared.command.Word.{Word}
use Rattle.vh_params.specs.declared.command.Word.TheVariants.{Edit, Hold, Unhold, Wait}
use Rattle.vh_params.specs.Nodes.{Node}
use Rattle.vh_gesture.specs.Scripts.{is_accepted, accepted_behind, accepted, commands}
use Rattle.vh_journal.specs.declared.entry.Entry.{Entry}
use Rattle.vh_core.specs.declared.sent.Sent.{Sent}
use Rattle.vh_core.specs.Accepting.{names_node, words_by, edits_by, accepts, sent_by}
use Rattle.vh_core.specs.Steps.{entry_at}
use Rattle.vh_core.specs.Sound.{entered_by, sent_of}
use Rattle.vh_core.proofs.Lists.{enumerate_plus}

-- where a word is accepted, behind those that were
abbrev pub accepted_word : List Node → List Word → Word → List Word
accepted_word nodes before word = cond (is_accepted nodes before word) (word ∷ []) []

pub accepted_more : (nodes : List Node) (before words : List Word) (word : Word)
    → accepted_behind nodes before (words ++ word ∷ []) ≡ accepted_behind nodes before words ++ accepted_word nodes (before ++ accepted_behind nodes before words) word
accepted_more nodes before [] word = ap (λ ws. accepted_word nodes ws word) (sym (append-nil before))
accepted_more nodes before (first ∷ words) word = elim (is_accepted nodes before first) as (λ t.
    cond t (first ∷ accepted_behind nodes (before ++ first ∷ []) (words ++ word ∷ [])) (accepted_behind nodes before (words ++ word ∷ []))
    ≡ cond t (first ∷ accepted_behind nodes (before ++ first ∷ []) words) (accepted_behind nodes before words)
    ++ accepted_word nodes (before ++ cond t (first ∷ accepted_behind nodes (before ++ first ∷ []) words) (accepted_behind nodes before words)) word) [
      | true ↦ ap (λ ws. first ∷ ws) (accepted_more nodes (before ++ first ∷ []) words word
          ∙ ap (λ ws. accepted_behind nodes (before ++ first ∷ []) words ++ accepted_word nodes ws word) (append_assoc before (first ∷ []) (accepted_behind nodes (before ++ first ∷ []) words)))
      | false ↦ accepted_more nodes before words word
    ]

pub commands_append : (one other : List Word) → commands (one ++ other) ≡ commands one ++ commands other
commands_append [] other = refl
commands_append (Edit command ∷ one) other = ap (λ cs. command ∷ cs) (commands_append one other)
commands_append (Hold node ∷ one) other = commands_append one other
commands_append (Unhold node ∷ one) other = commands_append one other
commands_append (Wait block ∷ one) other = commands_append one other

abbrev put_of : (ℕ × Word) → Word
put_of put = put.1

abbrev is_own : ℕ → (ℕ × Word) → Bool
is_own editor put = put.0 == editor

-- the word of a put, where it is an editor's and its node is there
abbrev pub own_word : List Node → ℕ → ℕ → Word → List Word
own_word nodes editor by word = cond (by == editor) (cond (names_node nodes word) (word ∷ []) []) []

one_word : (nodes : List Node) (editor by : ℕ) (word : Word) → words_by nodes editor ((by, word) ∷ []) ≡ own_word nodes editor by word
one_word nodes editor by word = elim (by == editor) as (λ t. filter (names_node nodes) (map put_of (cond t ((by, word) ∷ []) [])) ≡ cond t (cond (names_node nodes word) (word ∷ []) []) []) [
  | true ↦ refl
  | false ↦ refl
]

pub words_append : (nodes : List Node) (editor : ℕ) (one other : List (ℕ × Word)) → words_by nodes editor (one ++ other) ≡ words_by nodes editor one ++ words_by nodes editor other
words_append nodes editor one other =
    ap (λ puts. filter (names_node nodes) (map put_of puts)) (filter-append (is_own editor) one other)
    ∙ ap (filter (names_node nodes)) (map-append put_of (filter (is_own editor) one) (filter (is_own editor) other))
    ∙ filter-append (names_node nodes) (map put_of (filter (is_own editor) one)) (map put_of (filter (is_own editor) other))

pub words_more : (nodes : List Node) (editor by : ℕ) (puts : List (ℕ × Word)) (word : Word) → words_by nodes editor (puts ++ (by, word) ∷ []) ≡ words_by nodes editor puts ++ own_word nodes editor by word
words_more nodes editor by puts word = words_append nodes editor puts ((by, word) ∷ []) ∙ ap (λ ws. words_by nodes editor puts ++ ws) (one_word nodes editor by word)

-- what one word more comes to
abbrev edits_of_words : List Node → List Word → List Command
edits_of_words nodes words = commands (accepted nodes words)

edits_more : (nodes : List Node) (words : List Word) (word : Word)
    → edits_of_words nodes (words ++ cond (names_node nodes word) (word ∷ []) []) ≡ edits_of_words nodes words ++ commands (cond (names_node nodes word && is_accepted nodes (accepted nodes words) word) (word ∷ []) [])
edits_more nodes words word = elim (names_node nodes word) as (λ t.
    edits_of_words nodes (words ++ cond t (word ∷ []) []) ≡ edits_of_words nodes words ++ commands (cond (t && is_accepted nodes (accepted nodes words) word) (word ∷ []) [])) [
      | true ↦ ap commands (accepted_more nodes [] words word) ∙ commands_append (accepted nodes words) (accepted_word nodes (accepted nodes words) word)
      | false ↦ ap (edits_of_words nodes) (append-nil words) ∙ sym (append-nil (edits_of_words nodes words))
    ]

abbrev command_of : Sent → Command
command_of sent = sent.command

-- what is sent is what the word comes to
sent_is : (nodes : List Node) (puts : List (ℕ × Word)) (editor : ℕ) (word : Word) → commands (cond (accepts nodes puts editor word) (word ∷ []) []) ≡ map command_of (sent_by nodes puts editor word)
sent_is nodes puts editor (Edit command) = elim (accepts nodes puts editor (Edit command)) as (λ t.
    commands (cond t (Edit command ∷ []) []) ≡ map command_of (cond t (record { editor = editor; seq = length (edits_by nodes editor puts); command = command } ∷ []) [])) [
      | true ↦ refl
      | false ↦ refl
    ]
sent_is nodes puts editor (Hold node) = elim (accepts nodes puts editor (Hold node)) as (λ t. commands (cond t (Hold node ∷ []) []) ≡ []) [
  | true ↦ refl
  | false ↦ refl
]
sent_is nodes puts editor (Unhold node) = elim (accepts nodes puts editor (Unhold node)) as (λ t. commands (cond t (Unhold node ∷ []) []) ≡ []) [
  | true ↦ refl
  | false ↦ refl
]
sent_is nodes puts editor (Wait block) = elim (accepts nodes puts editor (Wait block)) as (λ t. commands (cond t (Wait block ∷ []) []) ≡ []) [
  | true ↦ refl
  | false ↦ refl
]

nothing : (t : Bool) → ◌≡◌ {A = List (ℕ × Command)} [] (cond t [] [])
nothing true = refl
nothing false = refl

abbrev number_of : Sent → ℕ × Command
number_of sent = (sent.seq, sent.command)

-- and is numbered behind the editor's edits before it; of another editor nothing is sent
sent_numbered : (nodes : List Node) (puts : List (ℕ × Word)) (editor other : ℕ) (word : Word)
    → sent_of other (sent_by nodes puts editor word) ≡ cond (editor == other) (enumerate_from (length (edits_by nodes editor puts)) (map command_of (sent_by nodes puts editor word))) []
sent_numbered nodes puts editor other (Edit command) =
    let seq = length (edits_by nodes editor puts) in
    let sent : Sent = record { editor = editor; seq = seq; command = command } in
    elim (accepts nodes puts editor (Edit command)) as (λ t. sent_of other (cond t (sent ∷ []) []) ≡ cond (editor == other) (enumerate_from seq (map command_of (cond t (sent ∷ []) []))) []) [
      | true ↦ elim (editor == other) as (λ u. map number_of (cond u (sent ∷ []) []) ≡ cond u ((seq, command) ∷ []) []) [
        | true ↦ refl
        | false ↦ refl
      ]
      | false ↦ nothing (editor == other)
    ]
sent_numbered nodes puts editor other (Hold node) = nothing (editor == other)
sent_numbered nodes puts editor other (Unhold node) = nothing (editor == other)
sent_numbered nodes puts editor other (Wait block) = nothing (editor == other)

-- a put adds what is sent to its editor's edits, and nothing to another's
pub edits_by_more : (nodes : List Node) (puts : List (ℕ × Word)) (editor other : ℕ) (word : Word)
    → edits_by nodes other (puts ++ (editor, word) ∷ []) ≡ edits_by nodes other puts ++ cond (editor == other) (map command_of (sent_by nodes puts editor word)) []
edits_by_more nodes puts editor other word =
    ap (edits_of_words nodes) (words_more nodes other editor puts word)
    ∙ elim (editor == other) as (λ t. editor == other ≡ t → edits_of_words nodes (words_by nodes other puts ++ cond t (cond (names_node nodes word) (word ∷ []) []) [])
    ≡ edits_by nodes other puts ++ cond t (map command_of (sent_by nodes puts editor word)) []) [
      | true ↦ λ is.
          let same : editor ≡ other = eqb-true editor other is in
          edits_more nodes (words_by nodes other puts) word
          ∙ ap (λ cs. edits_by nodes other puts ++ cs) (ap (λ (e : ℕ). commands (cond (accepts nodes puts e word) (word ∷ []) [])) (sym same) ∙ sent_is nodes puts editor word)
      | false ↦ λ is. ap (edits_of_words nodes) (append-nil (words_by nodes other puts)) ∙ sym (append-nil (edits_by nodes other puts))
    ] refl

abbrev is_sent_by : ℕ → Sent → Bool
is_sent_by editor sent = sent.editor == editor

pub sent_append : (editor : ℕ) (one other : List Sent) → sent_of editor (one ++ other) ≡ sent_of editor one ++ sent_of editor other
sent_append editor one other = ap (map number_of) (filter-append (is_sent_by editor) one other) ∙ map-append number_of (filter (is_sent_by editor) one) (filter (is_sent_by editor) other)

abbrev is_entered_by : ℕ → Entry → Bool
is_entered_by editor entry = entry.editor == editor

abbrev entry_number : Entry → ℕ × Command
entry_number entry = (entry.seq, entry.command)

pub entered_append : (editor : ℕ) (one other : List Entry) → entered_by editor (one ++ other) ≡ entered_by editor one ++ entered_by editor other
entered_append editor one other = ap (map entry_number) (filter-append (is_entered_by editor) one other) ∙ map-append entry_number (filter (is_entered_by editor) one) (filter (is_entered_by editor) other)

-- an editor's edits behind a put
pub put_keeps : (nodes : List Node) (puts : List (ℕ × Word)) (journal : List Entry) (inbox : List Sent) (editor other : ℕ) (word : Word)
    → entered_by other journal ++ sent_of other inbox ≡ enumerate_from 0 (edits_by nodes other puts)
    → entered_by other journal ++ sent_of other (inbox ++ sent_by nodes puts editor word) ≡ enumerate_from 0 (edits_by nodes other (puts ++ (editor, word) ∷ []))
put_keeps nodes puts journal inbox editor other word kept =
    let sent = sent_by nodes puts editor word in
    let done = edits_by nodes other puts in
    let none : 0 + length done ≡ length done = omega arith in
    let behind : cond (editor == other) (enumerate_from (length (edits_by nodes editor puts)) (map command_of sent)) [] ≡ enumerate_from (length done) (cond (editor == other) (map command_of sent) []) =
    elim (editor == other) as (λ t. editor == other ≡ t → cond t (enumerate_from (length (edits_by nodes editor puts)) (map command_of sent)) [] ≡ enumerate_from (length done) (cond t (map command_of sent) [])) [
      | true ↦ λ is. ap (λ (e : ℕ). enumerate_from (length (edits_by nodes e puts)) (map command_of sent)) (eqb-true editor other is)
      | false ↦ λ is. refl
    ] refl in
    ap (λ l. entered_by other journal ++ l) (sent_append other inbox sent)
    ∙ sym (append_assoc (entered_by other journal) (sent_of other inbox) (sent_of other sent))
    ∙ ap (λ l. l ++ sent_of other sent) kept
    ∙ ap (λ l. enumerate_from 0 done ++ l) (sent_numbered nodes puts editor other word ∙ behind ∙ ap (λ n. enumerate_from n (cond (editor == other) (map command_of sent) [])) (sym none))
    ∙ sym (enumerate_plus 0 done (cond (editor == other) (map command_of sent) []))
    ∙ ap (enumerate_from 0) (sym (edits_by_more nodes puts editor other word))

-- what is taken stands as it was sent
taken_same : (editor sample : ℕ) (inbox : List Sent) → entered_by editor (map (entry_at sample) inbox) ≡ sent_of editor inbox
taken_same editor sample [] = refl
taken_same editor sample (sent ∷ inbox) = elim (sent.editor == editor) as (λ t. map entry_number (cond t (entry_at sample sent ∷ filter (is_entered_by editor) (map (entry_at sample) inbox)) (filter (is_entered_by editor) (map (entry_at sample) inbox)))
    ≡ map number_of (cond t (sent ∷ filter (is_sent_by editor) inbox) (filter (is_sent_by editor) inbox))) [
      | true ↦ ap (λ l. (sent.seq, sent.command) ∷ l) (taken_same editor sample inbox)
      | false ↦ taken_same editor sample inbox
    ]

pub take_keeps : (editor count sample : ℕ) (journal : List Entry) (inbox : List Sent)
    → entered_by editor (journal ++ map (entry_at sample) (take count inbox)) ++ sent_of editor (drop count inbox) ≡ entered_by editor journal ++ sent_of editor inbox
take_keeps editor count sample journal inbox =
    ap (λ l. l ++ sent_of editor (drop count inbox)) (entered_append editor journal (map (entry_at sample) (take count inbox)) ∙ ap (λ l. entered_by editor journal ++ l) (taken_same editor sample (take count inbox)))
    ∙ append_assoc (entered_by editor journal) (sent_of editor (take count inbox)) (sent_of editor (drop count inbox))
    ∙ ap (λ l. entered_by editor journal ++ l) (sym (sent_append editor (take count inbox) (drop count inbox)) ∙ ap (sent_of editor) (take-append-drop count inbox))

-- What stands in a script's edits was accepted behind those before it.
use Rattle.std.proofs.Common.{◌≡◌, ◌∙◌, ℕ, suc, ◌+◌, ◌-◌, ◌<◌, ◌≤◌, ◌^◌, Bool, true, false, not, ◌==◌, cond, nat_lt, List, [], ◌∷◌, ◌++◌, length, map, filter, Option, Some, None, is_none, refl, sym, ap, subst, arith}
use Rattle.std.specs.List.{AllByRecursion}
use Rattle.std.proofs.lemmas.Bool.{eqb-true, ltb-false, true≢false, not-false}
use Rattle.std.proofs.lemmas.List.{append-nil, append_assoc}
use Rattle.vh_params.specs.declared.param.ParamInfo.{ParamInfo}
use Rattle.vh_params.specs.declared.command.Command.{Command}
use Rattle.vh_params.specs.declared.command.Command.TheVariants.{Begin, Perform, End, Tell}
use Rattle.vh_params.specs.declared.command.Word.{Word}
use Rattle.vh_params.specs.declared.command.Word.TheVariants.{Edit, Hold, Unhold, Wait}
use Rattle.vh_params.specs.Nodes.{Node, info_in}
use Rattle.vh_gesture.specs.declared.fault.GestureFault.{GestureFault}
use Rattle.vh_gesture.specs.declared.fault.GestureFault.TheVariants.{AlreadyOpen, OutOfRange}
use Rattle.vh_gesture.specs.Rules.{Rule, NamesNode, is_read_only, no_reference, unknown, read_only, not_open, fault}
use Rattle.vh_gesture.specs.Scripts.{is_begin, is_end, count, counts_after, is_accepted, accepted_behind, accepted, commands, edits}
use Rattle.vh_gesture.proofs.Judged.{passes}
use Rattle.vh_session.specs.Keeps.{is_settable, can_set}
use Rattle.vh_legal.specs.Journals.{IsOnParam, IsInTurn, open_after}

-- a command was accepted behind words whose commands are these
record IsBehind (nodes : List Node) (before : List Word) (done : List Command) (command : Command) : Type 0 where
  words : List Word
  commands_are : commands words ≡ done
  accepted_is : is_accepted nodes (before ++ words) (Edit command) ≡ true
  names : NamesNode nodes (Edit command)

pub same_head : {A : Type 0} (x y : A) (xs ys : List A) → x ∷ xs ≡ y ∷ ys → x ≡ y
same_head x y xs ys is = cc

pub same_tail : {A : Type 0} (x y : A) (xs ys : List A) → x ∷ xs ≡ y ∷ ys → xs ≡ ys
same_tail x y xs ys is = cc

abbrev More : List Node → List Word → List Word → Command → List Command → Type 0
More nodes before later command rest = (done : List Command) → commands later ≡ done ++ command ∷ rest → IsBehind nodes before done command

-- one word more, which is no edit
passed_over : (nodes : List Node) (before : List Word) (word : Word) (done : List Command) (command : Command) → ((ws : List Word) → commands (word ∷ ws) ≡ commands ws)
    → IsBehind nodes (before ++ word ∷ []) done command → IsBehind nodes before done command
passed_over nodes before word done command over later = record {
  words = word ∷ later.words;
  commands_are = over later.words ∙ later.commands_are;
  accepted_is = subst (λ (ws : List Word). is_accepted nodes ws (Edit command) ≡ true) (append_assoc before (word ∷ []) later.words) later.accepted_is;
  names = later.names;
}

-- one edit more, which is the command or stands before it
edit_more : (nodes : List Node) (before : List Word) (edit : Command) (later : List Word) (done : List Command) (command : Command) (rest : List Command) → NamesNode nodes (Edit edit) → is_accepted nodes before (Edit edit) ≡ true
    → edit ∷ commands later ≡ done ++ command ∷ rest → More nodes (before ++ Edit edit ∷ []) later command rest → IsBehind nodes before done command
edit_more nodes before edit later [] command rest names was is more =
    let same : edit ≡ command = same_head edit command (commands later) rest is in
    record {
      words = [];
      commands_are = refl;
      accepted_is = subst (λ (ws : List Word). is_accepted nodes ws (Edit command) ≡ true) (sym (append-nil before)) (subst (λ (c : Command). is_accepted nodes before (Edit c) ≡ true) same was);
      names = subst (λ (c : Command). NamesNode nodes (Edit c)) same names;
    }
edit_more nodes before edit later (first ∷ done) command rest names was is more =
    let same : edit ≡ first = same_head edit first (commands later) (done ++ command ∷ rest) is in
    let behind = more done (same_tail edit first (commands later) (done ++ command ∷ rest) is) in
    record {
      words = Edit edit ∷ behind.words;
      commands_are = ap (λ (c : Command). c ∷ commands behind.words) same ∙ ap (λ (cs : List Command). first ∷ cs) behind.commands_are;
      accepted_is = subst (λ (ws : List Word). is_accepted nodes ws (Edit command) ≡ true) (append_assoc before (Edit edit ∷ []) behind.words) behind.accepted_is;
      names = behind.names;
    }

word_more : (nodes : List Node) (before : List Word) (word : Word) (later : List Word) (done : List Command) (command : Command) (rest : List Command) → NamesNode nodes word → is_accepted nodes before word ≡ true
    → commands (word ∷ later) ≡ done ++ command ∷ rest → More nodes (before ++ word ∷ []) later command rest → IsBehind nodes before done command
word_more nodes before (Edit edit) later done command rest names was is more = edit_more nodes before edit later done command rest names was is more
word_more nodes before (Hold node) later done command rest names was is more = passed_over nodes before (Hold node) done command (λ ws. refl) (more done is)
word_more nodes before (Unhold node) later done command rest names was is more = passed_over nodes before (Unhold node) done command (λ ws. refl) (more done is)
word_more nodes before (Wait block) later done command rest names was is more = passed_over nodes before (Wait block) done command (λ ws. refl) (more done is)

nothing_there : (done : List Command) (command : Command) (rest : List Command) → [] ≡ done ++ command ∷ rest → ⊥
nothing_there [] command rest is = cc
nothing_there (first ∷ done) command rest is = cc

stands_behind : (nodes : List Node) (before words : List Word) (done : List Command) (command : Command) (rest : List Command) → AllByRecursion (NamesNode nodes) words
    → commands (accepted_behind nodes before words) ≡ done ++ command ∷ rest → IsBehind nodes before done command
stands_behind nodes before [] done command rest names is = absurd (nothing_there done command rest is)
stands_behind nodes before (word ∷ words) done command rest names is =
    elim (is_accepted nodes before word) as (λ t. is_accepted nodes before word ≡ t
    → commands (cond t (word ∷ accepted_behind nodes (before ++ word ∷ []) words) (accepted_behind nodes before words)) ≡ done ++ command ∷ rest → IsBehind nodes before done command) [
      | true ↦ λ was are.
          word_more nodes before word (accepted_behind nodes (before ++ word ∷ []) words) done command rest names.0 was are
          (λ (others : List Command) (same : commands (accepted_behind nodes (before ++ word ∷ []) words) ≡ others ++ command ∷ rest). stands_behind nodes (before ++ word ∷ []) words others command rest names.1 same)
      | false ↦ λ was are. stands_behind nodes before words done command rest names.1 are
    ] refl is

none_from : (given : Option GestureFault) → is_none given ≡ true → given ≡ None
none_from None is = refl
none_from (Some other) is = absurd (true≢false (sym is))

-- a test that no word but an edit passes counts the edits alone
count_edits : (is : Word → Bool) → ((node : ℕ) → is (Hold node) ≡ false) → ((node : ℕ) → is (Unhold node) ≡ false) → ((block : ℕ) → is (Wait block) ≡ false)
    → (words : List Word) → count is words ≡ count is (map Edit (commands words))
count_edits is hold drop wait [] = refl
count_edits is hold drop wait (Edit command ∷ words) =
    let rest = count_edits is hold drop wait words in
    elim (is (Edit command)) as (λ t. length (cond t (Edit command ∷ filter is words) (filter is words)) ≡ length (cond t (Edit command ∷ filter is (map Edit (commands words))) (filter is (map Edit (commands words))))) [
      | true ↦ ap suc rest
      | false ↦ rest
    ]
count_edits is hold drop wait (Hold node ∷ words) = ap (λ t. length (cond t (Hold node ∷ filter is words) (filter is words))) (hold node) ∙ count_edits is hold drop wait words
count_edits is hold drop wait (Unhold node ∷ words) = ap (λ t. length (cond t (Unhold node ∷ filter is words) (filter is words))) (drop node) ∙ count_edits is hold drop wait words
count_edits is hold drop wait (Wait block ∷ words) = ap (λ t. length (cond t (Wait block ∷ filter is words) (filter is words))) (wait block) ∙ count_edits is hold drop wait words

-- how many gestures are open after words hangs on their commands alone
same_open : (words : List Word) (done : List Command) (node id : ℕ) → commands words ≡ done → (counts_after words).opened node id ≡ open_after done node id
same_open words done node id are =
    let begun = count_edits (is_begin node id) (λ n. refl) (λ n. refl) (λ b. refl) words in
    let ended = count_edits (is_end node id) (λ n. refl) (λ n. refl) (λ b. refl) words in
    ap (λ n. n - count (is_end node id) words) begun ∙ ap (λ n. count (is_begin node id) (map Edit (commands words)) - n) ended ∙ ap (λ (cs : List Command). open_after cs node id) are

settable : (given : Option ParamInfo) → is_none given ≡ false → is_read_only given ≡ false → is_settable given ≡ true
settable None there writable = absurd (true≢false there)
settable (Some param) there writable = ap not writable

pub record IsFit (nodes : List Node) (done : List Command) (command : Command) : Type 0 where
  pub param : IsOnParam nodes command
  pub turn : IsInTurn done command

-- an accepted command is on a parameter, and its gesture in turn
fits : (nodes : List Node) (done : List Command) (command : Command) (words : List Word) → commands words ≡ done → NamesNode nodes (Edit command) → fault nodes (counts_after words) (Edit command) ≡ None → IsFit nodes done command
fits nodes done (Begin node id) words are names none =
    let counts = counts_after words in
    let already : Rule = (not (counts.opened node id == 0), AlreadyOpen) in
    let one = passes (no_reference counts node) (unknown nodes node id ∷ read_only nodes node id ∷ already ∷ []) none in
    let two = passes (unknown nodes node id) (read_only nodes node id ∷ already ∷ []) one.1 in
    let three = passes (read_only nodes node id) (already ∷ []) two.1 in
    let four = passes already [] three.1 in
    record {
      param = settable (info_in nodes node id) two.0 three.0;
      turn = sym (same_open words done node id are) ∙ eqb-true (counts.opened node id) 0 (not-false (counts.opened node id == 0) four.0);
    }
fits nodes done (Perform node id value) words are names none =
    let counts = counts_after words in
    let high : Rule = (nat_lt (2 ^ 24) value, OutOfRange value) in
    let one = passes (no_reference counts node) (unknown nodes node id ∷ read_only nodes node id ∷ high ∷ not_open counts node id ∷ []) none in
    let two = passes (unknown nodes node id) (read_only nodes node id ∷ high ∷ not_open counts node id ∷ []) one.1 in
    let three = passes (read_only nodes node id) (high ∷ not_open counts node id ∷ []) two.1 in
    let four = passes high (not_open counts node id ∷ []) three.1 in
    let five = passes (not_open counts node id) [] four.1 in
    record {
      param = (settable (info_in nodes node id) two.0 three.0, ltb-false (2 ^ 24) value four.0);
      turn = sym (same_open words done node id are) ∙ eqb-true (counts.opened node id) 1 (not-false (counts.opened node id == 1) five.0);
    }
fits nodes done (End node id) words are names none =
    let counts = counts_after words in
    let one = passes (no_reference counts node) (unknown nodes node id ∷ read_only nodes node id ∷ not_open counts node id ∷ []) none in
    let two = passes (unknown nodes node id) (read_only nodes node id ∷ not_open counts node id ∷ []) one.1 in
    let three = passes (read_only nodes node id) (not_open counts node id ∷ []) two.1 in
    let four = passes (not_open counts node id) [] three.1 in
    record {
      param = settable (info_in nodes node id) two.0 three.0;
      turn = sym (same_open words done node id are) ∙ eqb-true (counts.opened node id) 1 (not-false (counts.opened node id == 1) four.0);
    }
fits nodes done (Tell node words_) words are names none = record { param = names; turn = tt }

-- so each of a script's edits
pub edit_fits : (nodes : List Node) (script : List Word) (done : List Command) (command : Command) (rest : List Command) → AllByRecursion (NamesNode nodes) script
    → edits nodes script ≡ done ++ command ∷ rest → IsFit nodes done command
edit_fits nodes script done command rest names is =
    let behind = stands_behind nodes [] script done command rest names is in
    fits nodes done command behind.words behind.commands_are behind.names (none_from (fault nodes (counts_after behind.words) (Edit command)) behind.accepted_is)

-- there are no more edits than words
few_accepted : (nodes : List Node) (before words : List Word) → length (accepted_behind nodes before words) ≤ length words
few_accepted nodes before [] = omega arith
few_accepted nodes before (word ∷ words) =
    let taken = few_accepted nodes (before ++ word ∷ []) words in
    let left = few_accepted nodes before words in
    elim (is_accepted nodes before word) as (λ t. length (cond t (word ∷ accepted_behind nodes (before ++ word ∷ []) words) (accepted_behind nodes before words)) ≤ suc (length words)) [
      | true ↦ omega (arith, taken)
      | false ↦ omega (arith, left)
    ]

few_commands : (words : List Word) → length (commands words) ≤ length words
few_commands [] = omega arith
few_commands (Edit command ∷ words) = let rest = few_commands words in omega (arith, rest)
few_commands (Hold node ∷ words) = let rest = few_commands words in omega (arith, rest)
few_commands (Unhold node ∷ words) = let rest = few_commands words in omega (arith, rest)
few_commands (Wait block ∷ words) = let rest = few_commands words in omega (arith, rest)

pub few_edits : (nodes : List Node) (script : List Word) → length (edits nodes script) ≤ length script
few_edits nodes script =
    let some = few_accepted nodes [] script in
    let fewer = few_commands (accepted nodes script) in
    omega (arith, some, fewer)

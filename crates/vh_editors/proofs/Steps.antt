-- One word of a script, and then the rest.
use Rattle.std.proofs.Common.{◌≡◌, ◌∙◌, ℕ, ◌+◌, ◌<◌, ◌≤◌, true, false, cond, List, [], ◌∷◌, ◌++◌, length, drop, get_or, refl, ap, subst, arith}
use Rattle.std.specs.Prelude.{slice_index}
use Rattle.std.proofs.lemmas.List.{drop_more, at_drop_more, length-append, length-set}
use Rattle.std.proofs.lemmas.List.Elements.{All-cons, All-head, All-tail, All-nil}
use Rattle.vh_params.specs.Nodes.{Node}
use Rattle.vh_params.specs.declared.command.Command.TheVariants.{Begin, Perform, End, Tell}
use Rattle.vh_params.specs.declared.command.Word.{Word}
use Rattle.vh_params.specs.declared.command.Word.TheVariants.{Edit, Hold, Unhold, Wait}
use Rattle.vh_gesture.specs.Rules.{NamesNode}
use Rattle.vh_gesture.specs.Scripts.{is_wait, commands}
use Rattle.vh_gesture.specs.Tables.{Table, IsOf, accepts, after, mark, references_at, held_once_more, held_once_less}
use Rattle.vh_gesture.proofs.Marks.{kept_by_mark}
use Rattle.vh_inbox.specs.Values.{AtDesk, performed, refused_once_more}
use Rattle.vh_editors.specs.Editing.{stepped, through, MayRun}

of_kept : (nodes : List Node) (table : Table) (word : Word) → IsOf nodes table → IsOf nodes (after table word)
of_kept nodes table (Edit (Begin node id)) is = kept_by_mark nodes table.references table.gates (mark node id true table.gates) node id true refl is
of_kept nodes table (Edit (Perform node id value)) is = is
of_kept nodes table (Edit (End node id)) is = kept_by_mark nodes table.references table.gates (mark node id false table.gates) node id false refl is
of_kept nodes table (Edit (Tell node words)) is = is
of_kept nodes table (Hold node) is = record { count = length-set table.references node (held_once_more (references_at table node)) ∙ is.count; keys = is.keys }
of_kept nodes table (Unhold node) is = record { count = length-set table.references node (held_once_less (references_at table node)) ∙ is.count; keys = is.keys }
of_kept nodes table (Wait block) is = is

-- the commands of one word, and those of the rest
pub commands_split : (word : Word) (words : List Word) → commands (word ∷ words) ≡ commands (word ∷ []) ++ commands words
commands_split (Edit command) words = refl
commands_split (Hold node) words = refl
commands_split (Unhold node) words = refl
commands_split (Wait block) words = refl

count_split : (word : Word) (words : List Word) → length (commands (word ∷ words)) ≡ length (commands (word ∷ [])) + length (commands words)
count_split word words = ap length (commands_split word words) ∙ length-append (commands (word ∷ [])) (commands words)

first_word : (nodes : List Node) (desk : AtDesk) (word : Word) (words : List Word) → MayRun nodes desk (word ∷ words) → MayRun nodes desk (word ∷ [])
first_word nodes desk word words may =
    let more = count_split word words in
    record {
      table = may.table;
      names = All-cons (NamesNode nodes) word [] (All-head (NamesNode nodes) word words may.names) (All-nil (NamesNode nodes));
      room = omega (arith, more, may.room);
      never_full = may.never_full;
      short = omega (arith, may.short);
    }

next_words : (nodes : List Node) (desk : AtDesk) (word : Word) (words : List Word) → MayRun nodes desk (word ∷ words) → MayRun nodes (stepped nodes desk word) words
next_words nodes desk word words may =
    let more = count_split word words in
    let put = length-append desk.list (commands (word ∷ [])) in
    let names = All-tail (NamesNode nodes) word words may.names in
    let short : length words ≤ 4096 = omega (arith, may.short) in
    let room : length desk.list + length (commands words) ≤ slice_index desk.quotas desk.number = omega (arith, more, may.room) in
    elim (accepts nodes desk.table word) as (λ t. MayRun nodes (cond t (performed desk word) (cond (is_wait word) desk (refused_once_more desk))) words) [
      | true ↦ record { table = of_kept nodes desk.table word may.table; names = names; room = omega (arith, more, put, may.room); never_full = may.never_full; short = short }
      | false ↦ elim (is_wait word) as (λ t. MayRun nodes (cond t desk (refused_once_more desk)) words) [
        | true ↦ record { table = may.table; names = names; room = room; never_full = may.never_full; short = short }
        | false ↦ record { table = may.table; names = names; room = room; never_full = may.never_full; short = short }
      ]
    ]

-- from a place of a script on
pub may_first : (nodes : List Node) (desk : AtDesk) (words : List Word) (i : ℕ) (d : Word) → i < length words → MayRun nodes desk (drop i words) → MayRun nodes desk (get_or words i d ∷ [])
may_first nodes desk words i d within may =
    first_word nodes desk (get_or words i d) (drop (i + 1) words) (subst (MayRun nodes desk) (drop_more words i d within) may)

pub may_next : (nodes : List Node) (desk : AtDesk) (words : List Word) (i : ℕ) (d : Word) → i < length words → MayRun nodes desk (drop i words) → MayRun nodes (stepped nodes desk (get_or words i d)) (drop (i + 1) words)
may_next nodes desk words i d within may =
    next_words nodes desk (get_or words i d) (drop (i + 1) words) (subst (MayRun nodes desk) (drop_more words i d within) may)

pub through_next : (nodes : List Node) (desk : AtDesk) (words : List Word) (i : ℕ) (d : Word) → i < length words → through nodes desk (drop i words) ≡ through nodes (stepped nodes desk (get_or words i d)) (drop (i + 1) words)
through_next nodes desk words i d within = at_drop_more (through nodes desk) words i d within

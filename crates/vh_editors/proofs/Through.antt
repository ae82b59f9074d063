-- What a whole script leaves of a desk.
use Rattle.std.proofs.Common.{◌≡◌, ◌∙◌, ℕ, suc, ◌+◌, ◌-◌, ◌^◌, ◌<◌, ◌≤◌, min, true, false, not, cond, List, [], ◌∷◌, ◌++◌, length, filter, is_none, refl, sym, ap, arith, append-nil, append_assoc}
use Rattle.std.specs.Prelude.{All}
use Rattle.std.proofs.lemmas.Bool.{and_parts}
use Rattle.vh_params.specs.Nodes.{Node}
use Rattle.vh_params.specs.declared.command.Command.{Command}
use Rattle.vh_params.specs.declared.command.Word.{Word}
use Rattle.vh_gesture.specs.Rules.{NamesNode}
use Rattle.vh_gesture.specs.Scripts.{is_wait, commands, accepted, edits}
use Rattle.vh_gesture.specs.Tables.{Table, fresh, after, fault_at, accepts, accepted_by, table_after}
use Rattle.vh_gesture.proofs.Tracks.{follows_fresh}
use Rattle.vh_inbox.specs.Values.{TableId, AtDesk, new_desk, performed, refused_once_more}
use Rattle.vh_editors.specs.Editing.{stepped, through, refused_by}
use Rattle.vh_editors.specs.Scripts.{refused_in}
use Rattle.vh_editors.proofs.Steps.{commands_split}

-- what no word changes
pub kept : {B : Type 0} (f : AtDesk → B) → ((desk : AtDesk) (word : Word) → f (performed desk word) ≡ f desk) → ((desk : AtDesk) → f (refused_once_more desk) ≡ f desk)
    → (nodes : List Node) (desk : AtDesk) (words : List Word) → f (through nodes desk words) ≡ f desk
kept f one other nodes desk [] = refl
kept f one other nodes desk (word ∷ words) = kept f one other nodes (stepped nodes desk word) words ∙ step
  where
    step : f (stepped nodes desk word) ≡ f desk
    step = elim (accepts nodes desk.table word) as (λ t. f (cond t (performed desk word) (cond (is_wait word) desk (refused_once_more desk))) ≡ f desk) [
      | true ↦ one desk word
      | false ↦ elim (is_wait word) as (λ t. f (cond t desk (refused_once_more desk)) ≡ f desk) [
        | true ↦ refl
        | false ↦ other desk
      ]
    ]

abbrev ended : AtDesk → List Command → ℕ → Table → AtDesk
ended desk list refused table = record desk { list = list; refused = refused; table = table }

pub through_is : (nodes : List Node) (desk : AtDesk) (words : List Word) → desk.refused + length words < 2 ^ 32
    → through nodes desk words ≡ ended desk (desk.list ++ commands (accepted_by nodes desk.table words)) (desk.refused + refused_by nodes desk.table words) (table_after nodes desk.table words)
through_is nodes desk [] few =
    let none : desk.refused ≡ desk.refused + 0 = omega arith in
    ap (λ (list : List Command). ended desk list desk.refused desk.table) (sym (append-nil desk.list)) ∙ ap (λ n. ended desk (desk.list ++ []) n desk.table) none
through_is nodes desk (word ∷ words) few =
    elim (accepts nodes desk.table word) as (λ t.
    through nodes (cond t (performed desk word) (cond (is_wait word) desk (refused_once_more desk))) words
    ≡ ended desk (desk.list ++ commands (cond t (word ∷ accepted_by nodes (after desk.table word) words) (accepted_by nodes desk.table words)))
    (desk.refused + cond t (refused_by nodes (after desk.table word) words) (cond (is_wait word) (refused_by nodes desk.table words) (refused_by nodes desk.table words + 1)))
    (cond t (table_after nodes (after desk.table word) words) (table_after nodes desk.table words))) [
      | true ↦
          let more = accepted_by nodes (after desk.table word) words in
          let list : (desk.list ++ commands (word ∷ [])) ++ commands more ≡ desk.list ++ commands (word ∷ more) =
          append_assoc desk.list (commands (word ∷ [])) (commands more) ∙ ap (λ (cs : List Command). desk.list ++ cs) (sym (commands_split word more)) in
          through_is nodes (performed desk word) words (omega (arith, few))
          ∙ ap (λ (cs : List Command). ended desk cs (desk.refused + refused_by nodes (after desk.table word) words) (table_after nodes (after desk.table word) words)) list
      | false ↦ elim (is_wait word) as (λ t.
          through nodes (cond t desk (refused_once_more desk)) words
          ≡ ended desk (desk.list ++ commands (accepted_by nodes desk.table words)) (desk.refused + cond t (refused_by nodes desk.table words) (refused_by nodes desk.table words + 1)) (table_after nodes desk.table words)) [
            | true ↦ through_is nodes desk words (omega (arith, few))
            | false ↦
                let one : min (desk.refused + 1) (2 ^ 32 - 1) ≡ desk.refused + 1 = omega (arith, few) in
                let count : min (desk.refused + 1) (2 ^ 32 - 1) + refused_by nodes desk.table words ≡ desk.refused + (refused_by nodes desk.table words + 1) = omega (arith, one) in
                through_is nodes (refused_once_more desk) words (omega (arith, one, few))
                ∙ ap (λ n. ended desk (desk.list ++ commands (accepted_by nodes desk.table words)) n (table_after nodes desk.table words)) count
          ]
    ]

-- each word that isn't a wait is accepted or refused
both_counts : (nodes : List Node) (table : Table) (words : List Word) → refused_by nodes table words + length (accepted_by nodes table words) ≡ length (filter (λ word. not (is_wait word)) words)
both_counts nodes table [] = refl
both_counts nodes table (word ∷ words) =
    let own = filter (λ (w : Word). not (is_wait w)) words in
    let taken = both_counts nodes (after table word) words in
    let left = both_counts nodes table words in
    elim (accepts nodes table word) as (λ t. accepts nodes table word ≡ t
    → cond t (refused_by nodes (after table word) words) (cond (is_wait word) (refused_by nodes table words) (refused_by nodes table words + 1)) + length (cond t (word ∷ accepted_by nodes (after table word) words) (accepted_by nodes table words))
    ≡ length (cond (not (is_wait word)) (word ∷ own) own)) [
      | true ↦ λ was.
          let is_own : not (is_wait word) ≡ true = (and_parts (not (is_wait word)) (is_none (fault_at nodes table word)) was).0 in
          let size : length (cond (not (is_wait word)) (word ∷ own) own) ≡ suc (length own) = ap (λ t. length (cond t (word ∷ own) own)) is_own in
          omega (arith, taken, size)
      | false ↦ λ was. elim (is_wait word) as (λ t. cond t (refused_by nodes table words) (refused_by nodes table words + 1) + length (accepted_by nodes table words) ≡ length (cond (not t) (word ∷ own) own)) [
        | true ↦ left
        | false ↦ omega (arith, left)
      ]
    ] refl

pub refused_are : (nodes : List Node) (script : List Word) → All (NamesNode nodes) script → refused_by nodes (fresh nodes) script ≡ refused_in nodes script
refused_are nodes script names =
    let both = both_counts nodes (fresh nodes) script in
    let same : length (accepted_by nodes (fresh nodes) script) ≡ length (accepted nodes script) = ap length (follows_fresh nodes script names).accepted in
    omega (arith, both, same)

-- so a whole script at a new desk
pub at_end : (nodes : List Node) (inbox : TableId) (capacity : ℕ) (quotas : List ℕ) (number : ℕ) (script : List Word) → All (NamesNode nodes) script → length script ≤ 4096
    → through nodes (new_desk inbox capacity quotas nodes number) script
    ≡ ended (new_desk inbox capacity quotas nodes number) (edits nodes script) (refused_in nodes script) (table_after nodes (fresh nodes) script)
at_end nodes inbox capacity quotas number script names short =
    let desk = new_desk inbox capacity quotas nodes number in
    let count : 0 + refused_by nodes (fresh nodes) script ≡ refused_in nodes script = let is = refused_are nodes script names in omega (arith, is) in
    through_is nodes desk script (omega (arith, short))
    ∙ ap (λ (ws : List Word). ended desk (commands ws) (0 + refused_by nodes (fresh nodes) script) (table_after nodes (fresh nodes) script)) (follows_fresh nodes script names).accepted
    ∙ ap (λ n. ended desk (edits nodes script) n (table_after nodes (fresh nodes) script)) count

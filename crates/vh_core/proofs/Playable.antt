-- What waits can be played.
use Rattle.std.proofs.Common.{◌≡◌, ℕ, ◌^◌, ◌≤◌, Bool, true, false, ◌&&◌, cond, nat_lt, is_none, List, [], ◌∷◌, length, refl, sym, arith}
use Rattle.std.specs.Prelude.{All}
use Rattle.std.proofs.lemmas.Bool.{true≢false, and_parts, ltb-true, ltb-false}
use Rattle.std.proofs.lemmas.List.Elements.{All-cons}
use Rattle.vh_params.specs.declared.command.Command.{Command}
use Rattle.vh_params.specs.declared.command.Command.TheVariants.{Begin, Perform, End, Tell}
use Rattle.vh_params.specs.declared.command.Word.{Word}
use Rattle.vh_params.specs.declared.command.Word.TheVariants.{Edit, Hold, Unhold, Wait}
use Rattle.vh_params.specs.Nodes.{Node}
use Rattle.vh_gesture.specs.declared.fault.GestureFault.{GestureFault}
use Rattle.vh_gesture.specs.declared.fault.GestureFault.TheVariants.{OutOfRange}
use Rattle.vh_gesture.specs.Rules.{Counts, Rule, first_fault, no_reference, unknown, read_only, not_open, fault}
use Rattle.vh_gesture.specs.Scripts.{accepted, is_accepted, counts_after}
use Rattle.vh_core.specs.declared.sent.Sent.{Sent}
use Rattle.vh_core.specs.Accepting.{names_node, words_by, edits_by, accepts, sent_by}
use Rattle.vh_core.specs.Playing.{IsPlayable}

none_first : (test : Bool) (given : GestureFault) (rules : List Rule) → is_none (first_fault ((test, given) ∷ rules)) ≡ true → (test ≡ false) × (is_none (first_fault rules) ≡ true)
none_first true given rules none = absurd (true≢false (sym none))
none_first false given rules none = (refl, none)

within_one : (nodes : List Node) (counts : Counts) (node id value : ℕ) → is_none (fault nodes counts (Edit (Perform node id value))) ≡ true → value ≤ 2 ^ 24
within_one nodes counts node id value none =
    let last = not_open counts node id ∷ [] in
    let range : Rule = (nat_lt (2 ^ 24) value, OutOfRange value) in
    let one = none_first (no_reference counts node).0 (no_reference counts node).1 (unknown nodes node id ∷ read_only nodes node id ∷ range ∷ last) none in
    let two = none_first (unknown nodes node id).0 (unknown nodes node id).1 (read_only nodes node id ∷ range ∷ last) one.1 in
    let three = none_first (read_only nodes node id).0 (read_only nodes node id).1 (range ∷ last) two.1 in
    let four = none_first (nat_lt (2 ^ 24) value) (OutOfRange value) last three.1 in
    ltb-false (2 ^ 24) value four.0

command_playable : (nodes : List Node) (before : List Word) (command : Command) → (names_node nodes (Edit command) && is_accepted nodes before (Edit command)) ≡ true → IsPlayable (length nodes) command
command_playable nodes before (Begin node id) is = tt
command_playable nodes before (Perform node id value) is = within_one nodes (counts_after before) node id value (and_parts _ _ is).1
command_playable nodes before (End node id) is = tt
command_playable nodes before (Tell node words) is = ltb-true node (length nodes) (and_parts (nat_lt node (length nodes)) _ is).0

no_sent : (count : ℕ) → All (λ (sent : Sent). IsPlayable count sent.command) []
no_sent count k d lt = absurd (omega (arith, lt))

-- what is sent can
pub sent_playable : (nodes : List Node) (puts : List (ℕ × Word)) (editor : ℕ) (word : Word) → All (λ sent. IsPlayable (length nodes) sent.command) (sent_by nodes puts editor word)
sent_playable nodes puts editor (Edit command) =
    let sent : Sent = record { editor = editor; seq = length (edits_by nodes editor puts); command = command } in
    elim (accepts nodes puts editor (Edit command)) as (λ t. accepts nodes puts editor (Edit command) ≡ t → All (λ (s : Sent). IsPlayable (length nodes) s.command) (cond t (sent ∷ []) [])) [
      | true ↦ λ is. All-cons (λ (s : Sent). IsPlayable (length nodes) s.command) sent [] (command_playable nodes (accepted nodes (words_by nodes editor puts)) command is) (no_sent (length nodes))
      | false ↦ λ is. no_sent (length nodes)
    ] refl
sent_playable nodes puts editor (Hold node) = no_sent (length nodes)
sent_playable nodes puts editor (Unhold node) = no_sent (length nodes)
sent_playable nodes puts editor (Wait block) = no_sent (length nodes)

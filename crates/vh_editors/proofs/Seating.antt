-- Editors at their desks, before and after they work.
use Rattle.std.proofs.Common.{◌≡◌, ◌∙◌, ℕ, ◌<◌, ◌≤◌, true, false, List, [], ◌∷◌, ◌++◌, length, map, get_or, take, drop, refl, sym, ap, subst, arith}
use Rattle.std.specs.Prelude.{All, slice_index, sum}
use Rattle.std.proofs.lemmas.List.{length-map, get_or-map, length-replicate, same_lists, take-append-le, take_all}
use Rattle.vh_params.specs.Nodes.{Node}
use Rattle.vh_params.specs.declared.command.Word.{Word}
use Rattle.vh_gesture.specs.Scripts.{commands, edits}
use Rattle.vh_gesture.specs.Tables.{fresh, table_after, one_reference}
use Rattle.vh_inbox.specs.Values.{TableId, AtDesk, new_desk}
use Rattle.vh_editors.specs.declared.editor.Editor.{Editor}
use Rattle.vh_editors.specs.Editing.{through, worked, MayRun, MayWork}
use Rattle.vh_editors.specs.Gathered.{script_in}
use Rattle.vh_editors.specs.Scripts.{quotas_of, refused_in}
use Rattle.vh_editors.specs.Seats.{inbox_in, IsSeated, AreSeated}
use Rattle.vh_editors.proofs.Through.{kept, at_end}

-- a desk's quota is its script's
quota_is : (list : List Editor) (k : ℕ) (d : Editor) → k < length list → slice_index (quotas_of (map script_in list)) k ≡ length (commands (get_or list k d).script.items)
quota_is list k d within =
    let long = length-map list script_in in
    get_or-map (λ (script : List Word). length (commands script)) (map script_in list) k [] 0 (omega (arith, within, long))
    ∙ ap (λ (script : List Word). length (commands script)) (get_or-map script_in list k d [] within)

pub may_work : (nodes : List Node) (list : List Editor) → AreSeated nodes (map script_in list) false list → All (MayWork nodes) list
may_work nodes list are k d within =
    let editor = get_or list k d in
    let seat = are k d within in
    let scripts = map script_in list in
    let quota = quota_is list k d within in
    subst (λ (desk : AtDesk). MayRun nodes desk editor.script.items) (sym seat.desk) (record {
      table = record { count = length-replicate (length nodes) one_reference; keys = refl };
      names = seat.names;
      room = omega (arith, quota);
      never_full = seat.capacity;
      short = seat.short;
    })

same_inbox : (nodes : List Node) (desk : AtDesk) (words : List Word) → (through nodes desk words).inbox ≡ desk.inbox
same_inbox = kept (λ (desk : AtDesk). desk.inbox) (λ desk word. refl) (λ desk. refl)

same_capacity : (nodes : List Node) (desk : AtDesk) (words : List Word) → (through nodes desk words).capacity ≡ desk.capacity
same_capacity = kept (λ (desk : AtDesk). desk.capacity) (λ desk word. refl) (λ desk. refl)

pub same_scripts : (nodes : List Node) (list : List Editor) → map script_in (map (worked nodes) list) ≡ map script_in list
same_scripts nodes [] = refl
same_scripts nodes (editor ∷ list) = ap (λ (scripts : List (List Word)). script_in editor ∷ scripts) (same_scripts nodes list)

pub same_inboxes : (nodes : List Node) (list : List Editor) → map inbox_in (map (worked nodes) list) ≡ map inbox_in list
same_inboxes nodes [] = refl
same_inboxes nodes (editor ∷ list) =
    ap (λ (inbox : TableId). inbox ∷ map inbox_in (map (worked nodes) list)) (same_inbox nodes editor.desk editor.script.items)
    ∙ ap (λ (inboxes : List TableId). inbox_in editor ∷ inboxes) (same_inboxes nodes list)

works : (nodes : List Node) (scripts : List (List Word)) (k : ℕ) (editor : Editor) → IsSeated nodes scripts false k editor → IsSeated nodes scripts true k (worked nodes editor)
works nodes scripts k editor seat =
    let script = editor.script.items in
    let quotas = quotas_of scripts in
    let inbox = same_inbox nodes editor.desk script in
    let capacity = same_capacity nodes editor.desk script in
    let now = through nodes editor.desk script in
    let desk : editor.desk ≡ new_desk now.inbox now.capacity quotas nodes k =
    seat.desk ∙ ap (λ (i : TableId). new_desk i editor.desk.capacity quotas nodes k) (sym inbox) ∙ ap (λ n. new_desk now.inbox n quotas nodes k) (sym capacity) in
    record {
      number_is = seat.number_is;
      desk = ap (λ (d : AtDesk). through nodes d script) desk;
      names = seat.names;
      short = seat.short;
      capacity = subst (λ n. sum quotas ≤ n) (sym capacity) seat.capacity;
    }

pub stay_seated : (nodes : List Node) (list : List Editor) → AreSeated nodes (map script_in list) false list → AreSeated nodes (map script_in (map (worked nodes) list)) true (map (worked nodes) list)
stay_seated nodes list are k d within =
    let long = length-map list (worked nodes) in
    let there : k < length list = omega (arith, within, long) in
    let at = works nodes (map script_in list) k (get_or list k d) (are k d there) in
    subst (λ (scripts : List (List Word)). IsSeated nodes scripts true k (get_or (map (worked nodes) list) k d)) (sym (same_scripts nodes list))
    (subst (IsSeated nodes (map script_in list) true k) (sym (get_or-map (worked nodes) list k d d there)) at)

-- an editor whose script was worked through
pub record IsDone (nodes : List Node) (number : ℕ) (editor : Editor) : Type 0 where
  pub number_is : editor.desk.number ≡ number
  pub list : editor.desk.list ≡ edits nodes editor.script.items
  pub refused : editor.desk.refused ≡ refused_in nodes editor.script.items
  pub table : editor.desk.table ≡ table_after nodes (fresh nodes) editor.script.items

pub is_done : (nodes : List Node) (scripts : List (List Word)) (k : ℕ) (editor : Editor) → IsSeated nodes scripts true k editor → IsDone nodes k editor
is_done nodes scripts k editor seat =
    let is = seat.desk ∙ at_end nodes editor.desk.inbox editor.desk.capacity (quotas_of scripts) k editor.script.items seat.names seat.short in
    record {
      number_is = ap (λ (d : AtDesk). d.number) is;
      list = ap (λ (d : AtDesk). d.list) is;
      refused = ap (λ (d : AtDesk). d.refused) is;
      table = ap (λ (d : AtDesk). d.table) is;
    }

pub all_worked : (nodes : List Node) (old new : List Editor) → length new ≡ length old → ((k : ℕ) (d : Editor) → k < length old → get_or new k d ≡ worked nodes (get_or old k d)) → new ≡ map (worked nodes) old
all_worked nodes old new long each =
    let same = length-map old (worked nodes) in
    same_lists new (map (worked nodes) old) (omega (arith, long, same)) (λ k d lt.
    let within : k < length old = omega (arith, lt, long) in
    each k d within ∙ sym (get_or-map (worked nodes) old k d d within))

-- what is written of a whole list through a borrow of it
pub whole : {A : Type 0} (len : ℕ) (new old : List A) → len ≡ length old → length new ≡ length old → take len (new ++ drop (length new) old) ≡ new
whole len new old is same = take-append-le len new (drop (length new) old) (omega (arith, is, same)) ∙ take_all len new (omega (arith, is, same))

use Rattle.std.proofs.Common.{◌≡◌, ◌∙◌, Bool, true, false, List, ◌++◌, map, length, take, drop, sym, ap, subst}
use Rattle.std.specs.Prelude.{All, sum}
use Rattle.vh_params.specs.Nodes.{Node, nodes_of}
use Rattle.vh_params.specs.declared.command.Word.{Word}
use Rattle.vh_inbox.specs.Values.{TableId}
use Rattle.vh_editors.specs.declared.editor.Editor.{Editor}
use Rattle.vh_editors.specs.Editing.{worked, MayWork}
use Rattle.vh_editors.specs.Gathered.{script_in}
use Rattle.vh_editors.specs.Scripts.{quotas_of}
use Rattle.vh_editors.specs.Seats.{inbox_in, AreSeated}
use Rattle.vh_editors.specs.Values.{AtEditors}
use Rattle.vh_editors.proofs.Seating.{may_work, stay_seated, same_scripts, same_inboxes, all_worked, whole}
use Rattle.vh_editors.proofs.editors.Editors.work.Goals as goal

-- the editors weren't done
begun : (nodes : List Node) (list : List Editor) (done : Bool) → done ≡ false → AreSeated nodes (map script_in list) done list → AreSeated nodes (map script_in list) false list
begun nodes list done not are = subst (λ d. AreSeated nodes (map script_in list) d list) not are

pub work_all-requires-after_bounds : goal.work_all-requires-after_bounds
work_all-requires-after_bounds g c κs within =
    let nodes = nodes_of c.self.inside.nodes in
    let list = c.self.inside.list.items in
    let not : c.self.inside.done ≡ false = ap (λ (e : AtEditors). e.done) c.self.view_is ∙ c.requires in
    subst (All (MayWork nodes)) (sym c.as_mut_slice.ensures.value) (may_work nodes list (begun nodes list c.self.inside.done not c.self.invariant.are_seated))

pub invariant_of-self : goal.invariant_of-self
invariant_of-self g c =
    let nodes = nodes_of c.self.inside.nodes in
    let list = c.self.inside.list.items in
    let new = c.work_all.new.editors in
    let not : c.self.inside.done ≡ false = ap (λ (e : AtEditors). e.done) c.self.view_is ∙ c.requires in
    let is : take c.self.inside.list.len (new ++ drop (length new) list) ≡ map (worked nodes) list =
    whole c.self.inside.list.len new list c.self.inside.list.ok.0 (c.work_all.auto.editors ∙ ap length c.as_mut_slice.ensures.value)
    ∙ all_worked nodes c.as_mut_slice.result.now new c.work_all.auto.editors c.work_all.ensures ∙ ap (map (worked nodes)) c.as_mut_slice.ensures.value in
    record {
      edits = c.self.invariant.edits ∙ ap (λ (scripts : List (List Word)). sum (quotas_of scripts)) (sym (same_scripts nodes list)) ∙ ap (λ (l : List Editor). sum (quotas_of (map script_in l))) (sym is);
      are_seated = subst (λ (l : List Editor). AreSeated nodes (map script_in l) true l) (sym is) (stay_seated nodes list (begun nodes list c.self.inside.done not c.self.invariant.are_seated));
    }

pub returns : goal.returns
returns g c =
    let nodes = nodes_of c.self.inside.nodes in
    let list = c.self.inside.list.items in
    let new = c.work_all.new.editors in
    let is : take c.self.inside.list.len (new ++ drop (length new) list) ≡ map (worked nodes) list =
    whole c.self.inside.list.len new list c.self.inside.list.ok.0 (c.work_all.auto.editors ∙ ap length c.as_mut_slice.ensures.value)
    ∙ all_worked nodes c.as_mut_slice.result.now new c.work_all.auto.editors c.work_all.ensures ∙ ap (map (worked nodes)) c.as_mut_slice.ensures.value in
    let made : List TableId → List (List Word) → AtEditors = λ inboxes scripts. record { inboxes = inboxes; nodes = nodes; scripts = scripts; done = true } in
    let left = take c.self.inside.list.len (new ++ drop (length new) list) in
    let now : made (map inbox_in left) (map script_in left) ≡ made (map inbox_in list) (map script_in list) =
    ap (λ (l : List Editor). made (map inbox_in l) (map script_in l)) is
    ∙ ap (λ (inboxes : List TableId). made inboxes (map script_in (map (worked nodes) list))) (same_inboxes nodes list)
    ∙ ap (λ (scripts : List (List Word)). made (map inbox_in list) scripts) (same_scripts nodes list) in
    now ∙ ap (λ (e : AtEditors). record e { done = true }) c.self.view_is

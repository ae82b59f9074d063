use Rattle.std.proofs.Common.{◌≡◌, ◌∙◌, ◌≤◌, false, List, length, map, sym, ap, subst, arith, Vec, Global}
use Rattle.std.specs.Prelude.{All, sum}
use Rattle.vh_params.specs.Nodes.{Node, nodes_of}
use Rattle.vh_params.specs.declared.command.Word.{Word}
use Rattle.vh_inbox.specs.Values.{TableId}
use Rattle.vh_editors.specs.Gathered.{script_in}
use Rattle.vh_editors.specs.Scripts.{quotas_of}
use Rattle.vh_editors.specs.Values.{AtEditors, seated}
use Rattle.vh_editors.proofs.Made.{short_scripts, short_quotas, seats_made, inboxes_made}
use Rattle.vh_editors.proofs.editors.Editors.new.Goals as goal

abbrev texts : List (Vec Word Global) → List (List Word)
texts scripts = map (λ (script : Vec Word Global). script.items) scripts

pub count_each-requires : goal.count_each-requires
count_each-requires c = subst (λ (scripts : List (Vec Word Global)). All (λ (script : Vec Word Global). length script.items ≤ 4096) scripts) (sym c.as_slice-scripts.ensures.value) (short_scripts c.args.session.now)

pub total-edits-requires : goal.total-edits-requires
total-edits-requires c =
    let few = short_quotas c.args.session.now in
    let same = ap sum (c.as_slice.ensures.value ∙ c.in_ok-quotas.ensures ∙ ap (λ (scripts : List (Vec Word Global)). quotas_of (texts scripts)) c.as_slice-scripts.ensures.value) in
    omega (arith, few, same)

pub inbox-requires-clause-capacity : goal.inbox-requires-clause-capacity
inbox-requires-clause-capacity c =
    let few = short_quotas c.args.session.now in
    let same = ap sum (c.as_slice.ensures.value ∙ c.in_ok-quotas.ensures ∙ ap (λ (scripts : List (Vec Word Global)). quotas_of (texts scripts)) c.as_slice-scripts.ensures.value) in
    let edits = c.total-edits.ensures in
    let most = c.max.ensures in
    (omega (arith, most), omega (arith, few, same, edits, most))

pub invariant_of-editors : goal.invariant_of-editors
invariant_of-editors c =
    let session = c.args.session.now in
    let nodes = nodes_of c.in_ok-nodes.nodes in
    let quotas = c.as_slice-2.result.now in
    let list = c.in_ok-list.list.items in
    let scripts : map script_in list ≡ texts session.scripts.items = c.in_ok-list.ensures.scripts ∙ ap texts c.as_slice-scripts.ensures.value in
    let own : c.in_ok-quotas.quotas.items ≡ quotas_of (texts session.scripts.items) = c.in_ok-quotas.ensures ∙ ap (λ (ss : List (Vec Word Global)). quotas_of (texts ss)) c.as_slice-scripts.ensures.value in
    let counted : quotas ≡ quotas_of (texts session.scripts.items) = c.as_slice-2.ensures.value ∙ own in
    let edits = c.total-edits.ensures in
    let same = ap sum c.as_slice.ensures.value in
    let also = ap sum c.as_slice-2.ensures.value in
    let most = c.max.ensures in
    record {
      edits = edits ∙ same ∙ ap sum own ∙ ap (λ (ss : List (List Word)). sum (quotas_of ss)) (sym scripts);
      are_seated = seats_made session nodes c.in_ok-desks.drain.inbox c.max.result quotas c.in_ok-desks.desks.items list c.in_ok-nodes.ensures counted scripts (omega (arith, edits, same, also, most)) c.in_ok-desks.ensures.desks c.in_ok-list.ensures.places;
    }

pub returns-clause-seated : goal.returns-clause-seated
returns-clause-seated c =
    let session = c.args.session.now in
    let nodes = nodes_of c.in_ok-nodes.nodes in
    let quotas = c.as_slice-2.result.now in
    let list = c.in_ok-list.list.items in
    let scripts : map script_in list ≡ texts session.scripts.items = c.in_ok-list.ensures.scripts ∙ ap texts c.as_slice-scripts.ensures.value in
    let own : c.in_ok-quotas.quotas.items ≡ quotas_of (texts session.scripts.items) = c.in_ok-quotas.ensures ∙ ap (λ (ss : List (Vec Word Global)). quotas_of (texts ss)) c.as_slice-scripts.ensures.value in
    let counted : quotas ≡ quotas_of (texts session.scripts.items) = c.as_slice-2.ensures.value ∙ own in
    let edits = c.total-edits.ensures in
    let same = ap sum c.as_slice.ensures.value in
    let also = ap sum c.as_slice-2.ensures.value in
    let most = c.max.ensures in
    let inbox : TableId = c.in_ok-desks.drain.inbox in
    let made : List TableId → AtEditors = λ inboxes. record { inboxes = inboxes; nodes = nodes; scripts = map script_in list; done = false } in
    ap made (inboxes_made session nodes inbox c.max.result quotas c.in_ok-desks.desks.items list c.in_ok-nodes.ensures counted scripts (omega (arith, edits, same, also, most)) c.in_ok-desks.ensures.desks c.in_ok-list.ensures.places)
    ∙ ap (λ (ns : List Node). seated inbox ns (map script_in list) false) c.in_ok-nodes.ensures ∙ ap (λ (ss : List (List Word)). seated inbox (nodes_of session.nodes) ss false) scripts

use Rattle.std.proofs.Common.{◌≡◌, ◌∙◌, ℕ, ◌<◌, Bool, true, List, [], map, length, get_or, sym, ap, subst, arith}
use Rattle.std.proofs.lemmas.List.{length-map, get_or-map}
use Rattle.vh_params.specs.Nodes.{Node, nodes_of}
use Rattle.vh_params.specs.declared.command.Word.{Word}
use Rattle.vh_gesture.specs.Scripts.{accepted, counts_after}
use Rattle.vh_gesture.specs.Tables.{Table, IsOf, counts_in, fresh, table_after}
use Rattle.vh_gesture.specs.Laws.{AreSame}
use Rattle.vh_gesture.proofs.Tracks.{follows_fresh, tracked_same}
use Rattle.vh_legal.specs.Legal.{script_at}
use Rattle.vh_inbox.specs.Values.{TableId}
use Rattle.vh_editors.specs.declared.editor.Editor.{Editor}
use Rattle.vh_editors.specs.Gathered.{script_in}
use Rattle.vh_editors.specs.Seats.{inbox_in, IsSeated, AreSeated}
use Rattle.vh_editors.specs.Values.{AtEditors}
use Rattle.vh_editors.proofs.Seating.{is_done}
use Rattle.vh_editors.proofs.editors.Editors.gestures.Goals as goal

-- an editor's table at its script's end
record IsAtEnd (nodes : List Node) (scripts : List (List Word)) (number : ℕ) (table : Table) : Type 0 where
  of_nodes : IsOf nodes table
  counts : AreSame (counts_in table) (counts_after (accepted nodes (script_at scripts number)))

at_end : (nodes : List Node) (list : List Editor) (done : Bool) (k : ℕ) (editor : Editor) → done ≡ true → AreSeated nodes (map script_in list) done list → k < length list → editor ≡ get_or list k editor
    → IsAtEnd nodes (map script_in list) k editor.desk.table
at_end nodes list done k editor ended are within read =
    let seat : IsSeated nodes (map script_in list) true k editor =
    subst (IsSeated nodes (map script_in list) true k) (sym read) (subst (λ d. AreSeated nodes (map script_in list) d list) ended are k editor within) in
    let table = (is_done nodes (map script_in list) k editor seat).table in
    let behind = (follows_fresh nodes editor.script.items seat.names).behind in
    let script : editor.script.items ≡ script_at (map script_in list) k = ap script_in read ∙ sym (get_or-map script_in list k editor [] within) in
    record {
      of_nodes = subst (IsOf nodes) (sym table) behind.of_nodes;
      counts = subst (λ (t : Table). AreSame (counts_in t) (counts_after (accepted nodes (script_at (map script_in list) k)))) (sym table)
          (subst (λ (s : List Word). AreSame (counts_in (table_after nodes (fresh nodes) editor.script.items)) (counts_after (accepted nodes s))) script (tracked_same behind));
    }

-- as callers see it
seen : (nodes : List Node) (list : List Editor) (done : Bool) (inboxes : List TableId) (k : ℕ) (editor : Editor) (now : AtEditors) (table : Table)
    → record { inboxes = inboxes; nodes = nodes; scripts = map script_in list; done = done } ≡ now → AreSeated nodes (map script_in list) done list → k < length now.scripts → now.done ≡ true
    → editor ≡ get_or list k editor → table ≡ editor.desk.table → IsAtEnd now.nodes now.scripts k table
seen nodes list done inboxes k editor now table view are there ended read is =
    let long = length-map list script_in in
    let scripts : map script_in list ≡ now.scripts = ap (λ (e : AtEditors). e.scripts) view in
    let within : k < length list = let same = ap length scripts in omega (arith, there, same, long) in
    let end = at_end nodes list done k editor (ap (λ (e : AtEditors). e.done) view ∙ ended) are within read in
    subst (IsAtEnd now.nodes now.scripts k) (sym is)
    (subst (λ (s : List (List Word)). IsAtEnd now.nodes s k editor.desk.table) scripts
    (subst (λ (n : List Node). IsAtEnd n (map script_in list) k editor.desk.table) (ap (λ (e : AtEditors). e.nodes) view) end))

pub returns-clause-nodes : goal.returns-clause-nodes
returns-clause-nodes c =
    let inside = c.self.inside in
    (seen (nodes_of inside.nodes) inside.list.items inside.done (map inbox_in inside.list.items) c.args.editor c.index.result.now c.args.self.now c.gestures.result.now c.self.view_is c.self.invariant.are_seated c.requires.there c.requires.done
    c.index.ensures c.gestures.ensures).of_nodes

pub returns-clause-counts : goal.returns-clause-counts
returns-clause-counts c =
    let inside = c.self.inside in
    (seen (nodes_of inside.nodes) inside.list.items inside.done (map inbox_in inside.list.items) c.args.editor c.index.result.now c.args.self.now c.gestures.result.now c.self.view_is c.self.invariant.are_seated c.requires.there c.requires.done
    c.index.ensures c.gestures.ensures).counts

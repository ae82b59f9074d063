use Rattle.std.proofs.Common.{◌≡◌, ◌∙◌, ◌<◌, ℕ, Bool, true, List, ◌++◌, map, length, sym, ap, subst, arith}
use Rattle.std.specs.Prelude.{All, sum, replicate}
use Rattle.vh_params.specs.Nodes.{Node, nodes_of}
use Rattle.vh_params.specs.declared.command.Word.{Word}
use Rattle.vh_journal.specs.declared.entry.Entry.{Entry}
use Rattle.vh_legal.specs.Legal.{IsLegal}
use Rattle.vh_inbox.specs.declared.rule.DeskList.{DeskList}
use Rattle.vh_inbox.specs.Facts.{sent_in}
use Rattle.std.specs.List.{AllByRecursion}
use Rattle.vh_inbox.specs.Values.{TableId, AtDrain, item_of, entry_at, Are}
use Rattle.vh_editors.specs.declared.editor.Editor.{Editor}
use Rattle.vh_editors.specs.Gathered.{script_in, listed, refused_at}
use Rattle.vh_editors.specs.Scripts.{quotas_of, refused_by_each}
use Rattle.vh_editors.specs.Seats.{AreSeated}
use Rattle.vh_editors.specs.Values.{AtEditors}
use Rattle.vh_editors.proofs.Gathering.{at_inbox, AreDone, are_done, refused_each, sent_within, all_listed, all_at, gathered}
use Rattle.vh_editors.proofs.editors.Editors.gather.Goals as goal

-- editors that are done
finished : (nodes : List Node) (list : List Editor) (done : Bool) → done ≡ true → AreSeated nodes (map script_in list) done list → AreDone nodes list
finished nodes list done is are = are_done nodes list (subst (λ d. AreSeated nodes (map script_in list) d list) is are)

pub gather_all-requires-clause-inbox : goal.gather_all-requires-clause-inbox
gather_all-requires-clause-inbox g c =
    let list = c.self.inside.list.items in
    let inbox : TableId = c.args.drain.inbox in
    let scripts : map script_in list ≡ c.args.self.scripts = ap (λ (e : AtEditors). e.scripts) c.self.view_is in
    at_inbox inbox list (ap (λ (e : AtEditors). e.inboxes) c.self.view_is ∙ c.requires.inbox ∙ ap (λ (ss : List (List Word)). replicate (length ss) inbox) (sym scripts))

pub returns-clause-legal : goal.returns-clause-legal
returns-clause-legal g c = λ pattern blocks.
    let nodes = nodes_of c.self.inside.nodes in
    let list = c.self.inside.list.items in
    let old = c.args.journal.now.items in
    let new = c.take_all.new.journal.items in
    let drain = c.gather_all.new.drain in
    let scripts : map script_in list ≡ c.args.self.scripts = ap (λ (e : AtEditors). e.scripts) c.self.view_is in
    let done = finished nodes list c.self.inside.done (ap (λ (e : AtEditors). e.done) c.self.view_is ∙ c.requires.done) c.self.invariant.are_seated in
    let lists : drain.lists ≡ listed list = ap (λ (d : AtDrain). d.lists) c.gather_all.ensures.lists ∙ ap (λ (ls : List DeskList). ls ++ listed list) c.requires.lists in
    let quotas : drain.quotas ≡ quotas_of (map script_in list) = ap (λ (d : AtDrain). d.quotas) c.gather_all.ensures.lists ∙ c.requires.quotas ∙ ap quotas_of (sym scripts) in
    let sent = ap sent_in lists in
    let within = sent_within nodes list done in
    let room = c.requires.room in
    let same = ap (λ (ss : List (List Word)). sum (quotas_of ss)) scripts in
    let each : AllByRecursion (Are (map item_of new)) (listed list) =
    subst (AllByRecursion (Are (map item_of new))) lists (c.take_all.ensures.all (ap length lists ∙ all_listed list ∙ ap length (sym quotas)) (omega (arith, sent, within, room, same))) in
    let editors : All (λ (entry : Entry). entry.editor < length (quotas_of (map script_in list))) new =
    subst (λ (qs : List ℕ). All (λ (entry : Entry). entry.editor < length qs) new) quotas c.take_all.ensures.editors in
    subst (λ (e : AtEditors). IsLegal e.nodes c.args.samples pattern e.scripts new) c.self.view_is
    (gathered nodes c.args.samples list old new (map (entry_at c.args.samples) c.take_all.ensures.journal.0) pattern done c.take_all.ensures.at editors each
    c.take_all.ensures.journal.1 (all_at c.args.samples c.take_all.ensures.journal.0) blocks)

pub returns-clause-added : goal.returns-clause-added
returns-clause-added g c =
    (map (entry_at c.args.samples) c.take_all.ensures.journal.0, c.take_all.ensures.journal.1, all_at c.args.samples c.take_all.ensures.journal.0)

pub returns-clause-refused : goal.returns-clause-refused
returns-clause-refused g c =
    let nodes = nodes_of c.self.inside.nodes in
    let list = c.self.inside.list.items in
    let done = finished nodes list c.self.inside.done (ap (λ (e : AtEditors). e.done) c.self.view_is ∙ c.requires.done) c.self.invariant.are_seated in
    c.gather_all.ensures.refused ∙ ap (λ (rs : List ℕ). rs ++ map refused_at list) c.requires.none ∙ refused_each nodes list done
    ∙ ap (λ (e : AtEditors). refused_by_each e.nodes e.scripts) c.self.view_is

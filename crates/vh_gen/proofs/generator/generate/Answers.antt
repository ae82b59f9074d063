use Rattle.std.proofs.Common.{◌∙◌, ◌+◌, ◌<◌, ℕ, List, length, map, All, sym, ap, subst, arith}
use Rattle.vh_journal.specs.declared.entry.Entry.{Entry}
use Rattle.vh_journal_text.specs.Items.{items_of}
use Rattle.vh_journal_text.specs.Keeps.{AreEntries, AreThere}
use Rattle.vh_journal_text.proofs.Accepted.{entries_there}
use Rattle.vh_params.specs.ClassList.{classes_of}
use Rattle.vh_params.specs.Nodes.{Node, nodes_of}
use Rattle.vh_session.specs.Content.{Content}
use Rattle.vh_session.specs.Keeps.{StandsUnder}
use Rattle.vh_session.specs.Parts.{laned}
use Rattle.vh_gen.specs.Gestures.{entries_of, gestures_end}
use Rattle.vh_gen.specs.Nodes.{nodes_of as drawn_nodes}
use Rattle.vh_gen.specs.Sound.{HasDrawn}
use Rattle.vh_gen.proofs.Whole.{whole_session, keeps, stands, whole_journal, whole_state, accepted, few_drawn}
use Rattle.vh_gen.proofs.generator.generate.Goals as goal

pub draw_graph-requires : goal.draw_graph-requires
draw_graph-requires c = let below = c.below-more.ensures.within in omega (arith, below)

pub node_table-requires-clause-few : goal.node_table-requires-clause-few
node_table-requires-clause-few c = let few = (few_drawn c.args.number (8 + c.below-more.result) c.below-more.new.self.state c.in_ok-graph.graph.kinds.items (ap (λ n. 8 + n) c.below-more.ensures.value) c.in_ok-graph.ensures.kinds).1 in omega (arith, few)

pub node_table-requires-clause-each : goal.node_table-requires-clause-each
node_table-requires-clause-each c = subst (λ (kinds : List ℕ). All (λ kind. kind < length (classes_of c.args.classes.now)) kinds) (sym c.deref.ensures.value) (λ k d lt. let low = c.in_ok-graph.ensures.within k d lt in let eight = c.requires.eight in omega (arith, low, eight))

pub draw_gestures-requires-clause-some : goal.draw_gestures-requires-clause-some
draw_gestures-requires-clause-some c = let some = (few_drawn c.args.number (8 + c.below-more.result) c.below-more.new.self.state c.in_ok-graph.graph.kinds.items (ap (λ n. 8 + n) c.below-more.ensures.value) c.in_ok-graph.ensures.kinds).0 in omega (arith, some)

pub draw_gestures-requires-clause-few : goal.draw_gestures-requires-clause-few
draw_gestures-requires-clause-few c = let few = (few_drawn c.args.number (8 + c.below-more.result) c.below-more.new.self.state c.in_ok-graph.graph.kinds.items (ap (λ n. 8 + n) c.below-more.ensures.value) c.in_ok-graph.ensures.kinds).1 in omega (arith, few)

pub session_of-requires-clause-keeps : goal.session_of-requires-clause-keeps
session_of-requires-clause-keeps c = keeps (classes_of c.args.classes.now) c.args.number (8 + c.below-more.result) c.below-more.new.self.state c.draw_graph.new.draws.state c.draw_lanes.new.draws.state c.in_ok-graph.graph.kinds.items c.in_ok-graph.graph.wires.items (nodes_of c.in_ok-nodes.nodes) (map laned c.in_ok-lanes.lanes.items)
    (ap (λ n. 8 + n) c.below-more.ensures.value) c.below-more.ensures.state c.in_ok-graph.ensures.kinds c.in_ok-graph.ensures.wires c.in_ok-graph.ensures.state (c.in_ok-nodes.ensures ∙ ap (drawn_nodes (classes_of c.args.classes.now)) c.deref.ensures.value) c.in_ok-lanes.ensures.lanes c.in_ok-lanes.ensures.state
    c.requires

pub returns-clause-session : goal.returns-clause-session
returns-clause-session c = c.in_ok-session.ensures.content ∙ whole_session (classes_of c.args.classes.now) c.args.number (8 + c.below-more.result) c.below-more.new.self.state c.draw_graph.new.draws.state c.draw_lanes.new.draws.state c.in_ok-graph.graph.kinds.items c.in_ok-graph.graph.wires.items (nodes_of c.in_ok-nodes.nodes) (map laned c.in_ok-lanes.lanes.items)
    (ap (λ n. 8 + n) c.below-more.ensures.value) c.below-more.ensures.state c.in_ok-graph.ensures.kinds c.in_ok-graph.ensures.wires c.in_ok-graph.ensures.state (c.in_ok-nodes.ensures ∙ ap (drawn_nodes (classes_of c.args.classes.now)) c.deref.ensures.value) c.in_ok-lanes.ensures.lanes c.in_ok-lanes.ensures.state

pub returns-clause-stands : goal.returns-clause-stands
returns-clause-stands c = subst (λ (content : Content). StandsUnder (classes_of c.args.classes.now) content) (sym c.in_ok-session.ensures.content) (stands (classes_of c.args.classes.now) c.args.number (8 + c.below-more.result) c.below-more.new.self.state c.draw_graph.new.draws.state c.draw_lanes.new.draws.state c.in_ok-graph.graph.kinds.items c.in_ok-graph.graph.wires.items (nodes_of c.in_ok-nodes.nodes) (map laned c.in_ok-lanes.lanes.items)
    (ap (λ n. 8 + n) c.below-more.ensures.value) c.below-more.ensures.state c.in_ok-graph.ensures.kinds c.in_ok-graph.ensures.wires c.in_ok-graph.ensures.state (c.in_ok-nodes.ensures ∙ ap (drawn_nodes (classes_of c.args.classes.now)) c.deref.ensures.value) c.in_ok-lanes.ensures.lanes c.in_ok-lanes.ensures.state
    c.requires c.args.classes.now.names)

pub returns-clause-entries : goal.returns-clause-entries
returns-clause-entries c = whole_journal (classes_of c.args.classes.now) c.args.number (8 + c.below-more.result) c.below-more.new.self.state c.draw_graph.new.draws.state c.draw_lanes.new.draws.state c.in_ok-graph.graph.kinds.items c.in_ok-graph.graph.wires.items (nodes_of c.in_ok-nodes.nodes) (map laned c.in_ok-lanes.lanes.items)
    (ap (λ n. 8 + n) c.below-more.ensures.value) c.below-more.ensures.state c.in_ok-graph.ensures.kinds c.in_ok-graph.ensures.wires c.in_ok-graph.ensures.state (c.in_ok-nodes.ensures ∙ ap (drawn_nodes (classes_of c.args.classes.now)) c.deref.ensures.value) c.in_ok-lanes.ensures.lanes c.in_ok-lanes.ensures.state
    c.in_ok-entries.entries.items (c.in_ok-entries.ensures.entries ∙ ap (λ kinds. entries_of kinds c.draw_lanes.new.draws.state) c.deref-2.ensures.value)

pub returns-clause-journal : goal.returns-clause-journal
returns-clause-journal c =
    let entries : List Entry = c.in_ok-entries.entries.items in
    let all : AreEntries (nodes_of c.in_ok-nodes.nodes) 65536 (items_of entries) = accepted (classes_of c.args.classes.now) c.args.number (8 + c.below-more.result) c.below-more.new.self.state c.draw_graph.new.draws.state c.draw_lanes.new.draws.state c.in_ok-graph.graph.kinds.items c.in_ok-graph.graph.wires.items (nodes_of c.in_ok-nodes.nodes) (map laned c.in_ok-lanes.lanes.items)
    (ap (λ n. 8 + n) c.below-more.ensures.value) c.below-more.ensures.state c.in_ok-graph.ensures.kinds c.in_ok-graph.ensures.wires c.in_ok-graph.ensures.state (c.in_ok-nodes.ensures ∙ ap (drawn_nodes (classes_of c.args.classes.now)) c.deref.ensures.value) c.in_ok-lanes.ensures.lanes c.in_ok-lanes.ensures.state
    entries c.requires (c.in_ok-entries.ensures.entries ∙ ap (λ kinds. entries_of kinds c.draw_lanes.new.draws.state) c.deref-2.ensures.value) in
    subst (λ n. AreEntries (nodes_of c.in_ok-session.session.nodes) n (items_of entries)) (sym c.in_ok-session.ensures.frames) (subst (λ (nodes : List Node). AreEntries nodes 65536 (items_of entries)) (sym (ap nodes_of c.in_ok-session.ensures.nodes)) all)

pub returns-clause-there : goal.returns-clause-there
returns-clause-there c =
    let entries : List Entry = c.in_ok-entries.entries.items in
    let all : AreEntries (nodes_of c.in_ok-nodes.nodes) 65536 (items_of entries) = accepted (classes_of c.args.classes.now) c.args.number (8 + c.below-more.result) c.below-more.new.self.state c.draw_graph.new.draws.state c.draw_lanes.new.draws.state c.in_ok-graph.graph.kinds.items c.in_ok-graph.graph.wires.items (nodes_of c.in_ok-nodes.nodes) (map laned c.in_ok-lanes.lanes.items)
    (ap (λ n. 8 + n) c.below-more.ensures.value) c.below-more.ensures.state c.in_ok-graph.ensures.kinds c.in_ok-graph.ensures.wires c.in_ok-graph.ensures.state (c.in_ok-nodes.ensures ∙ ap (drawn_nodes (classes_of c.args.classes.now)) c.deref.ensures.value) c.in_ok-lanes.ensures.lanes c.in_ok-lanes.ensures.state
    entries c.requires (c.in_ok-entries.ensures.entries ∙ ap (λ kinds. entries_of kinds c.draw_lanes.new.draws.state) c.deref-2.ensures.value) in
    subst (λ (nodes : List Node). AreThere nodes entries) (sym (ap nodes_of c.in_ok-session.ensures.nodes)) (entries_there (nodes_of c.in_ok-nodes.nodes) 65536 entries all)

pub returns-clause-sound : goal.returns-clause-sound
returns-clause-sound c = subst (λ state. HasDrawn state c.in_ok-sound.sound) (whole_state (classes_of c.args.classes.now) c.args.number (8 + c.below-more.result) c.below-more.new.self.state c.draw_graph.new.draws.state c.draw_lanes.new.draws.state c.in_ok-graph.graph.kinds.items c.in_ok-graph.graph.wires.items (nodes_of c.in_ok-nodes.nodes) (map laned c.in_ok-lanes.lanes.items)
    (ap (λ n. 8 + n) c.below-more.ensures.value) c.below-more.ensures.state c.in_ok-graph.ensures.kinds c.in_ok-graph.ensures.wires c.in_ok-graph.ensures.state (c.in_ok-nodes.ensures ∙ ap (drawn_nodes (classes_of c.args.classes.now)) c.deref.ensures.value) c.in_ok-lanes.ensures.lanes c.in_ok-lanes.ensures.state
    c.draw_gestures.new.draws.state (c.in_ok-entries.ensures.state ∙ ap (λ kinds. gestures_end kinds c.draw_lanes.new.draws.state) c.deref-2.ensures.value)) c.in_ok-sound.ensures

use Rattle.std.proofs.Common.{◌≡◌, ◌∙◌, ℕ, ◌<◌, List, length, sym, ap, subst, arith}
use Rattle.std.proofs.lemmas.List.FromFn.{length-map-range_with_len}
use Rattle.vh_params.specs.ClassList.{classes_of}
use Rattle.vh_params.specs.Names.{is_name}
use Rattle.vh_params.specs.Nodes.{Node, nodes_of as nodes_in, LacksName}
use Rattle.vh_gen.specs.Nodes.{name_of, node_of}
use Rattle.vh_gen.proofs.Grown.{one_more}
use Rattle.vh_gen.proofs.Named.{name_is, lacks_name, node_made}
use Rattle.vh_gen.proofs.nodes.node_table.Goals as goal

pub add-requires-clause-name : goal.add-requires-clause-name
add-requires-clause-name c = ap is_name c.in_ok-name.ensures ∙ name_is c.loop-node.node (let few = c.requires.few in omega (arith, few))

pub add-requires-clause-new : goal.add-requires-clause-new
add-requires-clause-new c =
    let few = c.requires.few in
    let known = classes_of c.args.classes.now in
    subst (λ (name : List ℕ). LacksName (nodes_in c.loop-node.table) name) (sym c.in_ok-name.ensures)
    (subst (λ (nodes : List Node). LacksName nodes (name_of c.loop-node.node)) (sym c.loop-node.invariant) (lacks_name known c.args.kinds.now c.loop-node.node (omega (arith, few))))

pub add-requires-clause-room : goal.add-requires-clause-room
add-requires-clause-room c =
    let few = c.requires.few in
    let known = classes_of c.args.classes.now in
    let long : length (nodes_in c.loop-node.table) ≡ c.loop-node.node = ap length c.loop-node.invariant ∙ length-map-range_with_len (node_of known c.args.kinds.now) 0 c.loop-node.node in
    omega (arith, few, long)

pub loop-node-preserved : goal.loop-node-preserved
loop-node-preserved c =
    let known = classes_of c.args.classes.now in
    let node : ℕ = c.loop-node.node in
    let within : node < length c.args.kinds.now = omega arith in
    one_more (node_of known c.args.kinds.now) (nodes_in c.loop-node.table) (nodes_in c.add.new.self) _ node c.loop-node.invariant c.in_ok-add.ensures.added
    (node_made known c.args.kinds.now node c.in_ok-name.name c.info.result.now c.in_ok-name.ensures (c.requires.each node 0 within) c.info.ensures)

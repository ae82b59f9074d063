use Rattle.std.proofs.Common.{◌≡◌, ◌<◌, length, arith, sym, ap, subst, ◌∙◌, List}
use Rattle.vh_params.specs.declared.param.ParamInfo.{ParamInfo}
use Rattle.vh_params.specs.declared.param.UnitInfo.{UnitInfo}
use Rattle.vh_params.specs.Short.{label_text}
use Rattle.vh_params.specs.Tables.{params_of, units_of}
use Rattle.vh_params.specs.Nodes.{Node, LacksName, stored_node}
use Rattle.vh_params.proofs.NodeLists.{is_name_there, lacks_there, one_node_more}
use Rattle.vh_params.proofs.node.NodeTable.copy.Goals as goal

pub put-requires-clause-name : goal.put-requires-clause-name
put-requires-clause-name c =
    let within : c.loop-i.i < length c.args.self.now.nodes.entries = omega arith in
    is_name_there c.args.self.now.nodes.entries c.loop-i.i c.entry.result.0.now c.entry.result.1.now within c.entry.ensures.entry c.args.self.now.names

pub put-requires-clause-new : goal.put-requires-clause-new
put-requires-clause-new c =
    let within : c.loop-i.i < length c.args.self.now.nodes.entries = omega arith in
    let P : List Node → Type 0 = λ nodes. LacksName nodes (label_text c.entry.result.0.now) in
    subst P (sym c.loop-i.invariant) (lacks_there c.args.self.now.nodes.entries c.loop-i.i c.entry.result.0.now c.entry.result.1.now within c.entry.ensures.entry c.len-i-end.ensures.unique)

pub loop-i-preserved : goal.loop-i-preserved
loop-i-preserved c =
    let within : c.loop-i.i < length c.args.self.now.nodes.entries = omega arith in
    let name = c.entry.result.0.now in
    let node = c.entry.result.1.now in
    let copied : Node = record { name = label_text name; class_name = label_text node.class_name; params = params_of c.in_ok-copy.field-0; units = units_of c.in_ok-copy.field-0 } in
    let same : copied ≡ stored_node (name, node) =
    ap (λ (ps : List ParamInfo). record { name = label_text name; class_name = label_text node.class_name; params = ps; units = units_of c.in_ok-copy.field-0 }) c.in_ok-copy.ensures.params
    ∙ ap (λ (us : List UnitInfo). record { name = label_text name; class_name = label_text node.class_name; params = params_of node.table; units = us }) c.in_ok-copy.ensures.units in
    one_node_more c.args.self.now.nodes.entries c.loop-i.i name node within c.entry.ensures.entry _ _ copied c.loop-i.invariant same c.in_ok-put.ensures.added

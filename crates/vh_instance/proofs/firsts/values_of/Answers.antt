use Rattle.std.proofs.Common.{◌≡◌, ◌<◌, ◌≤◌, List, [], length, map, get_or, sym, ap, ◌∙◌, arith}
use Rattle.std.specs.List.{flat_map}
use Rattle.std.proofs.lemmas.List.{length-map, get_or-map, take_all}
use Rattle.vh_counted.specs.declared.object.Opened.{Opened}
use Rattle.vh_counted.specs.Held.{value_of_opened}
use Rattle.vh_params.specs.declared.param.ParamInfo.{ParamInfo}
use Rattle.vh_params.specs.Nodes.{Node, no_node, nodes_of}
use Rattle.vh_plugin.specs.Class.{Param, param_of}
use Rattle.vh_instance.proofs.firsts.values_of.Goals as goal

pub overflow_cast-node : goal.overflow_cast-node
overflow_cast-node g c =
    let nodes = nodes_of c.args.session.now.nodes in
    let long : length c.args.edits.now ≡ length nodes =
    sym (length-map c.args.edits.now (λ (edit : Opened g.row.C.Denot). (g.C.Controller.class_of (g.C.Controller.code (value_of_opened edit))).params)) ∙ ap (λ (l : List (List Param)). length l) c.requires ∙ length-map nodes (λ (node : Node). map param_of node.params) in
    let few : length nodes ≤ 64 = c.args.session.now.keeps.nodes.0 in
    omega (arith, long, few)

pub table-requires : goal.table-requires
table-requires g c =
    let nodes = nodes_of c.args.session.now.nodes in
    let long : length c.args.edits.now ≡ length nodes =
    sym (length-map c.args.edits.now (λ (edit : Opened g.row.C.Denot). (g.C.Controller.class_of (g.C.Controller.code (value_of_opened edit))).params)) ∙ ap (λ (l : List (List Param)). length l) c.requires ∙ length-map nodes (λ (node : Node). map param_of node.params) in
    omega (arith, long)

pub add_values-requires : goal.add_values-requires
add_values-requires g c =
    let nodes = nodes_of c.args.session.now.nodes in
    let edits = c.args.edits.now in
    let node = c.loop-node.node in
    let params : Opened g.row.C.Denot → List Param = λ edit. (g.C.Controller.class_of (g.C.Controller.code (value_of_opened edit))).params in
    let long : length edits ≡ length nodes = sym (length-map edits params) ∙ ap (λ (l : List (List Param)). length l) c.requires ∙ length-map nodes (λ (node : Node). map param_of node.params) in
    let lt : node < length edits = omega arith in
    let there : node < length nodes = omega (arith, long, lt) in
    let edit = c.index-edits-node.result in
    ap (λ x. (g.C.Controller.class_of (g.C.Controller.code x)).params) c.value.ensures
    ∙ ap params c.index-edits-node.is
    ∙ sym (get_or-map params edits node edit [] lt)
    ∙ ap (λ (l : List (List Param)). get_or l node []) c.requires
    ∙ get_or-map (λ (node : Node). map param_of node.params) nodes node no_node [] there
    ∙ ap (λ (infos : List ParamInfo). map param_of infos) (sym (c.params.ensures.value ∙ c.table.ensures.params))

pub returns : goal.returns
returns g c =
    let all : length c.args.edits.now ≤ c.loop-node.node = omega arith in
    c.loop-node.invariant ∙ ap (λ (edits : List (Opened g.row.C.Denot)). flat_map (λ edit. g.C.Controller.values (value_of_opened edit)) edits) (take_all c.loop-node.node c.args.edits.now all)

use Rattle.std.proofs.Common.{◌≡◌, ℕ, ◌+◌, ◌<◌, ◌≤◌, List, [], ◌∷◌, ◌++◌, length, map, take, get_or, sym, ap, ◌∙◌, arith}
use Rattle.std.specs.List.{concat}
use Rattle.std.proofs.lemmas.List.{length-map, get_or-map, map-append, append-nil, take_all, take_more}
use Rattle.std.proofs.lemmas.List.Folds.{concat-append}
use Rattle.vh_counted.specs.declared.object.Opened.{Opened}
use Rattle.vh_counted.specs.Held.{value_of_opened}
use Rattle.vh_params.specs.declared.param.ParamInfo.{ParamInfo}
use Rattle.vh_params.specs.Nodes.{Node, no_node, nodes_of}
use Rattle.vh_plugin.specs.Class.{Param, param_of}
use Rattle.vh_instance.specs.Band.{of_openers}
use Rattle.vh_live_host.proofs.values.values.Goals as goal

pub overflow_cast-node : goal.overflow_cast-node
overflow_cast-node g c =
    let nodes = nodes_of c.args.session.now.nodes in
    let long : length c.args.edits.now ≡ length nodes =
    sym (length-map c.args.edits.now (λ (edit : Opened g.row.C.Denot). (g.C.Controller.class_of (g.C.Controller.code (value_of_opened edit))).params)) ∙ ap (λ (l : List (List Param)). length l) c.requires ∙ length-map nodes (λ (node : Node). map param_of node.params) in
    let few : length nodes ≤ 64 = c.args.session.now.keeps.nodes.0 in
    omega (arith, long, few)

pub table-requires : goal.table-requires
table-requires g c =
    let nodes = nodes_of c.args.session.now.nodes in
    let long : length c.args.edits.now ≡ length nodes =
    sym (length-map c.args.edits.now (λ (edit : Opened g.row.C.Denot). (g.C.Controller.class_of (g.C.Controller.code (value_of_opened edit))).params)) ∙ ap (λ (l : List (List Param)). length l) c.requires ∙ length-map nodes (λ (node : Node). map param_of node.params) in
    omega (arith, long)

pub push_values-requires : goal.push_values-requires
push_values-requires g c =
    let nodes = nodes_of c.args.session.now.nodes in
    let edits = c.args.edits.now in
    let node = c.loop-node.node in
    let params : Opened g.row.C.Denot → List Param = λ edit. (g.C.Controller.class_of (g.C.Controller.code (value_of_opened edit))).params in
    let long : length edits ≡ length nodes = sym (length-map edits params) ∙ ap (λ (l : List (List Param)). length l) c.requires ∙ length-map nodes (λ (node : Node). map param_of node.params) in
    let lt : node < length edits = omega arith in
    let there : node < length nodes = omega (arith, long, lt) in
    let edit = c.index-edits-node.result in
    ap (λ x. (g.C.Controller.class_of (g.C.Controller.code x)).params) c.value.ensures
    ∙ ap params c.index-edits-node.is
    ∙ sym (get_or-map params edits node edit [] lt)
    ∙ ap (λ (l : List (List Param)). get_or l node []) c.requires
    ∙ get_or-map (λ (node : Node). map param_of node.params) nodes node no_node [] there
    ∙ ap (λ (infos : List ParamInfo). map param_of infos) (sym (c.params.ensures.value ∙ c.table.ensures.params))

pub returns : goal.returns
returns g c =
    let all : length c.args.edits.now ≤ c.loop-node.node = omega arith in
    c.loop-node.invariant ∙ ap (λ (edits : List (Opened g.row.C.Denot)). concat (of_openers g.C.Controller.values edits)) (take_all c.loop-node.node c.args.edits.now all)

pub loop-node-preserved : goal.loop-node-preserved
loop-node-preserved g c =
    let edits = c.args.edits.now in
    let node = c.loop-node.node in
    let of : List (Opened g.row.C.Denot) → List (List ℕ) = λ os. of_openers g.C.Controller.values os in
    let edit = c.index-edits-node.result in
    let lt : node < length edits = omega arith in
    let more : take (node + 1) edits ≡ take node edits ++ edit ∷ [] = take_more edits node edit lt ∙ ap (λ o. take node edits ++ o ∷ []) (sym c.index-edits-node.is) in
    c.in_ok-push_values.ensures ∙ ap (λ (xs : List ℕ). xs ++ g.C.Controller.values c.value.result.now) c.loop-node.invariant
    ∙ ap (λ (vs : List ℕ). concat (of (take node edits)) ++ vs) (ap g.C.Controller.values c.value.ensures ∙ sym (append-nil _))
    ∙ sym (concat-append (of (take node edits)) (of (edit ∷ [])))
    ∙ ap concat (sym (map-append _ (take node edits) (edit ∷ [])))
    ∙ ap (λ os. concat (of os)) (sym more)

use Rattle.std.proofs.Common.{◌≡◌, ◌∙◌, ◌<◌, ◌+◌, ◌++◌, ℕ, List, length, map, Vec, refl, sym, ap, arith}
use Rattle.std.specs.declared.alloc.Global.{Global}
use Rattle.std.specs.List.{flat_map, range_with_len}
use Rattle.std.proofs.lemmas.List.{append_assoc, length-map}
use Rattle.std.proofs.lemmas.List.Sums.{sum_by-drop_more}
use Rattle.vh_params.specs.declared.param.ParamInfo.{ParamInfo}
use Rattle.vh_params.specs.Nodes.{Node, no_node, nodes_of, node_at}
use Rattle.vh_session.specs.Names.{content_of}
use Rattle.vh_meaning.specs.Values.{values_at}
use Rattle.vh_meaning.specs.Rendering.{seen_of, seen_at}
use Rattle.vh_core.specs.State.{scene_in}
use Rattle.vh_core.specs.Playing.{setting_by}
use Rattle.vh_core.proofs.Lists.{flat_map_next}
use Rattle.vh_core.proofs.Players.{classes_are}
use Rattle.vh_core.proofs.Rooms.{row_is}
use Rattle.vh_core.proofs.Seeing.{seen_here}
use Rattle.vh_core.proofs.show.show.Goals as goal

pub loop-node-preserved : goal.loop-node-preserved
loop-node-preserved g c =
    let content = content_of c.args.session.now in
    let nodes = nodes_of c.args.session.now.nodes in
    let firsts = c.args.plan.now.firsts.items in
    let processors = c.args.processors.now in
    let node = c.loop-node.node in
    let there : node < length nodes = (let test = c.loop-node-test.true in let count = c.len-node-end.ensures.count in omega (arith, test, count)) in
    let long = c.requires.players.long in
    let within : node < length processors = omega (arith, there, long) in
    let processor = c.index-processors-node.result in
    let class = g.P.Processor.class_of (g.P.Processor.code processor) in
    let scene = scene_in (setting_by g.P.Processor.class_of g.P.Processor.code content firsts processors) in
    let values = values_at scene c.args.journal.now c.args.sample in
    let rows = c.value_node.ensures.room.values in
    let given = c.deref.result.now in
    let valued : given ≡ values node =
    c.deref.ensures.value ∙ ap (λ (v : Vec ℕ Global). v.items) c.index-given.ensures ∙ row_is c.value_node.new.room.values.items node _ (omega (arith, rows, there))
    ∙ c.value_node.ensures.values g.P.Processor.class_of _ (classes_are g.P.Processor.class_of g.P.Processor.code g.P.Life.phase g.P.Life.last_setup content processors c.requires.players) in
    let params : length c.params-params.result.now ≡ length (node_at nodes node).params = ap (λ (l : List ParamInfo). length l) (c.params-params.ensures.value ∙ c.table.ensures.params) in
    let more = sum_by-drop_more (λ (n : Node). length n.params) nodes node no_node there in
    let room = c.loop-node.invariant.space in
    let longer = c.show_node.ensures.long in
    let still = c.show_node.ensures.capacity in
    record {
      room = c.value_node.ensures.room;
      space = omega (arith, params, more, room, longer, still);
      shown = λ states have.
          let f = seen_at scene states values in
          let here = seen_of class (g.P.Processor.state processor) class.params given in
          c.show_node.ensures.shown
          ∙ ap (λ (l : List ℕ). l ++ here) (c.loop-node.invariant.shown states have)
          ∙ append_assoc c.args.shown.now.items (flat_map f (range_with_len 0 node)) here
          ∙ ap (λ (l : List ℕ). c.args.shown.now.items ++ (flat_map f (range_with_len 0 node) ++ l))
          (seen_here g.P.Processor.class_of g.P.Processor.code g.P.Processor.state content firsts processors node processor within c.index-processors-node.is given values valued states have)
          ∙ ap (λ (l : List ℕ). c.args.shown.now.items ++ l) (sym (flat_map_next f node (node + 1) refl));
    }

pub returns-clause-shown : goal.returns-clause-shown
returns-clause-shown g c = λ states have.
    let content = content_of c.args.session.now in
    let processors = c.args.processors.now in
    let scene = scene_in (setting_by g.P.Processor.class_of g.P.Processor.code content c.args.plan.now.firsts.items processors) in
    let f = seen_at scene states (values_at scene c.args.journal.now c.args.sample) in
    let count = c.len-node-end.ensures.count in
    let past = c.loop-node-test.false in
    let most = c.loop-node.auto.node-end in
    let long = c.requires.players.long in
    let codes = length-map processors g.P.Processor.code in
    let end : c.loop-node.node ≡ length (map g.P.Processor.code processors) = omega (arith, count, past, most, long, codes) in
    c.loop-node.invariant.shown states have ∙ ap (λ (n : ℕ). c.args.shown.now.items ++ flat_map f (range_with_len 0 n)) end

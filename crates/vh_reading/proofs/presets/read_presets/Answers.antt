use Rattle.std.proofs.Common.{◌∙◌, ◌+◌, ◌<◌, List, length, map, Option, option_map, sym, subst, arith}
use Rattle.std.proofs.lemmas.List.{map_push}
use Rattle.vh_params.specs.Nodes.{nodes_of}
use Rattle.vh_preset.specs.declared.preset.Preset.{Preset}
use Rattle.vh_preset.specs.Contents.{Contents}
use Rattle.vh_preset.specs.Seen.{contents_of}
use Rattle.vh_answers.specs.Each.{AllGive}
use Rattle.vh_answers.specs.Outside.{store}
use Rattle.vh_answers.proofs.Stages.{gives_since}
use Rattle.vh_answers.proofs.Each.{one_more_gives, one_halts, only_then}
use Rattle.vh_session.specs.Names.{content_of}
use Rattle.vh_reading.specs.Reading.{node_step}
use Rattle.vh_reading.proofs.presets.read_presets.Goals as goal

pub returns-in-Err-clause-stop : goal.returns-in-Err-clause-stop
returns-in-Err-clause-stop g c =
    let session = c.args.session.now in
    let within : c.loop-node.node < length (nodes_of session.nodes) = omega (arith, c.len-count.ensures.count, c.loop-node-test.true) in
    one_halts (store g.F.Files c.args.files.now) (store g.F.Files c.loop-node.files) (store g.F.Files c.read_of_node.new.files) (node_step (content_of session)) (length (nodes_of session.nodes)) c.loop-node.node
    (map (option_map contents_of) c.loop-node.presets.items) c.in-Err.status c.loop-node.invariant.only_read c.loop-node.invariant.given within c.in-Err.ensures.stop

pub loop-node-preserved : goal.loop-node-preserved
loop-node-preserved g c =
    let first = store g.F.Files c.args.files.now in
    let mid = store g.F.Files c.loop-node.files in
    let step = node_step (content_of c.args.session.now) in
    let node = c.loop-node.node in
    let invariant = c.loop-node.invariant in
    let seen : Option Preset → Option Contents = λ preset. option_map contents_of preset in
    let presets = c.loop-node.presets.items in
    let preset = c.in-Ok-read_of_node.preset in
    let given = gives_since first mid (Option Contents) (step node) (seen preset) invariant.only_read c.in-Ok-read_of_node.ensures.gives in
    record {
      given = subst (λ (list : List (Option Preset)). AllGive first step (node + 1) (map seen list)) (sym c.push_reserved.ensures.items)
          (subst (λ (list : List (Option Contents)). AllGive first step (node + 1) list) (sym (map_push seen presets preset)) (one_more_gives first step node (map seen presets) (seen preset) invariant.given given));
      places = c.push_reserved.ensures.capacity ∙ invariant.places;
      only_read = only_then first mid (store g.F.Files c.read_of_node.new.files) invariant.only_read c.read_of_node.ensures.only_read;
    }

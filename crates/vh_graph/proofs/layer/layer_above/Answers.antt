use Rattle.std.proofs.Common.{rules, ◌≡◌, ◌≤◌, ◌<◌, ◌⊎◌, length, get_or, ◌+◌}
use Rattle.vh_graph.proofs.Layered.{above_more}
use Rattle.vh_graph.proofs.layer.layer_above.Goals as goal

pub loop-source-preserved : goal.loop-source-preserved
loop-source-preserved c =
    let layers = c.args.layers.now in
    let sources = c.args.sources.now in
    let i = c.loop-source.source-index in
    let now = c.max-layer.result in
    let lt : i < length sources = search rules in
    let le : c.loop-source.layer ≤ now = search rules in
    let high : 1 + get_or layers (get_or sources i 0) 0 ≤ now = search rules in
    let cases : (now ≡ c.loop-source.layer) ⊎ (now ≡ 1 + get_or layers (get_or sources i 0) 0) = search rules in
    above_more layers sources i c.loop-source.layer now lt c.loop-source.invariant le high cases

-- A source is in a lower layer.
use Rattle.std.proofs.Common.{suc, ◌≤◌, ◌<◌, arith, get_or}
use Rattle.vh_graph.specs.Laws.{SourcesAreLower}

pub law_lower : SourcesAreLower
law_lower wires layers are node source d nl sl wire =
    let reached = (are source d sl).reached in
    let longest : suc (get_or layers source d) ≤ get_or layers node d = (are node d nl).longest reached.0 (suc (get_or layers source d)) reached.1 (source, reached.2, wire) in
    omega arith

use Rattle.std.proofs.Common.{rules, ◌≡◌, subst, Some}
use Rattle.vh_graph.specs.Paths.{FindsLeast}
use Rattle.vh_graph.proofs.Ready.{law_order}
use Rattle.vh_graph.proofs.Refused.{is_found}
use Rattle.vh_graph.proofs.graph.refused.Goals as goal

pub unwrap-requires : goal.unwrap-requires
unwrap-requires c = is_found c.requires.cyclic.0 c.in-Ok.found (c.in-Ok.ensures.least c.requires.cyclic.0 c.requires.cyclic.1) (λ free. c.requires.cyclic.2 ((law_order _ c.requires.cyclic.0 c.requires.cyclic.1.ends).1 free))

pub returns-in-Ok : goal.returns-in-Ok
returns-in-Ok c wires linked =
    let found : c.in-Ok.found ≡ Some c.unwrap.result = search rules in
    subst (λ f. FindsLeast wires f) found (c.in-Ok.ensures.least wires linked)

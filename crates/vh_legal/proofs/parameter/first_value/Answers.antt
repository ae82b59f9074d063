use Rattle.std.proofs.Common.{sym, ap, subst, ◌∙◌}
use Rattle.std.specs.Prelude.{IsSome, position, Option}
use Rattle.vh_params.specs.declared.param.ParamInfo.{ParamInfo}
use Rattle.vh_params.specs.Nodes.{nodes_of}
use Rattle.vh_legal.specs.Values.{has_id}
use Rattle.vh_legal.proofs.Found.{place_there, place_within, place_found}
use Rattle.vh_legal.proofs.parameter.first_value.Goals as goal

pub unwrap-place-requires : goal.unwrap-place-requires
unwrap-place-requires c =
    let params = c.params.ensures.value ∙ c.table.ensures.params in
    subst IsSome (sym (c.place_in.ensures ∙ ap (position (has_id c.args.id)) params)) (place_there (nodes_of c.args.nodes.now) c.args.node c.args.id c.requires.there)

use Rattle.std.proofs.Common.{◌≡◌, ◌∙◌, ◌<◌, inl, inr, List, length, get_or, set, sym, ap, subst, arith}
use Rattle.std.specs.Prelude.{IsSome, slice_index}
use Rattle.std.proofs.lemmas.Bool.{cases_lt}
use Rattle.std.proofs.lemmas.List.{ext_get_or, get_or_default, get_or-set_same, get_or-set_other}
use Rattle.vh_params.specs.declared.param.ParamInfo.{ParamInfo}
use Rattle.vh_params.specs.Nodes.{nodes_of, node_at, info_in}
use Rattle.vh_params.specs.Params.{AreRising}
use Rattle.vh_session.specs.Names.{content_of}
use Rattle.vh_meaning.specs.Scene.{scene_of}
use Rattle.vh_meaning.specs.Values.{values_at}
use Rattle.vh_legal.specs.Values.{IsValue}
use Rattle.vh_core.proofs.Params.{some_param, place_is, info_there, values_each}
use Rattle.vh_core.proofs.values.put_values.Goals as goal

pub value-requires-clause-there : goal.value-requires-clause-there
value-requires-clause-there c =
    let nodes = nodes_of c.args.session.now.nodes in
    let same : c.params-params.result.now ≡ (node_at nodes c.args.node).params = c.params-params.ensures.value ∙ c.table.ensures.params in
    let rising : AreRising (node_at nodes c.args.node).params = subst AreRising same c.params-params.ensures.rising in
    let each = c.requires.each in
    let at = c.loop-place-test.true in
    subst (λ (params : List ParamInfo). IsSome (info_in nodes c.args.node (get_or params c.loop-place.place c.index-params-place.result).id)) (sym same)
    (info_there nodes c.args.node c.loop-place.place c.index-params-place.result rising c.requires.node (omega (arith, each, at)))

pub loop-place-preserved : goal.loop-place-preserved
loop-place-preserved c =
    let content = content_of c.args.session.now in
    let nodes = nodes_of c.args.session.now.nodes in
    let place = c.loop-place.place in
    let given = c.loop-place.given in
    let value = c.value.result in
    let params = (node_at nodes c.args.node).params in
    let same : c.params-params.result.now ≡ params = c.params-params.ensures.value ∙ c.table.ensures.params in
    let each = c.requires.each in
    let test = c.loop-place-test.true in
    let long = c.loop-place.auto.given in
    let here : IsValue content c.args.firsts.now c.args.entries.now c.args.node (get_or c.params-params.result.now place c.index-params-place.result).id c.args.sample value = c.value.ensures.value in
    record {
      values = λ k d lt. elim (cases_lt k place) [
        | inl before ↦
            let kept : get_or (set given place value) k 0 ≡ get_or given k 0 = get_or-set_other given place k value 0 (λ e. omega (arith, before, e)) in
            subst (IsValue content c.args.firsts.now c.args.entries.now c.args.node (get_or params k d).id c.args.sample) (sym kept) (c.loop-place.invariant.values k d before)
        | inr past ↦
            let at : place ≡ k = omega (arith, lt, past) in
            let new : get_or (set given place value) k 0 ≡ value = ap (λ n. get_or (set given place value) n 0) (sym at) ∙ get_or-set_same given place value 0 (omega (arith, long, test)) in
            let id : (get_or c.params-params.result.now place c.index-params-place.result).id ≡ (get_or params k d).id =
            ap (λ (l : List ParamInfo). (get_or l place c.index-params-place.result).id) same
            ∙ ap (λ (p : ParamInfo). p.id) (get_or_default params place c.index-params-place.result d (omega (arith, each, test)) ∙ ap (λ n. get_or params n d) at) in
            subst (IsValue content c.args.firsts.now c.args.entries.now c.args.node (get_or params k d).id c.args.sample) (sym new)
            (subst (λ n. IsValue content c.args.firsts.now c.args.entries.now c.args.node n c.args.sample value) id here)
      ];
      within = λ k lt. elim (cases_lt k place) [
        | inl before ↦
            let kept : get_or (set given place value) k 0 ≡ get_or given k 0 = get_or-set_other given place k value 0 (λ e. omega (arith, before, e)) in
            let some = c.loop-place.invariant.within k before in
            omega (arith, kept, some)
        | inr past ↦
            let at : place ≡ k = omega (arith, lt, past) in
            let new : get_or (set given place value) k 0 ≡ value = ap (λ n. get_or (set given place value) n 0) (sym at) ∙ get_or-set_same given place value 0 (omega (arith, long, test)) in
            let some = c.value.ensures.within in
            omega (arith, new, some)
      ];
    }

pub returns-clause-values : goal.returns-clause-values
returns-clause-values c = λ class_of codes are.
    let content = content_of c.args.session.now in
    let nodes = nodes_of c.args.session.now.nodes in
    let node = c.args.node in
    let params = (node_at nodes node).params in
    let firsts = c.args.firsts.now in
    let h = c.args.entries.now in
    let s = c.args.sample in
    let given = c.loop-place.given in
    let values = values_at (scene_of class_of codes firsts content) h s node in
    let same : c.params-params.result.now ≡ params = c.params-params.ensures.value ∙ c.table.ensures.params in
    let rising : AreRising params = subst AreRising same c.params-params.ensures.rising in
    let size = values_each content class_of codes firsts h s node are c.requires.firsts c.requires.node in
    let each = c.requires.each in
    let long = c.loop-place.auto.given in
    let all = c.loop-place-test.false in
    ext_get_or 0 given values (omega (arith, size, each, long)) (λ k lt.
    let within : k < length params = omega (arith, lt, each, long) in
    let d = some_param params k within in
    let id = (get_or params k d).id in
    c.loop-place.invariant.values k d (omega (arith, lt, all, long)) class_of codes
    ∙ sym (c.value_is_in_place.ensures content class_of codes firsts h node id s are c.requires.firsts (info_there nodes node k d rising c.requires.node within) class_of codes)
    ∙ ap (slice_index values) (place_is params k d rising within))

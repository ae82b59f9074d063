use Rattle.std.proofs.Common.{◌≡◌, ◌∙◌, ◌+◌, ◌<◌, [], ◌∷◌, ◌++◌, true, List, length, map, drop, get_or, sym, ap, subst, arith}
use Rattle.std.proofs.lemmas.List.{append_assoc, get_or-map, get_or_default, length-map}
use Rattle.vh_params.specs.declared.param.ParamInfo.{ParamInfo}
use Rattle.vh_params.specs.Flags.{is_read_only}
use Rattle.vh_plugin.specs.Class.{Param, param_of, has_shown}
use Rattle.vh_meaning.specs.Rendering.{seen_of}
use Rattle.vh_core.proofs.Params.{shows}
use Rattle.vh_core.proofs.Queues.{drop_at}
use Rattle.vh_core.proofs.show.show_node.Goals as goal

pub shown_of-requires : goal.shown_of-requires
shown_of-requires g c = λ only.
    let params = c.args.params.now in
    let param = c.index-params-place.result in
    let is = c.index-params-place.is in
    let shown = shows params c.loop-place.place param c.loop-place-test.true (ap (λ (p : ParamInfo). is_read_only p.flags) (sym is) ∙ only) in
    subst (λ (ps : List Param). has_shown ps param.id ≡ true) (sym c.requires.params) (ap (λ (p : ParamInfo). has_shown (map param_of params) p.id) is ∙ shown)

pub loop-place-preserved : goal.loop-place-preserved
loop-place-preserved g c =
    let class = g.P.Processor.class_of (g.P.Processor.code c.args.processor.now) in
    let state = g.P.Processor.state c.args.processor.now in
    let params = c.args.params.now in
    let given = c.args.given.now in
    let place = c.loop-place.place in
    let param = c.index-params-place.result in
    let shown = c.loop-place.shown.items in
    let test = c.loop-place-test.true in
    let each = c.requires.each in
    let count : length class.params ≡ length params = ap length c.requires.params ∙ length-map params param_of in
    let within : place < length given = omega (arith, test, each) in
    let value = get_or given place 0 in
    let same : param_of param ≡ get_or class.params place (param_of param) =
    ap param_of c.index-params-place.is ∙ sym (get_or-map param_of params place param (param_of param) test) ∙ ap (λ (ps : List Param). get_or ps place (param_of param)) (sym c.requires.params) in
    let one : drop place class.params ≡ param_of param ∷ drop (place + 1) class.params = drop_at class.params place (param_of param) same (omega (arith, test, count)) in
    let two : drop place given ≡ value ∷ drop (place + 1) given = drop_at given place value (get_or_default given place 0 value within) within in
    let left = seen_of class state (drop (place + 1) class.params) (drop (place + 1) given) in
    let room = c.loop-place.invariant.room in
    let long = c.loop-place.invariant.long in
    let kept = c.loop-place.invariant.same in
    let more = c.push_reserved.ensures.len in
    let still = c.push_reserved.ensures.capacity in
    record {
      room = omega (arith, room, more, still, test);
      long = omega (arith, long, more);
      same = still ∙ kept;
      shown =
          ap (λ l. l ++ left) c.push_reserved.ensures.items
          ∙ append_assoc shown (c.shown_of.result ∷ []) left
          ∙ ap (λ v. shown ++ v ∷ left) c.shown_of.ensures
          ∙ ap (λ l. shown ++ seen_of class state l (value ∷ drop (place + 1) given)) (sym one)
          ∙ ap (λ l. shown ++ seen_of class state (drop place class.params) l) (sym two)
          ∙ c.loop-place.invariant.shown;
    }

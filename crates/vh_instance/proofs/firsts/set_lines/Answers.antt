use Rattle.std.proofs.Common.{◌≡◌, ℕ, Option, ◌<◌, ◌≤◌, ◌^◌, List, length, map, get_or, sym, ap, subst, ◌∙◌, arith}
use Rattle.std.specs.Prelude.{unwrap_or}
use Rattle.std.proofs.lemmas.List.{length-map}
use Rattle.vh_num.specs.Values.{quant_of}
use Rattle.vh_num.proofs.Lawful.{law_quant_within}
use Rattle.vh_params.specs.declared.param.ParamInfo.{ParamInfo}
use Rattle.vh_plugin.specs.Class.{Param, param_of}
use Rattle.vh_plugin.specs.Controls.{has_id, value_in, normalized_to}
use Rattle.vh_instance.specs.Firsts.{given_in, first_value, lines_over}
use Rattle.vh_instance.proofs.Settings.{place, param_is, has_at, read_at, set_at, lines_long, line_at, one_more, all_set}
use Rattle.vh_instance.proofs.Within.{line_within}
use Rattle.vh_instance.proofs.firsts.set_lines.Goals as goal

pub normalized-other-requires : goal.normalized-other-requires
normalized-other-requires g c =
    let code = g.C.Controller.code c.args.controller.now in
    let class = g.C.Controller.class_of code in
    let infos = c.params-param-items.result.now in
    let k = c.loop-param.param-index in
    let same : class.params ≡ map param_of infos = c.requires.params ∙ ap (λ (ps : List ParamInfo). map param_of ps) (sym (c.params-param-items.ensures.value ∙ c.table.ensures.params)) in
    let lt : k < length infos = omega arith in
    ap (λ (n : ℕ). has_id (g.C.Controller.class_of n).params c.param-item.result.id) c.loop-param.invariant.code ∙ has_at class.params infos ((g.met.C.Controller.lawful code).rising) same k c.param-item.result lt c.param-item.is

pub quant-requires-clause-value : goal.quant-requires-clause-value
quant-requires-clause-value g c =
    let code = g.C.Controller.code c.args.controller.now in
    let class = g.C.Controller.class_of code in
    let infos = c.params-param-items.result.now in
    let k = c.loop-param.param-index in
    let info = c.param-item.result in
    let values = g.C.Controller.values c.loop-param.controller in
    let same : class.params ≡ map param_of infos = c.requires.params ∙ ap (λ (ps : List ParamInfo). map param_of ps) (sym (c.params-param-items.ensures.value ∙ c.table.ensures.params)) in
    let lt : k < length infos = omega arith in
    let rising = (g.met.C.Controller.lawful code).rising in
    let long : length values ≡ length class.params = (g.met.C.Controller.valued c.loop-param.controller).each ∙ ap (λ (n : ℕ). length (g.C.Controller.class_of n).params) c.loop-param.invariant.code in
    let read : c.normalized-other.result ≡ get_or values k 0 = c.normalized-other.ensures ∙ ap (λ (n : ℕ). value_in (g.C.Controller.class_of n).params values info.id) c.loop-param.invariant.code ∙ read_at class.params infos rising same k info lt c.param-item.is values long in
    let there : k < length values = omega (arith, long, place class.params infos rising same k info lt c.param-item.is) in
    let within : c.normalized-other.result ≤ 2 ^ 24 = subst (λ (n : ℕ). n ≤ 2 ^ 24) (sym read) ((g.met.C.Controller.valued c.loop-param.controller).within k 0 there) in
    line_within c.args.session.now c.args.node info.id c.given.result c.unwrap_or-value.result c.normalized-other.result
    (c.given.ensures ∙ ap (λ firsts. given_in firsts c.args.node info.id) c.deref.ensures.value) c.unwrap_or-value.ensures within

pub loop-param-preserved : goal.loop-param-preserved
loop-param-preserved g c =
    let code = g.C.Controller.code c.args.controller.now in
    let class = g.C.Controller.class_of code in
    let infos = c.params-param-items.result.now in
    let k = c.loop-param.param-index in
    let info = c.param-item.result in
    let others = g.C.Controller.values c.args.controller.now in
    let values = g.C.Controller.values c.loop-param.controller in
    let new = g.C.Controller.values c.set_normalized.new.self in
    let firsts = c.args.session.now.firsts.items in
    let node = c.args.node in
    let same : class.params ≡ map param_of infos = c.requires.params ∙ ap (λ (ps : List ParamInfo). map param_of ps) (sym (c.params-param-items.ensures.value ∙ c.table.ensures.params)) in
    let lt : k < length infos = omega arith in
    let rising = (g.met.C.Controller.lawful code).rising in
    let at : k < length class.params = place class.params infos rising same k info lt c.param-item.is in
    let begun : length others ≡ length class.params = (g.met.C.Controller.valued c.args.controller.now).each in
    let long : length values ≡ length class.params = (g.met.C.Controller.valued c.loop-param.controller).each ∙ ap (λ (n : ℕ). length (g.C.Controller.class_of n).params) c.loop-param.invariant.code in
    let there : k < length values = omega (arith, long, at) in
    let read : c.normalized-other.result ≡ get_or values k 0 = c.normalized-other.ensures ∙ ap (λ (n : ℕ). value_in (g.C.Controller.class_of n).params values info.id) c.loop-param.invariant.code ∙ read_at class.params infos rising same k info lt c.param-item.is values long in
    let within : c.normalized-other.result ≤ 2 ^ 24 = subst (λ (n : ℕ). n ≤ 2 ^ 24) (sym read) ((g.met.C.Controller.valued c.loop-param.controller).within k 0 there) in
    let given : c.given.result ≡ given_in firsts node info.id = c.given.ensures ∙ ap (λ lines. given_in lines node info.id) c.deref.ensures.value in
    let most = line_within c.args.session.now node info.id c.given.result c.unwrap_or-value.result c.normalized-other.result given c.unwrap_or-value.ensures within in
    let quant : c.quant.result ≤ 2 ^ 24 = subst (λ (n : ℕ). n ≤ 2 ^ 24) (sym c.quant.ensures) (law_quant_within c.unwrap_or-value.result info.steps most) in
    let first : c.quant.result ≡ first_value firsts node (param_of info) (get_or others k 0) =
    c.quant.ensures ∙ ap (λ (v : ℕ). quant_of v info.steps) (c.unwrap_or-value.ensures ∙ ap (λ (o : Option ℕ). unwrap_or o c.normalized-other.result) given ∙ ap (λ (v : ℕ). unwrap_or (given_in firsts node info.id) v) (read ∙ c.loop-param.invariant.set.above k (omega arith))) in
    let here : c.quant.result ≡ get_or (lines_over firsts node class.params others) k 0 =
    first ∙ sym (line_at firsts node class.params others k (param_of info) begun at ∙ ap (λ (p : Param). first_value firsts node p (get_or others k 0)) (param_is class.params infos rising same k info lt c.param-item.is)) in
    let changed = set_at class.params infos rising same k info lt c.param-item.is values new c.quant.result long quant
    (c.set_normalized.ensures.values ∙ ap (λ (n : ℕ). normalized_to (g.C.Controller.class_of n).params values info.id c.quant.result) c.loop-param.invariant.code) in
    record {
      set = one_more k c.quant.result values new others (lines_over firsts node class.params others) c.loop-param.invariant.set there changed here;
      mode = c.set_normalized.ensures.mode ∙ c.loop-param.invariant.mode;
      code = c.set_normalized.ensures.code ∙ c.loop-param.invariant.code;
    }

pub returns-clause-values : goal.returns-clause-values
returns-clause-values g c =
    let code = g.C.Controller.code c.args.controller.now in
    let class = g.C.Controller.class_of code in
    let infos = c.params-param-items.result.now in
    let others = g.C.Controller.values c.args.controller.now in
    let values = g.C.Controller.values c.loop-param.controller in
    let first = lines_over c.args.session.now.firsts.items c.args.node class.params others in
    let same : class.params ≡ map param_of infos = c.requires.params ∙ ap (λ (ps : List ParamInfo). map param_of ps) (sym (c.params-param-items.ensures.value ∙ c.table.ensures.params)) in
    let size : length class.params ≡ length infos = ap (λ (ps : List Param). length ps) same ∙ length-map infos param_of in
    let long : length values ≡ length class.params = (g.met.C.Controller.valued c.loop-param.controller).each ∙ ap (λ (n : ℕ). length (g.C.Controller.class_of n).params) c.loop-param.invariant.code in
    let lines = lines_long c.args.session.now.firsts.items c.args.node class.params others (g.met.C.Controller.valued c.args.controller.now).each in
    let all : length first ≤ c.loop-param.param-index = omega (arith, lines, size) in
    all_set c.loop-param.param-index values others first c.loop-param.invariant.set (long ∙ sym lines) all

use Rattle.std.proofs.Common.{◌≡◌, ℕ, ◌<◌, List, [], ◌∷◌, ◌++◌, length, get_or, take, sym, ap, ◌∙◌, arith, append_assoc}
use Rattle.std.proofs.lemmas.List.{take_more}
use Rattle.vh_instance.proofs.Settings.{place, has_at, read_at}
use Rattle.vh_live_host.proofs.values.push_values.Goals as goal

pub normalized-requires : goal.normalized-requires
normalized-requires g c =
    let code = g.C.Controller.code c.args.controller.now in
    let lt : c.loop-param.param-index < length c.args.params.now = omega arith in
    has_at (g.C.Controller.class_of code).params c.args.params.now ((g.met.C.Controller.lawful code).rising) c.requires c.loop-param.param-index c.param-item.result lt c.param-item.is

pub loop-param-preserved : goal.loop-param-preserved
loop-param-preserved g c =
    let code = g.C.Controller.code c.args.controller.now in
    let params = (g.C.Controller.class_of code).params in
    let values = g.C.Controller.values c.args.controller.now in
    let before = c.args.values.now.items in
    let k = c.loop-param.param-index in
    let lt : k < length c.args.params.now = omega arith in
    let rising = (g.met.C.Controller.lawful code).rising in
    let long = (g.met.C.Controller.valued c.args.controller.now).each in
    let there : k < length values = omega (arith, long, place params c.args.params.now rising c.requires k c.param-item.result lt c.param-item.is) in
    let read : c.normalized.result ≡ get_or values k 0 = c.normalized.ensures ∙ read_at params c.args.params.now rising c.requires k c.param-item.result lt c.param-item.is values long in
    c.in_ok-push.ensures.items
    ∙ ap (λ (xs : List ℕ). xs ++ c.normalized.result ∷ []) c.loop-param.invariant
    ∙ append_assoc before (take k values) (c.normalized.result ∷ [])
    ∙ ap (λ (xs : List ℕ). before ++ xs) (ap (λ (v : ℕ). take k values ++ v ∷ []) read ∙ sym (take_more values k 0 there))

use Rattle.std.proofs.Common.{◌≡◌, ℕ, List, length, sym, ap, ◌∙◌}
use Rattle.std.proofs.lemmas.List.{length-map}
use Rattle.vh_points.specs.Model.{queues_of}
use Rattle.vh_plugin.proofs.Played.{played_first, played_more}
use Rattle.vh_plugin.proofs.Stretches.{going_first, going_more, valued_until, behind_going, zeros, length_zeros, stand_later, none_stand}
use Rattle.vh_plugin.proofs.kernel.play.Goals as goal

pub loop-from-preserved : goal.loop-from-preserved
loop-from-preserved g c =
    let going = c.loop-from.invariant.1 in
    let moved = c.move_all-to.ensures.moved in (
      played_more _ _ _ _ (queues_of c.args.points.now) c.args.values.now _ _ c.loop-from.from c.move_all-to.result _ _ _ _ _ c.loop-from.invariant.0 c.move_all-to.ensures.after c.move_all-to.ensures.within
          (λ place le lt. valued_until g.K.Kernel.class.params _ _ _ _ _ _ _ _ _ place c.requires.ids c.requires.values.each going moved le lt)
          c.run_stretch.ensures.out c.run_stretch.ensures.state,
      going_more _ _ _ _ _ _ _ _ _ going moved c.move_all-to.ensures.after,
      c.move_all-to.ensures.within_one,
      stand_later _ _ _ _ _ _ _ c.move_all-to.ensures.stand c.move_all-to.ensures.after,
      c.move_all-to.auto.nexts ∙ c.loop-from.invariant.4,
    )

pub loop-from-init : goal.loop-from-init
loop-from-init g c =
    let long : length c.args.values.now ≡ length c.args.ids.now = c.requires.values.each ∙ sym (length-map g.K.Kernel.class.params (λ param. param.id)) ∙ ap (λ (ids : List ℕ). length ids) c.requires.ids in (
      played_first _ _ _ _ (queues_of c.args.points.now) c.args.values.now _ _ _ c.requires.out,
      going_first _ _ _ _ (length_zeros (length c.args.ids.now) 64 c.requires.few) long (λ k. zeros (length c.args.ids.now) 64 k),
      c.requires.values.within,
      none_stand _ _ _ _ _ (λ k. zeros (length c.args.ids.now) 64 k),
      length_zeros (length c.args.ids.now) 64 c.requires.few,
    )

pub returns-clause-values : goal.returns-clause-values
returns-clause-values g c = behind_going g.K.Kernel.class.params _ _ _ _ _ _ _ c.requires.ids c.requires.values.each c.loop-from.invariant.1 c.values_after.ensures.behind

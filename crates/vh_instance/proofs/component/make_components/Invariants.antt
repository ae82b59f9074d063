use Rattle.std.proofs.Common.{◌≡◌, ℕ, vec_capacity}
use Rattle.vh_instance.specs.Plan.{plan_for}
use Rattle.vh_instance.specs.Raised.{raised_times}
use Rattle.vh_instance.specs.Band.{AreComponents}
use Rattle.vh_instance.proofs.component.make_components.Given as goal

abbrev pub invariant-loop-node : goal.invariant-loop-node
invariant-loop-node g l = record {
  components : AreComponents
      (record { code = g.S.P.Processor.code; values = g.S.P.Processor.values; state = g.S.P.Processor.state; calls = g.S.P.Processor.calls; phase = g.S.P.Life.phase; setup = g.S.P.Life.last_setup })
      (plan_for (g.S.PluginSet.infos l.initial.set) (g.S.PluginSet.code l.initial.set) g.S.P.Processor.class_of l.session l.presets l.max)
      l.node l.components.items l.processors.items;
  places : vec_capacity l.components ≡ l.count;
  more_places : vec_capacity l.processors ≡ l.count;
  made : g.S.PluginSet.made l.set ≡ raised_times l.node (g.S.PluginSet.made l.initial.set);
  ended : g.S.PluginSet.ended l.set ≡ g.S.PluginSet.ended l.initial.set;
  work : g.S.PluginSet.work l.set ≡ g.S.PluginSet.work l.initial.set;
  infos : g.S.PluginSet.infos l.set ≡ g.S.PluginSet.infos l.initial.set;
  codes : (class : ℕ) → g.S.PluginSet.code l.set class ≡ g.S.PluginSet.code l.initial.set class;
}

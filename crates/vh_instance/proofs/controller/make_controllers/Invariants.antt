use Rattle.std.proofs.Common.{◌≡◌, ℕ, length, map, replicate, vec_capacity}
use Rattle.vh_instance.specs.Plan.{plan_for}
use Rattle.vh_instance.specs.Presets.{AreAccepted}
use Rattle.vh_instance.specs.Raised.{raised_times}
use Rattle.vh_instance.specs.Band.{AreControllers}
use Rattle.vh_instance.proofs.controller.make_controllers.Given as goal

abbrev pub invariant-loop-node : goal.invariant-loop-node
invariant-loop-node g l = record {
  controllers : (max : ℕ) → AreControllers
      (record { code = g.S.C.Controller.code; values = g.S.C.Controller.values; mode = g.S.C.Controller.mode })
      (plan_for (g.S.PluginSet.infos l.initial.set) (g.S.PluginSet.code l.initial.set) g.S.P.Processor.class_of l.session l.presets max)
      l.node l.controllers.items l.edits.items l.holders.items;
  accepted : (max : ℕ) → AreAccepted (plan_for (g.S.PluginSet.infos l.initial.set) (g.S.PluginSet.code l.initial.set) g.S.P.Processor.class_of l.session l.presets max) l.node;
  places : vec_capacity l.controllers ≡ l.count;
  more_places : vec_capacity l.edits ≡ l.count;
  row_places : map vec_capacity l.holders.items ≡ replicate (length l.session.scripts.items) l.count;
  made : g.S.PluginSet.made l.set ≡ raised_times l.node (g.S.PluginSet.made l.initial.set);
  ended : g.S.PluginSet.ended l.set ≡ g.S.PluginSet.ended l.initial.set;
  work : g.S.PluginSet.work l.set ≡ g.S.PluginSet.work l.initial.set;
  infos : g.S.PluginSet.infos l.set ≡ g.S.PluginSet.infos l.initial.set;
  codes : (class : ℕ) → g.S.PluginSet.code l.set class ≡ g.S.PluginSet.code l.initial.set class;
}

use Rattle.std.proofs.Common.{◌≡◌, ◌+◌, ℕ, [], ◌∷◌, length, map}
use Rattle.std.specs.Prelude.{All}
use Rattle.vh_component.specs.declared.setup.Phase.TheVariants.{Processing}
use Rattle.vh_instance.specs.Raised.{raised_times, raised_by_each}
use Rattle.vh_instance.specs.Seats.{processor_seat, AreHeld}
use Rattle.vh_instance.specs.Band.{of_processors, objects_of}
use Rattle.vh_instance.proofs.end.end_components.Given as goal

abbrev pub invariant-loop : goal.invariant-loop
invariant-loop g l = record {
  left : length l.components.items + l.counter ≡ length l.initial.components.items;
  held : AreHeld (objects_of l.components.items) (map processor_seat l.processors.items ∷ []);
  processing : All (λ phase. phase ≡ Processing) (of_processors g.S.P.Life.phase l.processors.items);
  ended : raised_times (length l.components.items) (g.S.PluginSet.ended l.set) ≡ raised_times (length l.initial.components.items) (g.S.PluginSet.ended l.initial.set);
  work : raised_by_each (of_processors g.S.P.Processor.calls l.processors.items) (g.S.PluginSet.work l.set) ≡ raised_by_each (of_processors g.S.P.Processor.calls l.initial.processors.items) (g.S.PluginSet.work l.initial.set);
  made : g.S.PluginSet.made l.set ≡ g.S.PluginSet.made l.initial.set;
  infos : g.S.PluginSet.infos l.set ≡ g.S.PluginSet.infos l.initial.set;
  codes : (class : ℕ) → g.S.PluginSet.code l.set class ≡ g.S.PluginSet.code l.initial.set class;
}

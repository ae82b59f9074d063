use Rattle.std.proofs.Common.{◌≡◌, ◌+◌, ℕ, ◌∷◌, length, map}
use Rattle.vh_instance.specs.Raised.{raised_times}
use Rattle.vh_instance.specs.Seats.{opener_seat, row_seats, AreHeld}
use Rattle.vh_instance.specs.Band.{objects_of}
use Rattle.vh_instance.proofs.end.end_controllers.Given as goal

abbrev pub invariant-loop : goal.invariant-loop
invariant-loop g l = record {
  left : length l.controllers.items + l.counter ≡ length l.initial.controllers.items;
  held : AreHeld (objects_of l.controllers.items) (map opener_seat l.edits.items ∷ map row_seats l.holders.items);
  ended : raised_times (length l.controllers.items) (g.S.PluginSet.ended l.set) ≡ raised_times (length l.initial.controllers.items) (g.S.PluginSet.ended l.initial.set);
  work : g.S.PluginSet.work l.set ≡ g.S.PluginSet.work l.initial.set;
  made : g.S.PluginSet.made l.set ≡ g.S.PluginSet.made l.initial.set;
  infos : g.S.PluginSet.infos l.set ≡ g.S.PluginSet.infos l.initial.set;
  codes : (class : ℕ) → g.S.PluginSet.code l.set class ≡ g.S.PluginSet.code l.initial.set class;
}

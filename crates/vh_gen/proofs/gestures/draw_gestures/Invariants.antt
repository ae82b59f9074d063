use Rattle.std.proofs.Common.{◌≡◌, ◌≤◌, ◌*◌, length}
use Rattle.vh_gen.specs.Gestures.{entries_to, gesture_state}
use Rattle.vh_gen.proofs.gestures.draw_gestures.Given as goal

abbrev pub invariant-loop-gesture : goal.invariant-loop-gesture
invariant-loop-gesture l = record {
  entries : l.entries.items ≡ entries_to l.kinds l.initial.draws.state l.gesture;
  state : l.draws.state ≡ gesture_state l.kinds l.initial.draws.state l.gesture;
  few : length l.entries.items ≤ 3 * l.gesture;
}

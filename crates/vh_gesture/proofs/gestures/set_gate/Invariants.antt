use Rattle.std.proofs.Common.{◌≡◌, take, drop, length}
use Rattle.vh_gesture.specs.Tables.{mark}
use Rattle.vh_gesture.proofs.gestures.set_gate.Given as goal

abbrev pub invariant-loop-i : goal.invariant-loop-i
invariant-loop-i l = record {
  done : take l.i l.gates.items ≡ mark l.node l.id l.opened (take l.i l.initial.gates.items);
  left : drop l.i l.gates.items ≡ drop l.i l.initial.gates.items;
  size : length l.gates.items ≡ length l.initial.gates.items;
}

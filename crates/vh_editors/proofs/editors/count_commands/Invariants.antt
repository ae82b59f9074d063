use Rattle.std.proofs.Common.{◌≡◌, ◌≤◌, ◌+◌, length, drop}
use Rattle.vh_gesture.specs.Scripts.{commands}
use Rattle.vh_editors.proofs.editors.count_commands.Given as goal

abbrev pub invariant-loop-word : goal.invariant-loop-word
invariant-loop-word l = record {
  rest : l.count + length (commands (drop l.word-index l.script)) ≡ length (commands l.script);
  few : l.count ≤ l.word-index;
}

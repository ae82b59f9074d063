use Rattle.std.proofs.Common.{◌≡◌, ◌*◌, map}
use Rattle.std.specs.List.{range_with_len}
use Rattle.vh_gen.specs.Draws.{behind}
use Rattle.vh_gen.proofs.Sounded.{left_at, right_at}
use Rattle.vh_gen.proofs.sound.draw_sound.Given as goal

abbrev pub invariant-loop : goal.invariant-loop
invariant-loop l = record {
  left : l.samples.items ≡ map (left_at l.initial.draws.state) (range_with_len 0 l.counter);
  right : l.right.items ≡ map (right_at l.initial.draws.state) (range_with_len 0 l.counter);
  state : l.draws.state ≡ behind (2 * l.counter) l.initial.draws.state;
}

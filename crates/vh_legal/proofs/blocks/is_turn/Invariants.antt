use Rattle.std.proofs.Common.{◌≡◌, ℕ, ◌*◌, ◌<◌, ◌≤◌, take}
use Rattle.std.specs.Prelude.{sum}
use Rattle.vh_legal.proofs.blocks.is_turn.Given as goal

abbrev pub invariant-loop-size : goal.invariant-loop-size
invariant-loop-size l = record {
  at_is : l.at ≡ sum (take l.size-index l.pattern);
  small : l.at ≤ 8192 * l.size-index;
  before : (k : ℕ) → k < l.size-index → sum (take k l.pattern) ≡ l.sample → ⊥;
}

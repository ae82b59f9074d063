use Rattle.std.proofs.Common.{◌∙◌, ℕ, length, sym, ap, arith}
use Rattle.vh_gen.proofs.Touched.{entries_none, state_first, entries_more, state_more, few_entries}
use Rattle.vh_gen.proofs.gestures.draw_gestures.Goals as goal

pub loop-gesture-preserved : goal.loop-gesture-preserved
loop-gesture-preserved c =
    let inv = c.loop-gesture.invariant in
    let drawn = c.in_ok-draw_gesture.ensures in
    let kinds = c.args.kinds.now in
    let state : ℕ = c.args.draws.now.state in
    let n : ℕ = c.loop-gesture.gesture in
    record {
      entries = entries_more kinds state n c.loop-gesture.entries.items c.draw_gesture.new.entries.items c.loop-gesture.draws.state inv.entries inv.state drawn.entries;
      state = state_more kinds state n c.loop-gesture.draws.state c.draw_gesture.new.draws.state inv.state drawn.state;
      few = few_entries kinds c.loop-gesture.draws.state n c.loop-gesture.entries.items c.draw_gesture.new.entries.items inv.few drawn.entries;
    }

pub loop-gesture-init : goal.loop-gesture-init
loop-gesture-init c =
    let kinds = c.args.kinds.now in
    let state : ℕ = c.args.draws.now.state in
    let none = c.new-entries.ensures.items in
    let long = ap length none in
    record {
      entries = none ∙ sym (entries_none kinds state 0);
      state = sym (state_first kinds state 0);
      few = omega (arith, long);
    }

use Rattle.std.proofs.Common.{◌≡◌, ◌∙◌, ◌<◌, ◌≤◌, ◌^◌, true, false, length, get_or, sym, ap, subst, arith, nat_le}
use Rattle.std.specs.Option.{option_copied}
use Rattle.std.proofs.lemmas.Bool.{le-leb, lt-leb}
use Rattle.vh_journal.specs.declared.entry.Entry.{Entry}
use Rattle.vh_meaning.specs.Edits.{edit_in}
use Rattle.vh_meaning.specs.Steps.{touched_by}
use Rattle.vh_legal.specs.declared.touch.Touch.{Touch}
use Rattle.vh_legal.specs.Touches.{touch_of}
use Rattle.vh_legal.specs.Values.{line_in}
use Rattle.vh_legal.proofs.Valued.{entry_more, entry_over}
use Rattle.vh_legal.proofs.parameter.touch_at.Goals as goal
use Rattle.vh_legal.proofs.parameter.touch_at.Goals.{then-entry-sample, else-entry-sample}

pub loop-entry-preserved : goal.loop-entry-preserved
loop-entry-preserved c =
    let line = line_in (option_copied c.args.lane) in
    let param = c.args.param.now in
    let entries = c.args.entries.now in
    let i = c.loop-entry.entry-index in
    let entry = c.entry-item.result in
    let s = c.args.sample in
    let node = c.args.node in
    let kept = c.loop-entry.invariant in
    let within : i < length entries = omega (arith, c.loop-entry-test.true) in
    let is : entry ≡ get_or entries i entry = c.entry-item.is in
    elim c.if-entry-sample.branch [
      | then-entry-sample w ↦
          let up : nat_le (get_or entries i entry).sample s ≡ true = subst (λ (e : Entry). nat_le e.sample s ≡ true) is (le-leb entry.sample s w.if-entry-sample.true) in
          record {
            touch_is =
                ap touch_of w.touch-is ∙ w.take.ensures.touch
                ∙ ap (λ (e : Entry). touched_by line param.steps (edit_in node param.id e) (touch_of c.loop-entry.touch)) is
                ∙ entry_more line param.steps c.args.first node param.id entries i entry s (touch_of c.loop-entry.touch) within up kept.touch_is;
            value = subst (λ (t : Touch). t.value ≤ 2 ^ 24) (sym w.touch-is) w.take.ensures.within;
            begun = omega (arith, ap (λ (t : Touch). t.begun) w.touch-is, w.take.ensures.begun, kept.begun);
            ended = omega (arith, ap (λ (t : Touch). t.ended) w.touch-is, w.take.ensures.ended, kept.ended);
          }
      | else-entry-sample w ↦
          let over : nat_le (get_or entries i entry).sample s ≡ false = subst (λ (e : Entry). nat_le e.sample s ≡ false) is (lt-leb entry.sample s (omega (arith, w.if-entry-sample.false))) in
          record {
            touch_is = ap touch_of w.touch-is ∙ entry_over line param.steps c.args.first node param.id entries i entry s (touch_of c.loop-entry.touch) within over kept.touch_is;
            value = subst (λ (t : Touch). t.value ≤ 2 ^ 24) (sym w.touch-is) kept.value;
            begun = omega (arith, ap (λ (t : Touch). t.begun) w.touch-is, kept.begun);
            ended = omega (arith, ap (λ (t : Touch). t.ended) w.touch-is, kept.ended);
          }
    ]

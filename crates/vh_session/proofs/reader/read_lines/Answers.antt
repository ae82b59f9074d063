use Rattle.std.proofs.Common.{rules, ◌≡◌, ◌∙◌, ◌+◌, ◌∷◌, sym, ap, true, false, Ok, arith}
use Rattle.vh_params.specs.ClassList.{classes_of}
use Rattle.vh_text.specs.Left.{left}
use Rattle.vh_session.specs.Reading.{is_skipped}
use Rattle.vh_session.specs.View.{draft_in}
use Rattle.vh_session.proofs.Stepped.{one_line, skips, says, fewer, rest_short}
use Rattle.vh_session.proofs.reader.read_lines.Goals as goal

pub loop-text-preserved-then-is_skipped : goal.loop-text-preserved-then-is_skipped
loop-text-preserved-then-is_skipped c =
    let classes = classes_of c.args.classes.now in
    let inv = c.loop-text.invariant in
    let all = left c.loop-text.text-iterator in
    let text = c.in-Some.text.now in
    let rest = left c.next.new.self in
    let is : all ≡ text ∷ rest = search rules in
    let skipped : is_skipped text ≡ true = search rules in
    let count = inv.3 in
    let few = fewer all text rest is in (
      tt,
      tt,
      inv.2,
      omega (arith, count, few),
      rest_short all text rest is inv.4,
      inv.5 ∙ one_line classes (c.loop-text.line + 1) (draft_in c.loop-text.draft) (draft_in c.loop-text.draft) all text rest is (skips classes (c.loop-text.line + 1) (draft_in c.loop-text.draft) text skipped),
    )

pub loop-text-preserved : goal.loop-text-preserved
loop-text-preserved c =
    let classes = classes_of c.args.classes.now in
    let inv = c.loop-text.invariant in
    let all = left c.loop-text.text-iterator in
    let text = c.in-Some.text.now in
    let rest = left c.next.new.self in
    let is : all ≡ text ∷ rest = search rules in
    let skipped : is_skipped text ≡ false = search rules in
    let count = inv.3 in
    let few = fewer all text rest is in
    let line = c.loop-text.line + 1 in
    let read = c.in-Ok.ensures.read in
    let step = says classes line (draft_in c.loop-text.draft) text read.0 skipped read.1 ∙ ap (λ d. Ok d) (sym read.2) in (
      tt,
      tt,
      c.in-Ok.ensures.sound,
      omega (arith, count, few),
      rest_short all text rest is inv.4,
      inv.5 ∙ one_line classes line (draft_in c.loop-text.draft) (draft_in c.read_line.new.self) all text rest is step,
    )

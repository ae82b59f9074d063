use Rattle.std.proofs.Common.{rules, ◌≡◌, ◌∙◌, ◌+◌, ◌∷◌, ap, false, arith}
use Rattle.vh_params.specs.Nodes.{nodes_of}
use Rattle.vh_text.specs.Left.{left}
use Rattle.vh_journal_text.specs.Steps.{left_of}
use Rattle.vh_journal_text.specs.View.{so_far}
use Rattle.vh_journal_text.proofs.Stepped.{one_line, fewer, rest_short}
use Rattle.vh_journal_text.proofs.reader.read_lines.Goals as goal

pub loop-text-preserved : goal.loop-text-preserved
loop-text-preserved c =
    let nodes = nodes_of c.args.nodes.now in
    let most = c.args.frames in
    let inv = c.loop-text.invariant in
    let all = left c.loop-text.text-iterator in
    let text = c.in-Some.text.now in
    let rest = left c.next.new.self in
    let is : all ≡ text ∷ rest = search rules in
    let open_ : c.loop-text.closed ≡ false = search rules in
    let count = inv.3 in
    let few = fewer all text rest is in
    let line = c.loop-text.line + 1 in
    let before = so_far c.loop-text.standing in
    let read = c.in-Ok.ensures.read in (
      tt,
      tt,
      c.in-Ok.ensures.stands,
      omega (arith, count, few),
      rest_short all text rest is inv.4,
      inv.5 ∙ ap (λ t. left_of nodes most t line before all) open_ ∙ one_line nodes most line before (so_far c.read_line.new.self) all text rest c.in-Ok.closed is read,
    )

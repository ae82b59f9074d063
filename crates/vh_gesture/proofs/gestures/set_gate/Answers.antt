use Rattle.std.proofs.Common.{◌+◌, List, set, take, ap, ◌∙◌, arith}
use Rattle.std.proofs.lemmas.List.{length-set}
use Rattle.vh_gesture.specs.declared.gestures.Gate.{Gate}
use Rattle.vh_gesture.specs.Tables.{marked}
use Rattle.vh_gesture.proofs.Gates.{step_done, step_left}
use Rattle.vh_gesture.proofs.gestures.set_gate.Goals as goal

pub loop-i-preserved : goal.loop-i-preserved
loop-i-preserved c =
    let now : List Gate = c.loop-i.gates.items in
    let old : List Gate = c.args.gates.now.items in
    let kept = c.loop-i.invariant in
    let f : Gate → Gate = marked c.args.node c.args.id c.args.opened in
    record {
      done = ap (λ gate. take (c.loop-i.i + 1) (set now c.loop-i.i gate)) (c.marked.ensures ∙ ap f c.index.ensures)
          ∙ step_done f old now c.loop-i.i c.index.result.now (omega (arith, c.loop-i.gates.ok.0)) (omega (arith, c.loop-i.gates.ok.0)) kept.done kept.left;
      left = step_left old now c.loop-i.i c.marked.result kept.left;
      size = length-set now c.loop-i.i c.marked.result ∙ kept.size;
    }

use Rattle.std.proofs.Common.{◌≡◌, ◌∙◌, ◌+◌, ◌<◌, length, drop, get_or, sym, ap, subst, arith}
use Rattle.vh_params.specs.Nodes.{nodes_of}
use Rattle.vh_inbox.specs.Values.{AtDesk}
use Rattle.vh_editors.specs.Editing.{stepped, through, MayRun}
use Rattle.vh_editors.proofs.Steps.{may_next, through_next}
use Rattle.vh_editors.proofs.editor.edit.Goals as goal

pub loop-i-preserved : goal.loop-i-preserved
loop-i-preserved g c =
    let nodes = nodes_of c.args.nodes.now in
    let script = c.args.script.now in
    let i = c.loop-i.i in
    let word = c.index-script-i.result in
    let desk = c.loop-i.desk in
    let within : i < length script = omega (arith, c.loop-i-test.true) in
    let step : c.perform.new.desk ≡ stepped nodes desk (get_or script i word) = c.perform.ensures ∙ ap (stepped nodes desk) c.index-script-i.is in
    record {
      may = subst (λ (d : AtDesk). MayRun nodes d (drop (i + 1) script)) (sym step) (may_next nodes desk script i word within c.loop-i.invariant.may);
      rest = ap (λ (d : AtDesk). through nodes d (drop (i + 1) script)) step ∙ sym (through_next nodes desk script i word within) ∙ c.loop-i.invariant.rest;
    }

use Rattle.std.proofs.Common.{true, false, sym, subst}
use Rattle.vh_gesture.specs.Tables.{IsOf}
use Rattle.vh_gesture.proofs.Marks.{kept_by_mark}
use Rattle.vh_gesture.proofs.gestures.Gestures.apply.Goals as goal

pub returns-in-Edit-Begin-clause-nodes : goal.returns-in-Edit-Begin-clause-nodes
returns-in-Edit-Begin-clause-nodes c nodes is =
    let word = c.in-Edit-Begin in
    kept_by_mark nodes c.self.inside.references.items c.self.inside.gates.items c.set_gate.new.gates.items word.node word.id true c.set_gate.ensures (subst (IsOf nodes) (sym c.self.view_is) is)

pub returns-in-Edit-End-clause-nodes : goal.returns-in-Edit-End-clause-nodes
returns-in-Edit-End-clause-nodes c nodes is =
    let word = c.in-Edit-End in
    kept_by_mark nodes c.self.inside.references.items c.self.inside.gates.items c.set_gate-in-Edit-End.new.gates.items word.node word.id false c.set_gate-in-Edit-End.ensures
    (subst (IsOf nodes) (sym c.self.view_is) is)

use Rattle.std.proofs.Common.{◌≡◌, ℕ, ◌+◌, sym, ap, ◌∙◌, subst, rules, arith}
use Rattle.vh_params.specs.Nodes.{nodes_of}
use Rattle.vh_inbox.specs.declared.rule.View.{View}
use Rattle.vh_inbox.specs.Values.{AtDesk, new_desk}
use Rattle.vh_inbox.proofs.Views.{has_handed}
use Rattle.vh_inbox.proofs.Desks.{AreDesks, desks_push, same_new}
use Rattle.vh_inbox.proofs.opening.inbox.Goals as goal

pub loop-number-preserved : goal.loop-number-preserved
loop-number-preserved c =
    let number = c.loop-number.number in
    let made : ℕ → AtDesk = new_desk c.in_ok-line.pass.table_id c.args.capacity c.args.quotas.now (nodes_of c.args.nodes.now) in
    let quotas = ap (λ (v : View). v.quotas) c.loop-number.invariant.knows in
    let is : c.in_ok-desk.desk ≡ made number =
    c.in_ok-desk.ensures.desk ∙ same_new (nodes_of c.args.nodes.now) c.loop-number.invariant.inbox (search rules) quotas (search rules) in
    record {
      pass = search rules;
      knows = has_handed c.args.quotas.now number _ _ _ (omega arith) c.loop-number.invariant.knows c.in_ok-desk.ensures.left;
      inbox = search rules;
      count = search rules;
      room = search rules;
      desks = subst (AreDesks made (number + 1)) (sym c.push_reserved.ensures.items) (desks_push made number c.loop-number.desks.items c.in_ok-desk.desk c.loop-number.invariant.count c.loop-number.invariant.desks is);
    }

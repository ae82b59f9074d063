use Rattle.std.proofs.Common.{sym, subst, ◌∙◌}
use Rattle.vh_params.specs.Short.{label_text}
use Rattle.vh_params.specs.Nodes.{nodes_of, LacksName}
use Rattle.vh_params.proofs.NodeLists.{found_at, none_at, too_long, nodes_apart}
use Rattle.vh_params.proofs.node.NodeTable.node.Goals as goal

pub returns-then-name-gt32-clause-none : goal.returns-then-name-gt32-clause-none
returns-then-name-gt32-clause-none c = too_long c.args.self.now.nodes.entries c.args.name.now c.if-name-gt32.true

pub returns-in_err-node-clause-none : goal.returns-in_err-node-clause-none
returns-in_err-node-clause-none c =
    let lacks : LacksName (nodes_of c.args.self.now) (label_text c.new.result) = none_at c.args.self.now.nodes.entries c.new.result (sym c.in_err-node.ensures.index) in
    rw c.from_residual.ensures (subst (LacksName (nodes_of c.args.self.now)) c.new.ensures lacks)

pub returns-clause-some : goal.returns-clause-some
returns-clause-some c =
    let found = found_at c.args.self.now.nodes.entries c.new.result c.in_ok-node.node c.in_ok-node.ensures.within (sym c.in_ok-node.ensures.index) in
    (found.0, found.1 ∙ c.new.ensures)

pub returns-clause-first : goal.returns-clause-first
returns-clause-first c before lt same =
    let found = found_at c.args.self.now.nodes.entries c.new.result c.in_ok-node.node c.in_ok-node.ensures.within (sym c.in_ok-node.ensures.index) in
    nodes_apart c.args.self.now.nodes.entries c.in_ok-node.ensures.unique before c.in_ok-node.node lt found.0 (same ∙ sym (found.1 ∙ c.new.ensures))

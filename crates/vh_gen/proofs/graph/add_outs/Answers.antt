use Rattle.vh_gen.specs.Nodes.{wire_out}
use Rattle.vh_gen.proofs.Grown.{one_behind}
use Rattle.vh_gen.proofs.graph.add_outs.Goals as goal

pub loop-node-preserved : goal.loop-node-preserved
loop-node-preserved c = one_behind wire_out c.args.wires.now.items c.loop-node.wires.items c.push.new.self.items c.wire.result c.loop-node.node c.loop-node.invariant c.in_ok-push.ensures.items c.wire.ensures

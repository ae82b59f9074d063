use Rattle.std.proofs.Common.{◌≡◌, length, take}
use Rattle.vh_params.specs.Nodes.{nodes_of}
use Rattle.vh_session.specs.Keeps.{StandsUnder}
use Rattle.vh_session.specs.Names.{content_of}
use Rattle.vh_legal.specs.Values.{param_count}
use Rattle.machine_tests.proofs.Making.{AreReadyTo}
use Rattle.machine_tests.proofs.players.players.Given as goal

abbrev pub invariant-loop-node : goal.invariant-loop-node
invariant-loop-node g l = record {
  stands : StandsUnder (g.S.PluginSet.infos l.set) (content_of l.session);
  from : l.from ≡ param_count (take l.node (nodes_of l.session.nodes));
  long : length l.made.items ≡ l.node;
  ready : AreReadyTo g.S.P.Processor.class_of g.S.P.Processor.code g.S.P.Processor.state g.S.P.Processor.values g.S.P.Life.phase g.S.P.Life.last_setup (content_of l.session) l.first l.made.items;
}

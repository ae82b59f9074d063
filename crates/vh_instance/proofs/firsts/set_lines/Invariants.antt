use Rattle.std.proofs.Common.{◌≡◌}
use Rattle.vh_instance.specs.Firsts.{lines_over}
use Rattle.vh_instance.proofs.Settings.{AreSetTo}
use Rattle.vh_instance.proofs.firsts.set_lines.Given as goal

abbrev pub invariant-loop-param : goal.invariant-loop-param
invariant-loop-param g l = record {
  set : AreSetTo l.param-index (g.C.Controller.values l.controller) (g.C.Controller.values l.initial.controller)
      (lines_over l.session.firsts.items l.node (g.C.Controller.class_of (g.C.Controller.code l.initial.controller)).params (g.C.Controller.values l.initial.controller));
  mode : g.C.Controller.mode l.controller ≡ g.C.Controller.mode l.initial.controller;
  code : g.C.Controller.code l.controller ≡ g.C.Controller.code l.initial.controller;
}

use Rattle.vh_params.specs.ClassList.{classes_of}
use Rattle.vh_plugin.specs.Lists.{AreCopied}
use Rattle.vh_plugin.proofs.both.copy_into.Given as goal

abbrev pub invariant-loop-class : goal.invariant-loop-class
invariant-loop-class l = AreCopied l.fn.list.items (classes_of l.classes) l.list.items l.class

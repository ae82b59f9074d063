use Rattle.vh_plugin.proofs.Frames.{mono_run}
use Rattle.vh_plugin.proofs.kernel.run_mono.Goals as goal

pub returns-clause-out : goal.returns-clause-out
returns-clause-out g c =
    (mono_run g.K.Kernel.class (g.K.Kernel.state c.args.kernel.now) (g.K.Kernel.state c.mono.new.self) c.args.values.now c.args.from c.args.to c.args.main.now c.args.aux.now c.part_of-aux.result.now c.args.out.now c.mono.new.out
    c.requires.from c.requires.to c.requires.out c.part_of-aux.ensures c.mono.auto.out c.mono.ensures.out c.mono.ensures.state).0

pub returns-clause-state : goal.returns-clause-state
returns-clause-state g c =
    (mono_run g.K.Kernel.class (g.K.Kernel.state c.args.kernel.now) (g.K.Kernel.state c.mono.new.self) c.args.values.now c.args.from c.args.to c.args.main.now c.args.aux.now c.part_of-aux.result.now c.args.out.now c.mono.new.out
    c.requires.from c.requires.to c.requires.out c.part_of-aux.ensures c.mono.auto.out c.mono.ensures.out c.mono.ensures.state).1

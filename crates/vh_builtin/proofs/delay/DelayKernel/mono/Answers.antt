use Rattle.std.proofs.Common.{length, get_or, subst}
use Rattle.vh_builtin.specs.Rings.{history, IsEcho}
use Rattle.vh_plugin.specs.Runs.{aux_mono}
use Rattle.vh_builtin.proofs.Rings.{length_history}
use Rattle.vh_builtin.proofs.Delays.{mono_echo}
use Rattle.vh_builtin.proofs.delay.DelayKernel.mono.Goals as goal

pub returns-clause-out : goal.returns-clause-out
returns-clause-out c =
    let left = c.args.self.now.left in let right = c.args.self.now.right in
    let echo = subst (λ time. IsEcho time (get_or c.args.values.now 1 0) (get_or c.args.values.now 2 0) (history left.places.items left.at) c.args.main.now (length c.args.main.now) (history c.run.new.self.places.items c.run.new.self.at) c.run.new.out) c.index-time.ensures c.run.ensures in
    (mono_echo (history left.places.items left.at) (history right.places.items right.at) _ c.args.values.now c.args.main.now c.run.new.out (aux_mono c.args.aux.now) (length c.args.main.now) (length_history left.places.items left.at) echo).0

pub returns-clause-state : goal.returns-clause-state
returns-clause-state c =
    let left = c.args.self.now.left in let right = c.args.self.now.right in
    let echo = subst (λ time. IsEcho time (get_or c.args.values.now 1 0) (get_or c.args.values.now 2 0) (history left.places.items left.at) c.args.main.now (length c.args.main.now) (history c.run.new.self.places.items c.run.new.self.at) c.run.new.out) c.index-time.ensures c.run.ensures in
    (mono_echo (history left.places.items left.at) (history right.places.items right.at) _ c.args.values.now c.args.main.now c.run.new.out (aux_mono c.args.aux.now) (length c.args.main.now) (length_history left.places.items left.at) echo).1

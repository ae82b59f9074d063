use Rattle.std.proofs.Common.{length, get_or, subst}
use Rattle.vh_builtin.specs.Rings.{history, IsEcho}
use Rattle.vh_plugin.specs.Runs.{aux_stereo}
use Rattle.vh_builtin.proofs.Rings.{length_history}
use Rattle.vh_builtin.proofs.Delays.{stereo_echo}
use Rattle.vh_builtin.proofs.delay.DelayKernel.stereo.Goals as goal

pub returns-clause-out : goal.returns-clause-out
returns-clause-out c =
    let left = c.args.self.now.left in let right = c.args.self.now.right in
    let echo = subst (λ time. IsEcho time (get_or c.args.values.now 1 0) (get_or c.args.values.now 2 0) (history left.places.items left.at) c.args.left.now (length c.args.left.now) (history c.run.new.self.places.items c.run.new.self.at) c.run.new.out) c.index-time.ensures c.run.ensures in
    let echo_right = subst (λ time. IsEcho time (get_or c.args.values.now 1 0) (get_or c.args.values.now 2 0) (history right.places.items right.at) c.args.right.now (length c.args.left.now) (history c.run-2.new.self.places.items c.run-2.new.self.at) c.run-2.new.out) c.index-time.ensures
    (subst (λ n. IsEcho c.index-time.result (get_or c.args.values.now 1 0) (get_or c.args.values.now 2 0) (history right.places.items right.at) c.args.right.now n (history c.run-2.new.self.places.items c.run-2.new.self.at) c.run-2.new.out) c.requires.right c.run-2.ensures) in
    (stereo_echo (history left.places.items left.at) (history right.places.items right.at) _ _ c.args.values.now c.args.left.now c.args.right.now c.run.new.out c.run-2.new.out (aux_stereo c.args.aux_left.now c.args.aux_right.now) (length c.args.left.now)
    (length_history left.places.items left.at) echo echo_right).0

pub returns-clause-state : goal.returns-clause-state
returns-clause-state c =
    let left = c.args.self.now.left in let right = c.args.self.now.right in
    let echo = subst (λ time. IsEcho time (get_or c.args.values.now 1 0) (get_or c.args.values.now 2 0) (history left.places.items left.at) c.args.left.now (length c.args.left.now) (history c.run.new.self.places.items c.run.new.self.at) c.run.new.out) c.index-time.ensures c.run.ensures in
    let echo_right = subst (λ time. IsEcho time (get_or c.args.values.now 1 0) (get_or c.args.values.now 2 0) (history right.places.items right.at) c.args.right.now (length c.args.left.now) (history c.run-2.new.self.places.items c.run-2.new.self.at) c.run-2.new.out) c.index-time.ensures
    (subst (λ n. IsEcho c.index-time.result (get_or c.args.values.now 1 0) (get_or c.args.values.now 2 0) (history right.places.items right.at) c.args.right.now n (history c.run-2.new.self.places.items c.run-2.new.self.at) c.run-2.new.out) c.requires.right c.run-2.ensures) in
    (stereo_echo (history left.places.items left.at) (history right.places.items right.at) _ _ c.args.values.now c.args.left.now c.args.right.now c.run.new.out c.run-2.new.out (aux_stereo c.args.aux_left.now c.args.aux_right.now) (length c.args.left.now)
    (length_history left.places.items left.at) echo echo_right).1

use Rattle.std.proofs.Common.{◌≡◌, ℕ, List, map}
use Rattle.std.specs.String.{string_bytes}
use Rattle.vh_plugin.specs.Counts.{raised_by}
use Rattle.vh_answers.specs.Outside.{outside, voice}
use Rattle.vh_answers.proofs.Stages.{settled, done}
use Rattle.vh_host.specs.Known.{Known}
use Rattle.vh_host.specs.Commands.{steps_in}
use Rattle.vh_host.proofs.Decided.{all_decided}
use Rattle.vh_host.proofs.top.run.Goals as goal

pub returns-clause-answer : goal.returns-clause-answer
returns-clause-answer g c =
    let known : Known = record { infos = g.S.PluginSet.infos c.args.set.now; code = g.S.PluginSet.code c.args.set.now; class_of = g.S.P.Processor.class_of } in
    settled (λ calls. g.S.PluginSet.work c.run_words-status.new.set ≡ raised_by calls (g.S.PluginSet.work c.args.set.now))
    (outside g.F.Files g.Y.Say c.args.files.now c.run_words-status.new.files c.args.say.now c.run_words-status.new.say) (steps_in known (map string_bytes c.args.words.now)) c.run_words-status.result
    (voice g.Y.Say c.say_refusal.new.say) c.run_words-status.ensures.counts.faults c.run_words-status.ensures.ends c.say_refusal.ensures.said

pub returns-clause-completes : goal.returns-clause-completes
returns-clause-completes g c = λ free.
    let known : Known = record { infos = g.S.PluginSet.infos c.args.set.now; code = g.S.PluginSet.code c.args.set.now; class_of = g.S.P.Processor.class_of } in
    let words : List (List ℕ) = map string_bytes c.args.words.now in
    done (λ calls. g.S.PluginSet.work c.run_words-status.new.set ≡ raised_by calls (g.S.PluginSet.work c.args.set.now))
    (outside g.F.Files g.Y.Say c.args.files.now c.run_words-status.new.files c.args.say.now c.say_refusal.new.say) (steps_in known words) c.run_words-status.result (all_decided known words) free
    (settled (λ calls. g.S.PluginSet.work c.run_words-status.new.set ≡ raised_by calls (g.S.PluginSet.work c.args.set.now))
    (outside g.F.Files g.Y.Say c.args.files.now c.run_words-status.new.files c.args.say.now c.run_words-status.new.say) (steps_in known words) c.run_words-status.result
    (voice g.Y.Say c.say_refusal.new.say) c.run_words-status.ensures.counts.faults c.run_words-status.ensures.ends c.say_refusal.ensures.said)

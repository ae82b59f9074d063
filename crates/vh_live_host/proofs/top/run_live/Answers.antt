use Rattle.std.proofs.Common.{◌≡◌, ℕ, List, map}
use Rattle.std.specs.String.{string_bytes}
use Rattle.vh_plugin.specs.Counts.{raised_by}
use Rattle.vh_answers.specs.Outside.{outside, voice}
use Rattle.vh_answers.proofs.Stages.{settled}
use Rattle.vh_host.specs.Known.{Known}
use Rattle.vh_live_host.specs.Commands.{steps_in}
use Rattle.vh_live_host.specs.Headline.{Counts}
use Rattle.vh_live_host.proofs.Asked.{completed}
use Rattle.vh_live_host.proofs.Headline.{headline}
use Rattle.vh_live_host.proofs.top.run_live.Goals as goal

pub returns-clause-answer : goal.returns-clause-answer
returns-clause-answer g c =
    let known : Known = record { infos = g.S.PluginSet.infos c.args.set.now; code = g.S.PluginSet.code c.args.set.now; class_of = g.S.P.Processor.class_of } in
    settled (λ calls. g.S.PluginSet.work c.run_words-status.new.set ≡ raised_by calls (g.S.PluginSet.work c.args.set.now))
    (outside g.F.Files g.Y.Say c.args.files.now c.run_words-status.new.files c.args.say.now c.run_words-status.new.say) (steps_in known (map string_bytes c.args.words.now)) c.run_words-status.result
    (voice g.Y.Say c.say_refusal.new.say) c.run_words-status.ensures.counts.faults c.run_words-status.ensures.ends c.say_refusal.ensures.said

pub returns-clause-completes : goal.returns-clause-completes
returns-clause-completes g c = λ free.
    let known : Known = record { infos = g.S.PluginSet.infos c.args.set.now; code = g.S.PluginSet.code c.args.set.now; class_of = g.S.P.Processor.class_of } in
    let words : List (List ℕ) = map string_bytes c.args.words.now in
    let Calls : ℕ → Type 0 = λ calls. g.S.PluginSet.work c.run_words-status.new.set ≡ raised_by calls (g.S.PluginSet.work c.args.set.now) in
    completed Calls (outside g.F.Files g.Y.Say c.args.files.now c.run_words-status.new.files c.args.say.now c.say_refusal.new.say) known words c.run_words-status.result free
    (settled Calls (outside g.F.Files g.Y.Say c.args.files.now c.run_words-status.new.files c.args.say.now c.run_words-status.new.say) (steps_in known words) c.run_words-status.result
    (voice g.Y.Say c.say_refusal.new.say) c.run_words-status.ensures.counts.faults c.run_words-status.ensures.ends c.say_refusal.ensures.said)

pub returns-clause-headline : goal.returns-clause-headline
returns-clause-headline g c = λ ok.
    let known : Known = record { infos = g.S.PluginSet.infos c.args.set.now; code = g.S.PluginSet.code c.args.set.now; class_of = g.S.P.Processor.class_of } in
    let words : List (List ℕ) = map string_bytes c.args.words.now in
    let old : Counts = record { made = g.S.PluginSet.made c.args.set.now; ended = g.S.PluginSet.ended c.args.set.now; work = g.S.PluginSet.work c.args.set.now } in
    let new : Counts = record { made = g.S.PluginSet.made c.run_words-status.new.set; ended = g.S.PluginSet.ended c.run_words-status.new.set; work = g.S.PluginSet.work c.run_words-status.new.set } in
    headline c.legal_reads_back.ensures known words (outside g.F.Files g.Y.Say c.args.files.now c.run_words-status.new.files c.args.say.now c.say_refusal.new.say) old new c.run_words-status.result ok
    (settled (λ calls. new.work ≡ raised_by calls old.work) (outside g.F.Files g.Y.Say c.args.files.now c.run_words-status.new.files c.args.say.now c.run_words-status.new.say) (steps_in known words) c.run_words-status.result
    (voice g.Y.Say c.say_refusal.new.say) c.run_words-status.ensures.counts.faults c.run_words-status.ensures.ends c.say_refusal.ensures.said)
    c.run_words-status.ensures.objects c.run_words-status.ensures.others

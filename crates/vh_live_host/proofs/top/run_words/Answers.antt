use Rattle.std.proofs.Common.{◌≡◌, map, Option, sym, subst}
use Rattle.std.specs.String.{string_bytes}
use Rattle.vh_plugin.specs.Counts.{raised_by}
use Rattle.vh_answers.specs.Outside.{outside, ChangesOnly}
use Rattle.vh_answers.proofs.Stages.{after}
use Rattle.vh_host.specs.Known.{Known}
use Rattle.vh_live_host.specs.Words.{Live, outputs_of}
use Rattle.vh_live_host.specs.Commands.{words_step, live_steps}
use Rattle.vh_live_host.specs.Named.{live_of}
use Rattle.vh_live_host.proofs.Asked.{is_sized}
use Rattle.vh_live_host.proofs.top.run_words.Goals as goal

pub live-requires-clause-size : goal.live-requires-clause-size
live-requires-clause-size g c κs within = is_sized (map string_bytes c.args.words.now) (live_of c.in-Some.asked) c.in-Some.ensures

pub returns-in-Ok-clause-ends : goal.returns-in-Ok-clause-ends
returns-in-Ok-clause-ends g c =
    let known : Known = record { infos = g.S.PluginSet.infos c.args.set.now; code = g.S.PluginSet.code c.args.set.now; class_of = g.S.P.Processor.class_of } in
    after _ (λ calls. g.S.PluginSet.work c.live.new.set ≡ raised_by calls (g.S.PluginSet.work c.args.set.now)) (outside g.F.Files g.Y.Say c.args.files.now c.live.new.files c.args.say.now c.live.new.say)
    Live (words_step (map string_bytes c.args.words.now)) (live_steps known) (live_of c.in-Some.asked) _ (sym c.in-Some.ensures) c.in-Ok.ensures.ends

pub returns-in-Err-clause-ends : goal.returns-in-Err-clause-ends
returns-in-Err-clause-ends g c =
    let known : Known = record { infos = g.S.PluginSet.infos c.args.set.now; code = g.S.PluginSet.code c.args.set.now; class_of = g.S.P.Processor.class_of } in
    after _ (λ calls. g.S.PluginSet.work c.live.new.set ≡ raised_by calls (g.S.PluginSet.work c.args.set.now)) (outside g.F.Files g.Y.Say c.args.files.now c.live.new.files c.args.say.now c.live.new.say)
    Live (words_step (map string_bytes c.args.words.now)) (live_steps known) (live_of c.in-Some.asked) c.in-Err.status (sym c.in-Some.ensures) c.in-Err.ensures.ends

pub returns-in-Ok-clause-others : goal.returns-in-Ok-clause-others
returns-in-Ok-clause-others g c =
    subst (λ (live : Option Live). ChangesOnly (outputs_of live) (g.F.Files.held c.args.files.now) (g.F.Files.held c.live.new.files)) c.in-Some.ensures c.live.ensures.others

pub returns-in-Err-clause-others : goal.returns-in-Err-clause-others
returns-in-Err-clause-others g c =
    subst (λ (live : Option Live). ChangesOnly (outputs_of live) (g.F.Files.held c.args.files.now) (g.F.Files.held c.live.new.files)) c.in-Some.ensures c.live.ensures.others

use Rattle.std.proofs.Common.{◌≡◌, ◌∙◌, ℕ, List, length, sum, refl, ap}
use Rattle.vh_files.specs.Store.{told}
use Rattle.vh_params.specs.Nodes.{nodes_of}
use Rattle.vh_plugin.specs.Counts.{raised_by}
use Rattle.vh_session.specs.Content.{Content}
use Rattle.vh_session.specs.Names.{content_of}
use Rattle.vh_instance.specs.Band.{of_processors}
use Rattle.vh_instance.proofs.Classes.{suits_too}
use Rattle.vh_answers.specs.Outside.{store, outside}
use Rattle.vh_answers.specs.Steps.{EndsUnsaid}
use Rattle.vh_answers.proofs.Stages.{since, ended, recounted}
use Rattle.vh_host.specs.Known.{Known, plan_of}
use Rattle.vh_host.specs.Named.{status_of}
use Rattle.vh_host.proofs.Opened.{opened_ends, opened_halted}
use Rattle.vh_host.proofs.Outcomes.{band_ended, work_done}
use Rattle.vh_live_host.specs.Commands.{begun_steps, live_steps}
use Rattle.vh_live_host.specs.Named.{live_of}
use Rattle.vh_live_host.proofs.live.live.Goals as goal

pub returns-in-Err-clause-ends : goal.returns-in-Err-clause-ends
returns-in-Err-clause-ends g c =
    let known : Known = record { infos = g.S.PluginSet.infos c.args.set.now; code = g.S.PluginSet.code c.args.set.now; class_of = g.S.P.Processor.class_of } in
    let asked = live_of c.args.live.now in
    ended _ (outside g.F.Files g.Y.Say c.args.files.now c.open_session.new.files c.args.say.now c.args.say.now) (live_steps known asked) c.in-Err.status c.in-Err.ensures.only_read.held refl
    (opened_halted (store g.F.Files c.args.files.now) (store g.F.Files c.open_session.new.files) known asked.session (begun_steps known asked) c.in-Err.status c.in-Err.ensures.stop)

pub live_band-band-requires-clause-band : goal.live_band-band-requires-clause-band
live_band-band-requires-clause-band g c κs within =
    let known : Known = record { infos = g.S.PluginSet.infos c.args.set.now; code = g.S.PluginSet.code c.args.set.now; class_of = g.S.P.Processor.class_of } in
    let opened = c.in-Ok.ensures.opened in (
      known,
      opened.0,
      refl,
      opened.2,
      (λ node lt. suits_too (plan_of known (content_of c.in-Ok.opening.session) opened.0 c.in-Ok.opening.blocks.longest) c.in-Ok.ensures.stands node lt g.S.C.Controller.class_of
          (λ class d there. g.met.S.PluginSet.controllers c.args.set.now class d there)),
    )

pub returns-clause-ends : goal.returns-clause-ends
returns-clause-ends g c =
    let known : Known = record { infos = g.S.PluginSet.infos c.args.set.now; code = g.S.PluginSet.code c.args.set.now; class_of = g.S.P.Processor.class_of } in
    let asked = live_of c.args.live.now in
    let opened = c.in-Ok.ensures.opened in
    let content : Content = content_of c.in-Ok.opening.session in
    let first = store g.F.Files c.args.files.now in
    let steps = begun_steps known asked content opened.0 in
    let answer = status_of c.live_band-band.result.1 in
    let work : ℕ = g.S.PluginSet.work c.args.set.now in
    let work_now : ℕ = g.S.PluginSet.work c.tear_down.new.set in
    let calls_of : List ℕ = of_processors g.S.P.Processor.calls c.live_band-band.result.0.processors.items in
    let o = outside g.F.Files g.Y.Say c.open_session.new.files c.live_band-band.new.files c.args.say.now c.live_band-band.new.say in
    let counted : EndsUnsaid (λ calls. work_now ≡ raised_by calls work) o steps answer = recounted _ (λ calls. sum calls_of ≡ calls) (λ calls. work_now ≡ raised_by calls work) o steps answer
    (λ calls e. work_done c.raised_by_sum.ensures calls_of calls work (g.S.PluginSet.work c.open_session.new.set) work_now c.requires.work c.in-Ok.ensures.work c.tear_down.ensures.work e)
    (c.live_band-band.ensures.ends known opened.0 refl opened.2) in
    opened_ends _ (λ calls. work_now ≡ raised_by calls work) (outside g.F.Files g.Y.Say c.args.files.now c.live_band-band.new.files c.args.say.now c.live_band-band.new.say)
    known asked.session content opened.0 (begun_steps known asked) answer opened.1
    (since _ (λ calls. work_now ≡ raised_by calls work) first o steps answer c.in-Ok.ensures.only_read counted)

pub returns-clause-others : goal.returns-clause-others
returns-clause-others g c = λ other are. c.live_band-band.ensures.others other are ∙ ap (λ held. told held other) c.in-Ok.ensures.only_read.held

pub returns-clause-objects : goal.returns-clause-objects
returns-clause-objects g c =
    band_ended (g.S.PluginSet.made c.args.set.now) (g.S.PluginSet.ended c.args.set.now) (g.S.PluginSet.made c.open_session.new.set) (g.S.PluginSet.ended c.open_session.new.set)
    (g.S.PluginSet.made c.tear_down.new.set) (g.S.PluginSet.ended c.tear_down.new.set) (length (nodes_of c.in-Ok.opening.session.nodes))
    (length c.live_band-band.result.0.components.items) (length c.live_band-band.result.0.controllers.items)
    c.in-Ok.ensures.made c.in-Ok.ensures.kept c.tear_down.ensures.made c.tear_down.ensures.ended c.live_band-band.ensures.components c.live_band-band.ensures.controllers

use Rattle.std.proofs.Common.{◌≡◌, ◌∙◌, ℕ, List, [], sum, refl, sym, ap, subst}
use Rattle.vh_counted.specs.declared.object.Opened.{Opened}
use Rattle.vh_params.specs.Nodes.{Node}
use Rattle.vh_journal.specs.declared.entry.Entry.{Entry}
use Rattle.vh_session.specs.Content.{Content}
use Rattle.vh_session.specs.Names.{content_of}
use Rattle.vh_legal.specs.Legal.{IsLegalFor}
use Rattle.vh_meaning.specs.Scene.{Scene}
use Rattle.vh_instance.specs.Band.{Plan, code_at, of_openers, of_processors}
use Rattle.vh_answers.specs.Outside.{outside}
use Rattle.vh_host.specs.Known.{scene_under, modes_under}
use Rattle.vh_host.specs.Named.{status_of}
use Rattle.vh_live.specs.Bands.{scene_by}
use Rattle.vh_live_host.specs.Named.{live_of}
use Rattle.vh_live_host.specs.Results.{HaveParams}
use Rattle.vh_live_host.proofs.Lives.{have_params, are_of, heard_of, as_many, scene_is, modes_are, called, played_ends}
use Rattle.vh_live_host.proofs.live.play_frames.Goals as goal

pub finish-result-requires-clause-params : goal.finish-result-requires-clause-params
finish-result-requires-clause-params g c =
    let made = c.requires.band in
    let now : Content = content_of c.args.session in
    let plan : Plan = record { content = now; presets = made.presets; infos = made.infos; code = made.code; class_of = g.P.Processor.class_of; max = made.max } in
    let codes = ap (λ (os : List (Opened g.row.C.Denot)). of_openers g.C.Controller.code os) c.deref.ensures.value ∙ c.play-outcome.ensures.controllers.codes ∙ made.band_is.controllers.codes in
    subst (λ (nodes : List Node). HaveParams g.C.Controller.class_of g.C.Controller.code c.deref.result.now nodes) (sym (ap (λ (content : Content). content.nodes) c.play-outcome.ensures.session))
    (have_params g.C.Controller.class_of g.C.Controller.code c.deref.result.now now.nodes (code_at plan) codes made.params)

pub finish-result-requires-clause-played : goal.finish-result-requires-clause-played
finish-result-requires-clause-played g c =
    let session = c.args.session in
    let left = c.args.frames.left in
    let play = c.play-outcome.ensures in
    let scene : Scene = scene_by g.P.Processor.class_of g.P.Processor.code (content_of session) c.args.band in (
      session,
      scene,
      left,
      are_of g.C.Controller.values session scene left _ _ _ _ _ c.deref.ensures.value c.deref-in-Done.ensures.value c.deref-in-Done-2.ensures.value c.deref-in-Done-3.ensures.value
          play.session refl (play.channels ∙ c.requires.channels) (play.legal c.in-Done.is) (play.refused c.in-Done.is) (play.sound left [] refl c.requires.none c.in-Done.is)
          (play.values left refl c.in-Done.is) (play.replies left refl c.in-Done.is),
    )

pub returns-in-Done-clause-components : goal.returns-in-Done-clause-components
returns-in-Done-clause-components g c =
    as_many c.play-outcome.result.band.components.items c.args.band.components.items c.play-outcome.ensures.components.objects ∙ c.requires.band.band_is.components.size

pub returns-in-Done-clause-controllers : goal.returns-in-Done-clause-controllers
returns-in-Done-clause-controllers g c =
    as_many c.play-outcome.result.band.controllers.items c.args.band.controllers.items c.play-outcome.ensures.controllers.objects ∙ c.requires.band.band_is.controllers.size

pub returns-in-Memory-clause-components : goal.returns-in-Memory-clause-components
returns-in-Memory-clause-components g c =
    as_many c.play-outcome.result.band.components.items c.args.band.components.items c.play-outcome.ensures.components.objects ∙ c.requires.band.band_is.components.size

pub returns-in-Memory-clause-controllers : goal.returns-in-Memory-clause-controllers
returns-in-Memory-clause-controllers g c =
    as_many c.play-outcome.result.band.controllers.items c.args.band.controllers.items c.play-outcome.ensures.controllers.objects ∙ c.requires.band.band_is.controllers.size

pub returns-in-Done-clause-ends : goal.returns-in-Done-clause-ends
returns-in-Done-clause-ends g c = λ known presets max content heard same is read first rate.
    let session = c.args.session in
    let now : Content = content_of session in
    let live = live_of c.args.live.now in
    let left = c.args.frames.left in
    let play = c.play-outcome.ensures in
    let scene : Scene = scene_by g.P.Processor.class_of g.P.Processor.code now c.args.band in
    let other : Scene = scene_under known content presets in
    let journal = c.deref-in-Done.result.now in
    let calls : List ℕ = of_processors g.P.Processor.calls c.play-outcome.result.band.processors.items in
    let legal : IsLegalFor session journal = subst (λ (entries : List Entry). IsLegalFor session entries) (sym c.deref-in-Done.ensures.value) (play.legal c.in-Done.is) in
    let shown : List ℕ = of_openers g.C.Controller.mode c.deref.result.now in
    played_ends (λ n. sum calls ≡ n) (outside g.F.Files g.Y.Say c.args.files.now c.finish-result.new.files c.args.say.now c.finish-result.new.say) other shown (modes_under known content presets) live content heard session journal (status_of c.finish-result.result)
    read legal
    (modes_are _ _ known presets max _ same live.block content now read c.args.band is shown (ap (λ (os : List (Opened g.row.C.Denot)). of_openers g.C.Controller.mode os) c.deref.ensures.value ∙ play.controllers.modes))
    (called _ _ known presets max _ same live.block content now read c.args.band is session refl journal legal live refl calls (play.calls c.in-Done.is))
    (c.finish-result.ensures.ends session other heard content
    (heard_of g.C.Controller.values session scene other left heard.frames _ (scene_is _ _ known presets max _ same live.block content now read c.args.band is) refl first
    (are_of g.C.Controller.values session scene left _ _ _ _ _ c.deref.ensures.value c.deref-in-Done.ensures.value c.deref-in-Done-2.ensures.value c.deref-in-Done-3.ensures.value
    play.session refl (play.channels ∙ c.requires.channels) (play.legal c.in-Done.is) (play.refused c.in-Done.is) (play.sound left [] refl c.requires.none c.in-Done.is)
    (play.values left refl c.in-Done.is) (play.replies left refl c.in-Done.is)))
    rate read)

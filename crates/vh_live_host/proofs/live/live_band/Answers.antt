use Rattle.std.proofs.Common.{◌≡◌, ◌∙◌, ℕ, List, sum, refl, sym, ap, subst}
use Rattle.vh_files.specs.Store.{told}
use Rattle.vh_session.specs.Content.{Content}
use Rattle.vh_session.specs.Names.{content_of}
use Rattle.vh_instance.specs.Band.{of_processors}
use Rattle.vh_answers.specs.Outside.{store, outside}
use Rattle.vh_answers.proofs.Stages.{after, since, ended, first_halted}
use Rattle.vh_host.specs.Known.{scene_under, modes_under}
use Rattle.vh_host.specs.Input.{Heard}
use Rattle.vh_host.specs.Commands.{input_step}
use Rattle.vh_host.specs.Named.{status_of}
use Rattle.vh_live_host.specs.Played.{in_blocks}
use Rattle.vh_live_host.specs.Commands.{heard_steps, begun_steps}
use Rattle.vh_live_host.specs.Named.{live_of}
use Rattle.vh_live_host.specs.Results.{AreFirst}
use Rattle.vh_live_host.proofs.Lives.{recut_now, made_for, first_frames}
use Rattle.vh_live_host.proofs.live.live_band.Goals as goal

pub returns-in-Err-clause-ends : goal.returns-in-Err-clause-ends
returns-in-Err-clause-ends g c = λ known presets same is.
    let asked = live_of c.args.live.now in
    let content : Content = content_of c.args.opening.session in
    ended _ (outside g.F.Files g.Y.Say c.args.files.now c.read_input.new.files c.args.say.now c.args.say.now) (begun_steps known asked content presets) c.in-Err.status c.in-Err.ensures.only_read.held refl
    (first_halted (store g.F.Files c.args.files.now) (store g.F.Files c.read_input.new.files) Heard (input_step asked.input content.channels)
    (heard_steps (scene_under known content presets) (modes_under known content presets) asked content) c.in-Err.status c.in-Err.ensures.stop)

pub play_frames-requires-clause-band : goal.play_frames-requires-clause-band
play_frames-requires-clause-band g c κs within =
    let made = c.requires.band in
    let opening = c.args.opening in
    let blocks = opening.blocks in
    made_for _ _ made.0 made.1 blocks.longest (content_of opening.session) (content_of c.sized-session.result) blocks.sizes.items c.sized-session.ensures.content opening.band made.3
    g.P.Processor.class_of g.C.Controller.class_of made.2 made.4 blocks.some blocks.most blocks.each

pub returns-clause-ends : goal.returns-clause-ends
returns-clause-ends g c = λ known presets same is.
    let asked = live_of c.args.live.now in
    let opening = c.args.opening in
    let content : Content = content_of opening.session in
    let session = c.sized-session.result in
    let now : Content = content_of session in
    let sizes : List ℕ = opening.blocks.sizes.items in
    let kept = c.sized-session.ensures.content in
    let read : now ≡ in_blocks asked.block content = kept ∙ ap (λ (pattern : List ℕ). record content { pattern = pattern }) c.requires.sizes in
    let hears = c.in-Ok.ensures.hears in
    let heard : Heard = hears.0 in
    let left = c.in-Ok-list_frames.frames.left in
    let one : AreFirst content.channels content.length left heard.frames = first_frames content.channels content.length heard c.in-Ok.input.rate c.in-Ok.input.sound left hears.2 c.in-Ok-list_frames.ensures.left in
    let first : AreFirst session.channels session.length left heard.frames =
    subst (λ n. AreFirst n session.length left heard.frames) (sym c.sized-session.ensures.channels) (subst (λ n. AreFirst content.channels n left heard.frames) (sym c.sized-session.ensures.length) one) in
    let calls : List ℕ = of_processors g.P.Processor.calls c.play_frames.result.0.processors.items in
    let scene = scene_under known content presets in
    let modes = modes_under known content presets in
    let answer = status_of c.play_frames.result.1 in
    let ends = c.play_frames.ensures.ends known presets opening.blocks.longest content heard same
    (recut_now _ _ known presets opening.blocks.longest content now sizes kept opening.band is) read first (sym hears.2.rate_is) in
    after _ (λ n. sum calls ≡ n) (outside g.F.Files g.Y.Say c.args.files.now c.play_frames.new.files c.args.say.now c.play_frames.new.say) Heard (input_step asked.input content.channels)
    (heard_steps scene modes asked content) heard answer hears.1
    (since _ (λ n. sum calls ≡ n) (store g.F.Files c.args.files.now) (outside g.F.Files g.Y.Say c.read_input.new.files c.play_frames.new.files c.args.say.now c.play_frames.new.say)
    (heard_steps scene modes asked content heard) answer c.in-Ok.ensures.only_read ends)

pub returns-clause-others : goal.returns-clause-others
returns-clause-others g c = λ other are. c.play_frames.ensures.others other are ∙ ap (λ held. told held other) c.in-Ok.ensures.only_read.held

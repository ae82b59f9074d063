use Rattle.std.proofs.Common.{◌≡◌, ◌∙◌, List, sum, refl, sym, ap, subst, arith}
use Rattle.std.specs.Prelude.{All}
use Rattle.vh_component.specs.declared.setup.Phase.TheVariants.{Processing as AtProcessing}
use Rattle.vh_component.specs.declared.states.Processing.{Processing}
use Rattle.vh_files.specs.Store.{told}
use Rattle.vh_session.specs.Names.{content_of}
use Rattle.vh_engine.specs.Staged.{holders_of}
use Rattle.vh_engine.specs.Kept.{scene_in}
use Rattle.vh_instance.specs.Band.{of_processors, of_openers}
use Rattle.vh_answers.specs.Outside.{store, outside, KeepsCounts}
use Rattle.vh_answers.specs.Steps.{NoMemory}
use Rattle.vh_answers.proofs.Stages.{ended, recounted}
use Rattle.vh_host.specs.Known.{scene_under, modes_under}
use Rattle.vh_host.specs.Commands.{begun_steps}
use Rattle.vh_host.specs.Named.{render_of, status_of}
use Rattle.vh_host.proofs.Outcomes.{read_counts, counts_since, left_so}
use Rattle.vh_host.proofs.Ready.{held, parts_of, not_called, nodes_there, modes_there, modes_are, is_score, playable, same_scene, still_held}
use Rattle.vh_host.proofs.Rendered.{played_ends, left_ends}
use Rattle.vh_host.proofs.render.render_band.Goals as goal
use Rattle.vh_host.proofs.render.render_band.Goals.{in-Ok-new, in-Err-new}

pub returns-in_default-clause-held : goal.returns-in_default-clause-held
returns-in_default-clause-held g c = held _ _ c.requires.band.0 c.requires.band.1 _ c.requires.band.2 c.args.session c.args.blocks.now.longest c.args.band c.requires.band.3

pub returns-in-Err-clause-held : goal.returns-in-Err-clause-held
returns-in-Err-clause-held g c = held _ _ c.requires.band.0 c.requires.band.1 _ c.requires.band.2 c.args.session c.args.blocks.now.longest c.args.band c.requires.band.3

pub returns-in-Err-clause-ends : goal.returns-in-Err-clause-ends
returns-in-Err-clause-ends g c = λ known presets same is.
    ended _ (outside g.F.Files g.Y.Say c.args.files.now c.read_material.new.files c.args.say.now c.args.say.now) (begun_steps known (render_of c.args.render.now) (content_of c.args.session) presets)
    c.in-Err.status c.in-Err.ensures.only_read.held refl (c.in-Err.ensures.stop (scene_under known (content_of c.args.session) presets) (modes_under known (content_of c.args.session) presets))

pub new-requires-2-clause-parts : goal.new-requires-2-clause-parts
new-requires-2-clause-parts g c = parts_of _ _ c.requires.band.0 c.requires.band.1 _ c.requires.band.2 c.args.session c.args.blocks.now.longest c.args.band c.requires.band.3

pub play-result-requires-clause-playable : goal.play-result-requires-clause-playable
play-result-requires-clause-playable g c =
    let gathered = c.in-Ok-read_material.ensures.gathered in
    let score = c.score-score.ensures in
    let stops = c.in-Ok-read_material.material.stops.ok.0 in
    playable _ _ c.requires.band.0 c.requires.band.1 _ c.requires.band.2 c.args.session c.args.blocks.now.longest c.args.band c.requires.band.3 c.len.result c.in-Ok-new.engine c.in-Ok-new.ensures.fresh
    (store g.F.Files c.args.files.now) (render_of c.args.render.now) gathered.0 c.args.blocks.now.sizes.items c.in-Ok-read_material.material c.score-score.result gathered.1
    (record { length = score.length; sound = score.sound; pattern = score.pattern; entries = score.entries; stops = score.stops; bits = score.bits; rate = score.rate })
    c.in-Ok.supplies.room c.requires.pattern c.args.blocks.now.each c.in-Ok-read_material.ensures.journal (omega (arith, c.len.ensures, stops)) c.in-Ok.ensures.room

pub play-result-requires-clause-calls : goal.play-result-requires-clause-calls
play-result-requires-clause-calls g c = not_called _ _ c.requires.band.0 c.requires.band.1 _ c.requires.band.2 c.args.session c.args.blocks.now.longest c.args.band c.requires.band.3 c.len.result c.in-Ok-new.engine c.in-Ok-new.ensures.fresh

pub play-result-requires-clause-modes : goal.play-result-requires-clause-modes
play-result-requires-clause-modes g c =
    modes_there _ _ c.requires.band.0 c.requires.band.1 _ c.requires.band.2 c.args.session c.args.blocks.now.longest c.args.band c.requires.band.3 c.len.result c.in-Ok-new.engine c.in-Ok-new.ensures.fresh
    c.in-Ok.supplies.modes.items (c.in-Ok.ensures.modes ∙ ap (of_openers g.C.Controller.mode) c.deref.ensures.value)

pub play-result-requires-clause-nodes : goal.play-result-requires-clause-nodes
play-result-requires-clause-nodes g c = nodes_there _ _ c.requires.band.0 c.requires.band.1 _ c.requires.band.2 c.args.session c.args.blocks.now.longest c.args.band c.requires.band.3 c.len.result c.in-Ok-new.engine c.in-Ok-new.ensures.fresh

pub play-result-requires-clause-scored : goal.play-result-requires-clause-scored
play-result-requires-clause-scored g c =
    let gathered = c.in-Ok-read_material.ensures.gathered in
    let score = c.score-score.ensures in (
      render_of c.args.render.now,
      gathered.0,
      is_score _ _ c.requires.band.0 c.requires.band.1 _ c.requires.band.2 c.args.session c.args.blocks.now.longest c.args.band c.requires.band.3 c.len.result c.in-Ok-new.engine c.in-Ok-new.ensures.fresh
          (store g.F.Files c.args.files.now) (render_of c.args.render.now) gathered.0 c.args.blocks.now.sizes.items c.in-Ok-read_material.material c.score-score.result gathered.1
          (record { length = score.length; sound = score.sound; pattern = score.pattern; entries = score.entries; stops = score.stops; bits = score.bits; rate = score.rate })
          c.args.render.now.output.now refl c.requires.sizes,
    )

pub returns-clause-held : goal.returns-clause-held
returns-clause-held g c =
    let same : holders_of c.match-new-2.parts.0.processors.items ≡ holders_of c.args.band.processors.items = elim c.match-new-2.branch [
      | in-Ok-new w ↦ ap (λ p. holders_of p.0.processors.items) w.parts-is ∙ w.finish.ensures.holders ∙ w.play-result.ensures.same.holders ∙ w.in-Ok-new.ensures.fresh.holders
      | in-Err-new w ↦ ap (λ p. holders_of p.0.processors.items) w.parts-is ∙ ap (λ p. holders_of p.processors.items) w.in-Err-new.ensures.back
    ] in
    still_held c.args.band c.match-new-2.parts.0.processors c.match-new-2.parts.0.first
    (held _ _ c.requires.band.0 c.requires.band.1 _ c.requires.band.2 c.args.session c.args.blocks.now.longest c.args.band c.requires.band.3) same

pub returns-clause-processing : goal.returns-clause-processing
returns-clause-processing g c = elim c.match-new-2.branch [
  | in-Ok-new w ↦ subst (λ (ps : List (Processing g.row.P.Denot)). All (λ phase. phase ≡ AtProcessing) (of_processors g.P.Life.phase ps)) (sym (ap (λ p. p.0.processors.items) w.parts-is)) w.finish.ensures.processing
  | in-Err-new w ↦ subst (λ (ps : List (Processing g.row.P.Denot)). All (λ phase. phase ≡ AtProcessing) (of_processors g.P.Life.phase ps))
      (sym (ap (λ p. p.0.processors.items) w.parts-is ∙ ap (λ p. p.processors.items) w.in-Err-new.ensures.back)) c.requires.band.3.components.phases
]

pub returns-clause-others : goal.returns-clause-others
returns-clause-others g c = λ other apart.
    let read = c.in-Ok-read_material.ensures.only_read.held in
    elim c.match-new-2.branch [
      | in-Ok-new w ↦ ap (λ f. told (g.F.Files.held f) other) w.files-is ∙ w.play-result.ensures.others other apart ∙ ap (λ h. told h other) read
      | in-Err-new w ↦ ap (λ f. told (g.F.Files.held f) other) w.files-is ∙ ap (λ h. told h other) read
    ]

pub returns-clause-counts : goal.returns-clause-counts
returns-clause-counts g c =
    let read = c.in-Ok-read_material.ensures.only_read in
    elim c.match-new-2.branch [
      | in-Ok-new w ↦ left_so g.F.Files g.Y.Say KeepsCounts c.args.files.now w.play-result.new.files c.match-new-2.files c.args.say.now w.play-result.new.say c.match-new-2.say w.files-is w.say-is
          (counts_since (store g.F.Files c.args.files.now) (outside g.F.Files g.Y.Say c.read_material.new.files w.play-result.new.files c.args.say.now w.play-result.new.say) read w.play-result.ensures.counts)
      | in-Err-new w ↦ left_so g.F.Files g.Y.Say KeepsCounts c.args.files.now c.read_material.new.files c.match-new-2.files c.args.say.now c.args.say.now c.match-new-2.say w.files-is w.say-is
          (read_counts (store g.F.Files c.args.files.now) (store g.F.Files c.read_material.new.files) _ _ read (omega arith))
    ]

pub returns-clause-ends : goal.returns-clause-ends
returns-clause-ends g c = λ known presets same is.
    let content = content_of c.args.session in
    let asked = render_of c.args.render.now in
    let steps = begun_steps known asked content presets in
    let first = store g.F.Files c.args.files.now in
    let read = c.in-Ok-read_material.ensures.only_read in
    let gathered = c.in-Ok-read_material.ensures.gathered in
    let score = c.score-score.ensures in
    elim c.match-new-2.branch [
      | in-Ok-new w ↦
          let engine = w.in-Ok-new.engine in
          let fresh = w.in-Ok-new.ensures.fresh in
          let o = outside g.F.Files g.Y.Say c.read_material.new.files w.play-result.new.files c.args.say.now w.play-result.new.say in
          let scored = is_score _ _ known presets _ same c.args.session c.args.blocks.now.longest c.args.band is c.len.result engine fresh
          first asked gathered.0 c.args.blocks.now.sizes.items c.in-Ok-read_material.material c.score-score.result gathered.1
          (record { length = score.length; sound = score.sound; pattern = score.pattern; entries = score.entries; stops = score.stops; bits = score.bits; rate = score.rate })
          c.args.render.now.output.now refl c.requires.sizes in
          let made = played_ends (λ calls. sum w.play-result.new.engine.calls ≡ calls) first o (scene_in g.P.Processor.class_of engine) (scene_under known content presets) c.in-Ok.supplies.modes.items (modes_under known content presets) asked engine.session content gathered.0
          c.score-score.result.entries.now c.in-Ok-read_material.material.entries.items (status_of w.play-result.result) read gathered.1.input gathered.1.entries fresh.session
          (same_scene _ _ known presets _ same c.args.session c.args.blocks.now.longest c.args.band is c.len.result engine fresh) (modes_are _ _ known presets _ same c.args.session c.args.blocks.now.longest c.args.band is c.in-Ok.supplies.modes.items (c.in-Ok.ensures.modes ∙ ap (of_openers g.C.Controller.mode) c.deref.ensures.value)) score.entries (w.play-result.ensures.ends asked gathered.0 scored) in
          left_ends g.F.Files g.Y.Say g.P.Processor.calls c.args.files.now w.play-result.new.files c.match-new-2.files c.args.say.now w.play-result.new.say c.match-new-2.say steps c.match-new-2.parts (w.finish.result, w.play-result.result)
          w.files-is w.say-is w.parts-is
          (recounted _ (λ calls. sum w.play-result.new.engine.calls ≡ calls) (λ calls. sum (of_processors g.P.Processor.calls w.finish.result.processors.items) ≡ calls)
          (outside g.F.Files g.Y.Say c.args.files.now w.play-result.new.files c.args.say.now w.play-result.new.say) steps (status_of w.play-result.result)
          (λ calls e. ap sum w.finish.ensures.calls_are ∙ e) made)
      | in-Err-new w ↦ left_ends g.F.Files g.Y.Say g.P.Processor.calls c.args.files.now c.read_material.new.files c.match-new-2.files c.args.say.now c.args.say.now c.match-new-2.say steps c.match-new-2.parts _
          w.files-is w.say-is w.parts-is (NoMemory refl read.held refl)
    ]

use Rattle.std.proofs.Common.{◌≡◌, ◌∙◌, ℕ, List, length, map, replicate, Option, None, refl, ap, subst}
use Rattle.std.specs.Option.{option_map}
use Rattle.vh_params.specs.Nodes.{nodes_of}
use Rattle.vh_plugin.specs.Counts.{raised_by}
use Rattle.vh_preset.specs.Contents.{Contents}
use Rattle.vh_preset.specs.Seen.{contents_of}
use Rattle.vh_preset.specs.declared.preset.Preset.{Preset}
use Rattle.vh_files.specs.Store.{SaysMore, SaysInPart}
use Rattle.vh_session.specs.Names.{content_of}
use Rattle.vh_instance.specs.Band.{of_processors}
use Rattle.vh_answers.specs.Outside.{Outside, voice}
use Rattle.vh_host.specs.Known.{Known}
use Rattle.vh_host.specs.Drawn.{IsDrawn}
use Rattle.vh_host.proofs.Outcomes.{band_ended, work_done}
use Rattle.vh_host.proofs.Sums.{drawn_under, made_plain, in_ok, on_it, all_said, part_said}
use Rattle.vh_host.proofs.generated.generated.Goals as goal

pub sum_band-band-requires-clause-band : goal.sum_band-band-requires-clause-band
sum_band-band-requires-clause-band g c =
    let known : Known = record { infos = g.S.PluginSet.infos c.args.set.now; code = g.S.PluginSet.code c.args.set.now; class_of = g.S.P.Processor.class_of } in
    let drawn = c.in-Ok.ensures in
    let none = ap (λ (ps : List (Option Preset)). map (option_map contents_of) ps) c.deref.ensures.value ∙ c.in-Ok-no_presets.ensures.none ∙ ap (λ (n : ℕ). replicate {A = Option Contents} n None) c.len.ensures.count in (
      known,
      refl,
      drawn_under _ known.infos c.args.number c.in-Ok.drawn c.classes.ensures drawn.session drawn.entries drawn.journal drawn.there drawn.sound,
      made_plain _ _ known (content_of c.in-Ok.drawn.session) c.in-Ok-new.blocks.longest _ c.in-Ok-make.band none c.in-Ok-make.ensures.band,
    )

pub returns-in_default-text-clause-objects : goal.returns-in_default-text-clause-objects
returns-in_default-text-clause-objects g c =
    band_ended (g.S.PluginSet.made c.args.set.now) (g.S.PluginSet.ended c.args.set.now) (g.S.PluginSet.made c.make.new.set) (g.S.PluginSet.ended c.make.new.set)
    (g.S.PluginSet.made c.tear_down.new.set) (g.S.PluginSet.ended c.tear_down.new.set) (length (nodes_of c.in-Ok.drawn.session.nodes))
    (length c.sum_band-band.result.0.components.items) (length c.sum_band-band.result.0.controllers.items)
    c.in-Ok-make.ensures.made c.in-Ok-make.ensures.kept c.tear_down.ensures.made c.tear_down.ensures.ended c.sum_band-band.ensures.components c.sum_band-band.ensures.controllers

pub returns-in-Ok-say_all-clause-ends : goal.returns-in-Ok-say_all-clause-ends
returns-in-Ok-say_all-clause-ends g c = λ files.
    let known : Known = record { infos = g.S.PluginSet.infos c.args.set.now; code = g.S.PluginSet.code c.args.set.now; class_of = g.S.P.Processor.class_of } in
    let drawn = c.in-Ok.ensures in
    let none = ap (λ (ps : List (Option Preset)). map (option_map contents_of) ps) c.deref.ensures.value ∙ c.in-Ok-no_presets.ensures.none ∙ ap (λ (n : ℕ). replicate {A = Option Contents} n None) c.len.ensures.count in
    let from : IsDrawn known.infos c.args.number c.in-Ok.drawn = drawn_under _ known.infos c.args.number c.in-Ok.drawn c.classes.ensures drawn.session drawn.entries drawn.journal drawn.there drawn.sound in
    let band = made_plain _ _ known (content_of c.in-Ok.drawn.session) c.in-Ok-new.blocks.longest _ c.in-Ok-make.band none c.in-Ok-make.ensures.band in
    let work : ℕ = g.S.PluginSet.work c.args.set.now in
    let work_now : ℕ = g.S.PluginSet.work c.tear_down.new.set in
    let o : Outside = record { old = files; new = files; said = voice g.Y.Say c.args.say.now; said_now = voice g.Y.Say c.say_all.new.say } in
    let text = in_ok c.sum_band-band.result.1 c.in-Ok-text.text _ c.in-Ok-text.is (c.sum_band-band.ensures.text known refl from band) in
    let calls = on_it c.sum_band-band.result.1 c.in-Ok-text.text _ c.in-Ok-text.is (c.sum_band-band.ensures.calls known refl from band) in
    all_said (λ calls. work_now ≡ raised_by calls work) o known c.args.number c.in-Ok-text.text.items text
    (subst (λ (bytes : List ℕ). SaysMore o.said.text o.said_now.text bytes) c.as_slice.ensures.value c.in-Ok-say_all.ensures.ok)
    (work_done c.raised_by_sum.ensures (of_processors g.S.P.Processor.calls c.sum_band-band.result.0.processors.items) _ work (g.S.PluginSet.work c.make.new.set) work_now c.requires.work c.in-Ok-make.ensures.work c.tear_down.ensures.work calls)

pub returns-in-Ok-say_all-clause-objects : goal.returns-in-Ok-say_all-clause-objects
returns-in-Ok-say_all-clause-objects g c =
    band_ended (g.S.PluginSet.made c.args.set.now) (g.S.PluginSet.ended c.args.set.now) (g.S.PluginSet.made c.make.new.set) (g.S.PluginSet.ended c.make.new.set)
    (g.S.PluginSet.made c.tear_down.new.set) (g.S.PluginSet.ended c.tear_down.new.set) (length (nodes_of c.in-Ok.drawn.session.nodes))
    (length c.sum_band-band.result.0.components.items) (length c.sum_band-band.result.0.controllers.items)
    c.in-Ok-make.ensures.made c.in-Ok-make.ensures.kept c.tear_down.ensures.made c.tear_down.ensures.ended c.sum_band-band.ensures.components c.sum_band-band.ensures.controllers

pub returns-in-Ok-say_all-clause-codes : goal.returns-in-Ok-say_all-clause-codes
returns-in-Ok-say_all-clause-codes g c = λ class. c.tear_down.ensures.codes class ∙ c.in-Ok-make.ensures.codes class

pub returns-clause-ends : goal.returns-clause-ends
returns-clause-ends g c = λ files.
    let known : Known = record { infos = g.S.PluginSet.infos c.args.set.now; code = g.S.PluginSet.code c.args.set.now; class_of = g.S.P.Processor.class_of } in
    let drawn = c.in-Ok.ensures in
    let none = ap (λ (ps : List (Option Preset)). map (option_map contents_of) ps) c.deref.ensures.value ∙ c.in-Ok-no_presets.ensures.none ∙ ap (λ (n : ℕ). replicate {A = Option Contents} n None) c.len.ensures.count in
    let from : IsDrawn known.infos c.args.number c.in-Ok.drawn = drawn_under _ known.infos c.args.number c.in-Ok.drawn c.classes.ensures drawn.session drawn.entries drawn.journal drawn.there drawn.sound in
    let band = made_plain _ _ known (content_of c.in-Ok.drawn.session) c.in-Ok-new.blocks.longest _ c.in-Ok-make.band none c.in-Ok-make.ensures.band in
    let work : ℕ = g.S.PluginSet.work c.args.set.now in
    let work_now : ℕ = g.S.PluginSet.work c.tear_down.new.set in
    let o : Outside = record { old = files; new = files; said = voice g.Y.Say c.args.say.now; said_now = voice g.Y.Say c.say_all.new.say } in
    let text = in_ok c.sum_band-band.result.1 c.in-Ok-text.text _ c.in-Ok-text.is (c.sum_band-band.ensures.text known refl from band) in
    part_said (λ calls. work_now ≡ raised_by calls work) o known c.args.number c.in-Ok-text.text.items text
    (subst (λ (bytes : List ℕ). SaysInPart o.said.text o.said_now.text bytes) c.as_slice.ensures.value c.in-Err.ensures.err) c.in-Err.ensures.cause.failed

pub returns-clause-objects : goal.returns-clause-objects
returns-clause-objects g c =
    band_ended (g.S.PluginSet.made c.args.set.now) (g.S.PluginSet.ended c.args.set.now) (g.S.PluginSet.made c.make.new.set) (g.S.PluginSet.ended c.make.new.set)
    (g.S.PluginSet.made c.tear_down.new.set) (g.S.PluginSet.ended c.tear_down.new.set) (length (nodes_of c.in-Ok.drawn.session.nodes))
    (length c.sum_band-band.result.0.components.items) (length c.sum_band-band.result.0.controllers.items)
    c.in-Ok-make.ensures.made c.in-Ok-make.ensures.kept c.tear_down.ensures.made c.tear_down.ensures.ended c.sum_band-band.ensures.components c.sum_band-band.ensures.controllers

pub returns-clause-codes : goal.returns-clause-codes
returns-clause-codes g c = λ class. c.tear_down.ensures.codes class ∙ c.in-Ok-make.ensures.codes class

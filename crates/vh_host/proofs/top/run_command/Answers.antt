use Rattle.std.proofs.Common.{◌≡◌, ℕ, List, Some, sym, ap, subst, arith}
use Rattle.vh_params.specs.declared.class.ClassInfo.{ClassInfo}
use Rattle.vh_plugin.specs.Counts.{raised_by}
use Rattle.vh_answers.specs.Outside.{outside, store, voice, ChangesOnly}
use Rattle.vh_answers.specs.Steps.{EndsUnsaid}
use Rattle.vh_answers.proofs.Stages.{recounted}
use Rattle.vh_host.specs.declared.words.Command.{Command as Read}
use Rattle.vh_host.specs.Known.{Known}
use Rattle.vh_host.specs.Commands.{command_steps, check_steps, show_steps, outputs_of}
use Rattle.vh_host.specs.Named.{command_of, status_of, IsSized}
use Rattle.vh_host.proofs.Outcomes.{only_one, no_work}
use Rattle.vh_host.proofs.top.run_command.Goals as goal

pub render-requires-clause-size : goal.render-requires-clause-size
render-requires-clause-size g c κs within = subst (λ (command : Read). IsSized (command_of command)) c.in-Render.is c.requires.sized

-- src/top.rt:22:1
pub returns-in-Render-clause-ends : goal.returns-in-Render-clause-ends
returns-in-Render-clause-ends g c =
    subst (λ (command : Read). EndsUnsaid (λ calls. g.S.PluginSet.work c.render.new.set ≡ raised_by calls (g.S.PluginSet.work c.args.set.now)) (outside g.F.Files g.Y.Say c.args.files.now c.render.new.files c.args.say.now c.render.new.say)
    (command_steps (record { infos = g.S.PluginSet.infos c.args.set.now; code = g.S.PluginSet.code c.args.set.now; class_of = g.S.P.Processor.class_of }) (command_of command)) (status_of c.render.result))
    (sym c.in-Render.is) c.render.ensures.ends

-- src/top.rt:22:1
pub returns-in-Render-clause-others : goal.returns-in-Render-clause-others
returns-in-Render-clause-others g c =
    subst (λ (command : Read). ChangesOnly (outputs_of (Some (command_of command))) (g.F.Files.held c.args.files.now) (g.F.Files.held c.render.new.files)) (sym c.in-Render.is)
    (only_one (g.F.Files.held c.args.files.now) (g.F.Files.held c.render.new.files) c.in-Render.files_asked.output.now c.render.ensures.others)

-- src/top.rt:22:1
pub returns-in-Check-clause-ends : goal.returns-in-Check-clause-ends
returns-in-Check-clause-ends g c =
    let o = outside g.F.Files g.Y.Say c.args.files.now c.check.new.files c.args.say.now c.check.new.say in
    let work : ℕ = g.S.PluginSet.work c.args.set.now in
    subst (λ (command : Read). EndsUnsaid (λ calls. g.S.PluginSet.work c.args.set.now ≡ raised_by calls (g.S.PluginSet.work c.args.set.now)) (outside g.F.Files g.Y.Say c.args.files.now c.check.new.files c.args.say.now c.check.new.say)
    (command_steps (record { infos = g.S.PluginSet.infos c.args.set.now; code = g.S.PluginSet.code c.args.set.now; class_of = g.S.P.Processor.class_of }) (command_of command)) (status_of c.check.result))
    (sym c.in-Check.is)
    (recounted _ (λ calls. calls ≡ 0) (λ calls. work ≡ raised_by calls work) o (check_steps (g.S.PluginSet.infos c.args.set.now) c.in-Check.name.now) (status_of c.check.result)
    (λ calls none. no_work calls work (omega (arith, c.work.type_inv, c.work.ensures)) none)
    (subst (λ (infos : List ClassInfo). EndsUnsaid (λ calls. calls ≡ 0) o (check_steps infos c.in-Check.name.now) (status_of c.check.result)) c.classes.ensures c.check.ensures.ends))

pub returns-in-PresetShow-clause-ends : goal.returns-in-PresetShow-clause-ends
returns-in-PresetShow-clause-ends g c =
    let o = outside g.F.Files g.Y.Say c.args.files.now c.preset_show.new.files c.args.say.now c.preset_show.new.say in
    let known : Known = record { infos = g.S.PluginSet.infos c.args.set.now; code = g.S.PluginSet.code c.args.set.now; class_of = g.S.P.Processor.class_of } in
    let work : ℕ = g.S.PluginSet.work c.args.set.now in
    subst (λ (command : Read). EndsUnsaid (λ calls. work ≡ raised_by calls work) o (command_steps known (command_of command)) (status_of c.preset_show.result)) (sym c.in-PresetShow.is)
    (recounted _ (λ calls. calls ≡ 0) (λ calls. work ≡ raised_by calls work) o (show_steps c.in-PresetShow.name.now) (status_of c.preset_show.result)
    (λ calls none. no_work calls work (omega (arith, c.work.type_inv, c.work.ensures)) none) c.preset_show.ensures.ends)

pub returns-in-PresetSave-clause-ends : goal.returns-in-PresetSave-clause-ends
returns-in-PresetSave-clause-ends g c =
    let o = outside g.F.Files g.Y.Say c.args.files.now c.preset_save.new.files c.args.say.now c.args.say.now in
    let known : Known = record { infos = g.S.PluginSet.infos c.args.set.now; code = g.S.PluginSet.code c.args.set.now; class_of = g.S.P.Processor.class_of } in
    subst (λ (command : Read). EndsUnsaid (λ calls. g.S.PluginSet.work c.preset_save.new.set ≡ raised_by calls (g.S.PluginSet.work c.args.set.now)) o (command_steps known (command_of command)) (status_of c.preset_save.result)) (sym c.in-PresetSave.is)
    (c.preset_save.ensures.ends (voice g.Y.Say c.args.say.now))

pub returns-in-PresetSave-clause-others : goal.returns-in-PresetSave-clause-others
returns-in-PresetSave-clause-others g c =
    subst (λ (command : Read). ChangesOnly (outputs_of (Some (command_of command))) (g.F.Files.held c.args.files.now) (g.F.Files.held c.preset_save.new.files)) (sym c.in-PresetSave.is)
    (only_one (g.F.Files.held c.args.files.now) (g.F.Files.held c.preset_save.new.files) c.in-PresetSave.asked.output.now c.preset_save.ensures.others)

pub generated-requires-clause-classes : goal.generated-requires-clause-classes
generated-requires-clause-classes g c κs within = c.requires.serves c.in-Gen.number (ap (λ (command : Read). Some (command_of command)) c.in-Gen.is)

pub returns-in-Gen-clause-ends : goal.returns-in-Gen-clause-ends
returns-in-Gen-clause-ends g c =
    let o = outside g.F.Files g.Y.Say c.args.files.now c.args.files.now c.args.say.now c.generated.new.say in
    let known : Known = record { infos = g.S.PluginSet.infos c.args.set.now; code = g.S.PluginSet.code c.args.set.now; class_of = g.S.P.Processor.class_of } in
    subst (λ (command : Read). EndsUnsaid (λ calls. g.S.PluginSet.work c.generated.new.set ≡ raised_by calls (g.S.PluginSet.work c.args.set.now)) o (command_steps known (command_of command)) (status_of c.generated.result)) (sym c.in-Gen.is)
    (c.generated.ensures.ends (store g.F.Files c.args.files.now))

use Rattle.std.proofs.Common.{◌≡◌, ◌∙◌, ℕ, List, [], ◌∷◌, length, refl, sym, subst}
use Rattle.vh_params.specs.Nodes.{nodes_of}
use Rattle.vh_plugin.specs.Counts.{raised_by}
use Rattle.vh_session.specs.Content.{Content}
use Rattle.vh_session.specs.Names.{content_of}
use Rattle.vh_instance.specs.Plan.{Plan}
use Rattle.vh_instance.specs.Band.{of_processors}
use Rattle.vh_answers.specs.declared.status.Place.TheVariants.{Output as OutputPlace}
use Rattle.vh_answers.specs.Outside.{Outside, store}
use Rattle.vh_answers.specs.Steps.{Last, EndsUnsaid}
use Rattle.vh_answers.proofs.Stages.{after, since, ended, first_halted, recounted}
use Rattle.vh_host.specs.Known.{Known, plan_of}
use Rattle.vh_host.specs.Commands.{named_step, saved_steps, named_steps, save_steps}
use Rattle.vh_host.specs.Named.{save_of, status_of}
use Rattle.vh_host.proofs.Opened.{opened_ends, opened_halted}
use Rattle.vh_host.proofs.Outcomes.{elsewhere_since, band_ended, work_done}
use Rattle.vh_host.proofs.Saved.{none_called}
use Rattle.vh_host.proofs.preset_save.preset_save.Goals as goal

pub returns-in-Err-clause-ends : goal.returns-in-Err-clause-ends
returns-in-Err-clause-ends g c = λ said.
    let known : Known = record { infos = g.S.PluginSet.infos c.args.set.now; code = g.S.PluginSet.code c.args.set.now; class_of = g.S.P.Processor.class_of } in
    let save = save_of c.args.save.now in
    let o : Outside = record { old = store g.F.Files c.args.files.now; new = store g.F.Files c.open_session.new.files; said = said; said_now = said } in
    ended _ o (save_steps known save) c.in-Err.status c.in-Err.ensures.only_read.held refl (opened_halted o.old o.new known save.session (named_steps known save) c.in-Err.status c.in-Err.ensures.stop)

pub returns-clause-ends : goal.returns-clause-ends
returns-clause-ends g c = λ said.
    let known : Known = record { infos = g.S.PluginSet.infos c.args.set.now; code = g.S.PluginSet.code c.args.set.now; class_of = g.S.P.Processor.class_of } in
    let save = save_of c.args.save.now in
    let opened = c.in-Ok.ensures.opened in
    let content : Content = content_of c.in-Ok.opening.session in
    let work : ℕ = g.S.PluginSet.work c.args.set.now in
    let work_now : ℕ = g.S.PluginSet.work c.tear_down.new.set in
    let o : Outside = record { old = store g.F.Files c.args.files.now; new = store g.F.Files c.open_session.new.files; said = said; said_now = said } in
    opened_ends _ (λ calls. work_now ≡ raised_by calls work) o known save.session content opened.0 (named_steps known save) c.in-Err-text.status opened.1
    (ended _ o (named_steps known save content opened.0) c.in-Err-text.status c.in-Ok.ensures.only_read.held refl
    (first_halted o.old o.new ℕ (named_step content.nodes save.node) (saved_steps save.output (plan_of known content opened.0 0)) c.in-Err-text.status (c.in-Err-text.ensures.stop o.old o.new)))

pub returns-in-Ok-text-clause-ends : goal.returns-in-Ok-text-clause-ends
returns-in-Ok-text-clause-ends g c = λ said.
    let known : Known = record { infos = g.S.PluginSet.infos c.args.set.now; code = g.S.PluginSet.code c.args.set.now; class_of = g.S.P.Processor.class_of } in
    let save = save_of c.args.save.now in
    let opened = c.in-Ok.ensures.opened in
    let content : Content = content_of c.in-Ok.opening.session in
    let plan : Plan = plan_of known content opened.0 0 in
    let text = c.in-Ok-text.ensures.text in
    let node : ℕ = text.0 in
    let answer = status_of c.write_file.result in
    let work : ℕ = g.S.PluginSet.work c.args.set.now in
    let work_now : ℕ = g.S.PluginSet.work c.tear_down.new.set in
    let calls_of : List ℕ = of_processors g.S.P.Processor.calls c.in-Ok.opening.band.processors.items in
    let first = store g.F.Files c.args.files.now in
    let mid = store g.F.Files c.open_session.new.files in
    let new = store g.F.Files c.write_file.new.files in
    let wrote : Outside = record { old = mid; new = new; said = said; said_now = said } in
    let all : Outside = record { old = first; new = new; said = said; said_now = said } in
    let bytes_are = c.as_slice.ensures.value ∙ text.2 (plan_of known content opened.0 c.in-Ok.opening.blocks.longest) (sym (c.classes.ensures ∙ c.in-Ok.ensures.infos)) refl refl opened.2 in
    let saved : EndsUnsaid (λ calls. calls ≡ 0) wrote (saved_steps save.output plan node) answer =
    subst (λ (bytes : List ℕ). EndsUnsaid (λ calls. calls ≡ 0) wrote (Last (record { place = OutputPlace; name = save.output; apart = []; text = bytes } ∷ []) [] 0) answer) bytes_are (c.write_file.ensures.ends said) in
    let counted : EndsUnsaid (λ calls. work_now ≡ raised_by calls work) wrote (saved_steps save.output plan node) answer =
    recounted _ (λ calls. calls ≡ 0) (λ calls. work_now ≡ raised_by calls work) wrote (saved_steps save.output plan node) answer
    (λ calls none. work_done c.raised_by_sum.ensures calls_of calls work (g.S.PluginSet.work c.open_session.new.set) work_now c.requires c.in-Ok.ensures.work c.tear_down.ensures.work
    (none_called calls_of opened.2.components.calls ∙ sym none)) saved in
    opened_ends _ (λ calls. work_now ≡ raised_by calls work) all known save.session content opened.0 (named_steps known save) answer opened.1
    (after _ (λ calls. work_now ≡ raised_by calls work) all ℕ (named_step content.nodes save.node) (saved_steps save.output plan) node answer text.1
    (since _ (λ calls. work_now ≡ raised_by calls work) first wrote (saved_steps save.output plan node) answer c.in-Ok.ensures.only_read counted))

pub returns-in-Ok-text-clause-others : goal.returns-in-Ok-text-clause-others
returns-in-Ok-text-clause-others g c =
    elsewhere_since (store g.F.Files c.args.files.now) (store g.F.Files c.open_session.new.files) (store g.F.Files c.write_file.new.files) c.args.save.now.output.now
    c.in-Ok.ensures.only_read c.write_file.ensures.others

pub returns-in-Ok-text-clause-objects : goal.returns-in-Ok-text-clause-objects
returns-in-Ok-text-clause-objects g c =
    band_ended (g.S.PluginSet.made c.args.set.now) (g.S.PluginSet.ended c.args.set.now) (g.S.PluginSet.made c.open_session.new.set) (g.S.PluginSet.ended c.open_session.new.set)
    (g.S.PluginSet.made c.tear_down.new.set) (g.S.PluginSet.ended c.tear_down.new.set) (length (nodes_of c.in-Ok.opening.session.nodes))
    (length c.in-Ok.opening.band.components.items) (length c.in-Ok.opening.band.controllers.items)
    c.in-Ok.ensures.made c.in-Ok.ensures.kept c.tear_down.ensures.made c.tear_down.ensures.ended c.in-Ok.ensures.opened.2.components.size c.in-Ok.ensures.opened.2.controllers.size

pub returns-clause-objects : goal.returns-clause-objects
returns-clause-objects g c =
    band_ended (g.S.PluginSet.made c.args.set.now) (g.S.PluginSet.ended c.args.set.now) (g.S.PluginSet.made c.open_session.new.set) (g.S.PluginSet.ended c.open_session.new.set)
    (g.S.PluginSet.made c.tear_down.new.set) (g.S.PluginSet.ended c.tear_down.new.set) (length (nodes_of c.in-Ok.opening.session.nodes))
    (length c.in-Ok.opening.band.components.items) (length c.in-Ok.opening.band.controllers.items)
    c.in-Ok.ensures.made c.in-Ok.ensures.kept c.tear_down.ensures.made c.tear_down.ensures.ended c.in-Ok.ensures.opened.2.components.size c.in-Ok.ensures.opened.2.controllers.size

use Rattle.std.proofs.Common.{◌≡◌, ◌∙◌, ℕ, List, [], length, map, refl, ap, subst}
use Rattle.vh_cut.specs.Cut.{pieces_of}
use Rattle.vh_files.specs.Store.{told, SaysMore, SaysInPart}
use Rattle.vh_session.specs.Names.{content_of}
use Rattle.vh_answers.specs.declared.report.EditorCounts.{EditorCounts}
use Rattle.vh_answers.specs.Outside.{outside}
use Rattle.vh_answers.specs.Report.{report_text, answer_of}
use Rattle.vh_live_host.specs.Waves.{wave_text}
use Rattle.vh_live_host.proofs.Published.{output_cut, journal_cut, report_cut, all_done, changes_two, changes_first, part_then, has_then, rose_then}
use Rattle.vh_live_host.proofs.publish.publish.Goals as goal

pub returns-in_default-clause-ends : goal.returns-in_default-clause-ends
returns-in_default-clause-ends g c = λ calls.
    let live = c.args.live.now in
    output_cut _ (outside g.F.Files g.Y.Say c.args.files.now c.write.new.files c.args.say.now c.args.say.now) live.input.now live.output.now live.journal.now (wave_text c.args.wave.now) c.args.results.now.journal.items _ calls
    c.in_default.ensures.part c.write.ensures.others c.in_default.ensures.rose refl

pub returns-in_default-clause-others : goal.returns-in_default-clause-others
returns-in_default-clause-others g c =
    changes_first (g.F.Files.held c.args.files.now) (g.F.Files.held c.write.new.files) c.args.live.now.output.now c.args.live.now.journal.now c.write.ensures.others

pub returns-in_default-write_file-clause-ends : goal.returns-in_default-write_file-clause-ends
returns-in_default-write_file-clause-ends g c = λ calls.
    let live = c.args.live.now in
    let held = g.F.Files.held c.write.new.files in
    let new = g.F.Files.held c.write_file.new.files in
    journal_cut _ (outside g.F.Files g.Y.Say c.args.files.now c.write_file.new.files c.args.say.now c.args.say.now) live.input.now live.output.now live.journal.now (wave_text c.args.wave.now) c.args.results.now.journal.items _ calls
    held c.in-Ok.ensures.whole c.write.ensures.others c.write_file.ensures.others
    (part_then (g.F.Files.complete c.args.files.now) (g.F.Files.complete c.write.new.files) held new (told new live.journal.now) c.deref.result.now c.args.results.now.journal.items c.write.ensures.complete c.deref.ensures.value c.in_default-write_file.ensures.part)
    (rose_then (g.F.Files.write_faults c.args.files.now) (g.F.Files.write_faults c.write.new.files) (g.F.Files.write_faults c.write_file.new.files) c.write.ensures.later c.in_default-write_file.ensures.rose) refl

pub returns-in_default-write_file-clause-others : goal.returns-in_default-write_file-clause-others
returns-in_default-write_file-clause-others g c =
    changes_two (g.F.Files.held c.args.files.now) (g.F.Files.held c.write.new.files) (g.F.Files.held c.write_file.new.files) c.args.live.now.output.now c.args.live.now.journal.now c.write.ensures.others c.write_file.ensures.others

pub returns-in-Ok-say-clause-ends : goal.returns-in-Ok-say-clause-ends
returns-in-Ok-say-clause-ends g c = λ calls.
    let live = c.args.live.now in
    let wave = c.args.wave.now in
    let results = c.args.results.now in
    let content = content_of c.args.session.now in
    let pieces = length (pieces_of wave.frames wave.sizes.now []) in
    let given = map answer_of c.args.replies.now in
    let new = g.F.Files.held c.write_file.new.files in
    let report = ap (λ (values : List ℕ). report_text content values c.deref-3.result.now c.in-Ok.pieces given c.deref-4.result.now) c.deref-2.ensures.value
    ∙ ap (λ (modes : List ℕ). report_text content results.values.items modes c.in-Ok.pieces given c.deref-4.result.now) c.deref-3.ensures.value
    ∙ ap (λ (n : ℕ). report_text content results.values.items results.modes.items n given c.deref-4.result.now) c.in-Ok.ensures.pieces
    ∙ ap (λ (editors : List EditorCounts). report_text content results.values.items results.modes.items pieces given editors) c.deref-4.ensures.value in
    all_done (λ n. n ≡ calls) (outside g.F.Files g.Y.Say c.args.files.now c.write_file.new.files c.args.say.now c.say.new.say) live.input.now live.output.now live.journal.now (wave_text wave) results.journal.items _ calls
    (g.F.Files.held c.write.new.files) c.in-Ok.ensures.whole c.write.ensures.others c.write_file.ensures.others
    (has_then (g.F.Files.complete c.args.files.now) (g.F.Files.complete c.write.new.files) (told new live.journal.now) c.deref.result.now results.journal.items c.write.ensures.complete c.deref.ensures.value c.in-Ok-write_file.ensures.whole)
    (subst (λ t. SaysMore (g.Y.Say.said c.args.say.now) (g.Y.Say.said c.say.new.say) t) report c.in-Ok-say.ensures.whole) refl

pub returns-in-Ok-say-clause-others : goal.returns-in-Ok-say-clause-others
returns-in-Ok-say-clause-others g c =
    changes_two (g.F.Files.held c.args.files.now) (g.F.Files.held c.write.new.files) (g.F.Files.held c.write_file.new.files) c.args.live.now.output.now c.args.live.now.journal.now c.write.ensures.others c.write_file.ensures.others

pub returns-in-Err-clause-ends : goal.returns-in-Err-clause-ends
returns-in-Err-clause-ends g c = λ calls.
    let live = c.args.live.now in
    let wave = c.args.wave.now in
    let results = c.args.results.now in
    let content = content_of c.args.session.now in
    let pieces = length (pieces_of wave.frames wave.sizes.now []) in
    let given = map answer_of c.args.replies.now in
    let new = g.F.Files.held c.write_file.new.files in
    let report = ap (λ (values : List ℕ). report_text content values c.deref-3.result.now c.in-Ok.pieces given c.deref-4.result.now) c.deref-2.ensures.value
    ∙ ap (λ (modes : List ℕ). report_text content results.values.items modes c.in-Ok.pieces given c.deref-4.result.now) c.deref-3.ensures.value
    ∙ ap (λ (n : ℕ). report_text content results.values.items results.modes.items n given c.deref-4.result.now) c.in-Ok.ensures.pieces
    ∙ ap (λ (editors : List EditorCounts). report_text content results.values.items results.modes.items pieces given editors) c.deref-4.ensures.value in
    report_cut (λ n. n ≡ calls) (outside g.F.Files g.Y.Say c.args.files.now c.write_file.new.files c.args.say.now c.say.new.say) live.input.now live.output.now live.journal.now (wave_text wave) results.journal.items _ calls
    (g.F.Files.held c.write.new.files) c.in-Ok.ensures.whole c.write.ensures.others c.write_file.ensures.others
    (has_then (g.F.Files.complete c.args.files.now) (g.F.Files.complete c.write.new.files) (told new live.journal.now) c.deref.result.now results.journal.items c.write.ensures.complete c.deref.ensures.value c.in-Ok-write_file.ensures.whole)
    (subst (λ t. SaysInPart (g.Y.Say.said c.args.say.now) (g.Y.Say.said c.say.new.say) t) report c.in-Err.ensures.part) c.in-Err.ensures.cause.failed

pub returns-in-Err-clause-others : goal.returns-in-Err-clause-others
returns-in-Err-clause-others g c =
    changes_two (g.F.Files.held c.args.files.now) (g.F.Files.held c.write.new.files) (g.F.Files.held c.write_file.new.files) c.args.live.now.output.now c.args.live.now.journal.now c.write.ensures.others c.write_file.ensures.others

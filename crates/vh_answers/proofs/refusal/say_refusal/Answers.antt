use Rattle.std.proofs.Common.{◌∷◌, [], ap, sym, subst}
use Rattle.std.specs.Prelude.{codes}
use Rattle.std.specs.Fmt.{decimal}
use Rattle.vh_text.specs.Written.{line_text}
use Rattle.vh_answers.specs.declared.status.Status.{Status}
use Rattle.vh_answers.specs.declared.status.Status.TheVariants as status
use Rattle.vh_answers.specs.Outside.{voice}
use Rattle.vh_answers.specs.Refusals.{SaysOf}
use Rattle.vh_answers.proofs.Told.{says_line, told_as}
use Rattle.vh_answers.proofs.refusal.say_refusal.Goals as goal

pub returns-in-Usage-clause-said : goal.returns-in-Usage-clause-said
returns-in-Usage-clause-said g c = says_line c.say_usage.result c.args.status.now status.Usage _ _ c.in-Usage.is tt c.say_usage.ensures

pub returns-in-SessionRefused-clause-said : goal.returns-in-SessionRefused-clause-said
returns-in-SessionRefused-clause-said g c =
    let fault = c.in-SessionRefused.fault in
    let kind = ap (λ n. line_text (codes "refused" ∷ codes "session" ∷ decimal fault.line ∷ decimal n ∷ [])) c.number.ensures in
    says_line c.say_fault.result c.args.status.now (status.SessionRefused fault) _ _ c.in-SessionRefused.is tt (told_as _ _ _ _ c.say_fault.result kind c.say_fault.ensures)

pub returns-in-WavRefused-clause-said : goal.returns-in-WavRefused-clause-said
returns-in-WavRefused-clause-said g c = says_line c.say_wav.result c.args.status.now (status.WavRefused c.in-WavRefused.fault) _ _ c.in-WavRefused.is tt c.say_wav.ensures

pub returns-in-PresetRefused-clause-said : goal.returns-in-PresetRefused-clause-said
returns-in-PresetRefused-clause-said g c =
    says_line c.say_preset.result c.args.status.now (status.PresetRefused c.in-PresetRefused.node c.in-PresetRefused.kind) _ _ c.in-PresetRefused.is tt c.say_preset.ensures

pub returns-in-JournalRefused-clause-said : goal.returns-in-JournalRefused-clause-said
returns-in-JournalRefused-clause-said g c =
    let fault = c.in-JournalRefused.fault in
    let kind = ap (λ n. line_text (codes "refused" ∷ codes "journal" ∷ decimal fault.line ∷ decimal n ∷ [])) c.number-in-JournalRefused.ensures in
    says_line c.say_fault-in-JournalRefused.result c.args.status.now (status.JournalRefused fault) _ _ c.in-JournalRefused.is tt
    (told_as _ _ _ _ c.say_fault-in-JournalRefused.result kind c.say_fault-in-JournalRefused.ensures)

pub returns-in-ReadFault-clause-said : goal.returns-in-ReadFault-clause-said
returns-in-ReadFault-clause-said g c = says_line c.say_failed.result c.args.status.now (status.ReadFault c.in-ReadFault.place) _ _ c.in-ReadFault.is tt c.say_failed.ensures

pub returns-in-WriteFault-clause-said : goal.returns-in-WriteFault-clause-said
returns-in-WriteFault-clause-said g c = subst (λ (s : Status). SaysOf s (voice g.Y.Say c.args.say.now) (voice g.Y.Say c.say_unwritten.new.say)) (sym c.in-WriteFault.is) c.say_unwritten.ensures.said

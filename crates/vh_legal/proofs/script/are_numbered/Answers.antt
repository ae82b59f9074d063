use Rattle.std.proofs.Common.{◌≡◌, ◌∙◌, ◌<◌, length, refl, sym, ap, arith}
use Rattle.std.proofs.lemmas.Bool.{false≢true, both_ways}
use Rattle.std.proofs.lemmas.List.{get_or_default}
use Rattle.vh_params.specs.declared.command.Command.{Command}
use Rattle.vh_params.specs.declared.command.Command.TheVariants.{Begin}
use Rattle.vh_journal.specs.declared.entry.Entry.{Entry}
use Rattle.vh_legal.proofs.Numbered.{as_many, number_at, all_numbered, numbers_more}
use Rattle.vh_legal.proofs.script.are_numbered.Goals as goal
use Rattle.vh_legal.proofs.script.are_numbered.Goals.{then-entries-i-via-then-entries-i, then-entries-i-via-else-entries-i+then-not-are_same}

pub returns-then-entries-commands : goal.returns-then-entries-commands
returns-then-entries-commands c =
    (λ no. absurd (false≢true no), λ is. absurd (let long = as_many c.args.entries.now c.args.commands.now is in omega (arith, long, c.if-entries-commands.true)))

pub returns : goal.returns
returns c =
    (λ yes. all_numbered c.args.entries.now c.args.commands.now c.if-entries-commands.false (λ k d e lt. c.loop-i.invariant k d e (omega (arith, lt, c.loop-i-test.false))), λ is. refl)

pub returns-then-entries-i : goal.returns-then-entries-i
returns-then-entries-i c =
    let entries = c.args.entries.now in
    let commands = c.args.commands.now in
    let i = c.loop-i.i in
    let within : i < length entries = omega (arith, c.loop-i-test.true) in (
      λ no. absurd (false≢true no),
      λ is. absurd (elim c.then-entries-i.branch [
        | then-entries-i-via-then-entries-i w ↦ w.if-entries-i.true (number_at entries commands i c.index-entries-i.result (Begin 0 0) is within).0
        | then-entries-i-via-else-entries-i+then-not-are_same w ↦
            let same = (number_at entries commands i w.index-entries-i-else-entries-i.result w.index-commands-i.result is within).1 in
            both_ways w.are_same.result w.if-not-are_same.true (w.are_same.ensures.1 (same ∙ sym w.index-commands-i.is))
      ]),
    )

pub loop-i-preserved : goal.loop-i-preserved
loop-i-preserved c =
    let entries = c.args.entries.now in
    let commands = c.args.commands.now in
    let i = c.loop-i.i in
    let one = c.index-entries-i-else-entries-i.result in
    let within : i < length entries = omega (arith, c.loop-i-test.true) in
    let number = ap (λ (e : Entry). e.seq) (get_or_default entries i one c.index-entries-i.result within) ∙ c.if-entries-i.false in
    numbers_more entries commands i one c.index-commands-i.result within (omega (arith, within, c.if-entries-commands.false)) number (c.are_same.ensures.0 c.if-not-are_same.false ∙ c.index-commands-i.is) c.loop-i.invariant

use Rattle.std.proofs.Common.{◌≡◌, List, false, refl, subst, sym, ◌∙◌, arith}
use Rattle.std.specs.Prelude.{Option, Some, None}
use Rattle.std.specs.Option.{is_some}
use Rattle.std.proofs.lemmas.Bool.{true≢false}
use Rattle.std.proofs.lemmas.List.{take_all}
use Rattle.std.proofs.lemmas.List.Elements.{All-more}
use Rattle.vh_journal.specs.declared.entry.Entry.{Entry}
use Rattle.vh_meaning.specs.Edits.{Edit, edit_in}
use Rattle.vh_engine.specs.Between.{AreElsewhere}
use Rattle.vh_engine.proofs.send.is_edited.Goals as goal

none_since : (edit : Option Edit) → is_some edit ≡ false → edit ≡ None
none_since None is = refl
none_since (Some edit) is = absurd (true≢false is)

pub loop-entry-preserved : goal.loop-entry-preserved
loop-entry-preserved c =
    let entries = c.args.entries.now in
    let none : edit_in c.args.node c.args.id c.entry-item.result ≡ None = none_since (edit_in c.args.node c.args.id c.entry-item.result) (sym c.is_edit.ensures ∙ c.if-is_edit.false) in
    All-more (λ (entry : Entry). edit_in c.args.node c.args.id entry ≡ None) entries c.loop-entry.entry-index c.entry-item.result c.loop-entry-test.true c.loop-entry.invariant
    (subst (λ (entry : Entry). edit_in c.args.node c.args.id entry ≡ None) c.entry-item.is none)

pub returns : goal.returns
returns c = λ is.
    subst (λ (entries : List Entry). AreElsewhere c.args.node c.args.id entries) (take_all c.loop-entry.entry-index c.args.entries.now (omega (arith, c.loop-entry-test.false))) c.loop-entry.invariant

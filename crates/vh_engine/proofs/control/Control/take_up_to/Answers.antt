use Rattle.std.proofs.Common.{◌<◌, ◌≤◌, get_or, subst}
use Rattle.std.proofs.lemmas.List.{get_or_default}
use Rattle.vh_journal.specs.declared.entry.Entry.{Entry}
use Rattle.vh_engine.proofs.Taken.{taking_more, taken_end}
use Rattle.vh_engine.proofs.control.Control.take_up_to.Goals as goal

pub loop-place-preserved : goal.loop-place-preserved
loop-place-preserved c =
    let entries = c.args.span.now.entries.now in
    let place = c.loop-place.place in
    let tested = c.index-span-place.result in
    let entry = get_or entries place c.index-span-place-in-loop-place.result in
    let inside = c.loop-place-test.true in
    let ensures = c.take.ensures in
    taking_more c.args.span.now c.args.node c.args.place c.args.sample c.args.self.now place c.loop-place.self entry c.take.new.self c.loop-place.invariant inside
    (get_or_default entries place c.index-span-place-in-loop-place.result entry inside)
    (subst (λ (e : Entry). e.sample ≤ c.args.sample) (get_or_default entries place tested c.index-span-place-in-loop-place.result inside) c.if-span-place.true)
    ensures.touch ensures.same ensures.sent ensures.within

pub returns-else-span-place-clause-up_to : goal.returns-else-span-place-clause-up_to
returns-else-span-place-clause-up_to c =
    let entries = c.args.span.now.entries.now in
    let place = c.loop-place.place in
    let tested = c.index-span-place.result in
    taken_end c.args.span.now c.args.node c.args.place c.args.sample c.args.self.now place c.loop-place.self c.loop-place.invariant
    (λ d inside. subst (λ (entry : Entry). c.args.sample < entry.sample) (get_or_default entries place tested d inside) c.if-span-place.false)

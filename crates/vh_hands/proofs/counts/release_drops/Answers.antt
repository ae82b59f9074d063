use Rattle.std.proofs.Common.{◌+◌, ◌-◌, ◌<◌, [], refl, ap, ◌∙◌, arith, get_or-set_same}
use Rattle.vh_counted.specs.declared.numbers.Numbers.{Numbers}
use Rattle.vh_counted.specs.Steps.{at_interface}
use Rattle.vh_instance.specs.Seats.{opener_seat}
use Rattle.vh_instance.proofs.Places.{positions_of}
use Rattle.vh_hands.proofs.Places.{has_same, edit_released, edits_within}
use Rattle.vh_hands.proofs.counts.release_drops.Goals as goal

pub release_open-requires-clause-of_this : goal.release_open-requires-clause-of_this
release_open-requires-clause-of_this g c = c.loop.invariant.object ∙ c.requires.of_this

pub release_open-requires-clause-held : goal.release_open-requires-clause-held
release_open-requires-clause-held g c = omega (arith, c.loop-test.true, c.loop.invariant.some, c.requires.some)

pub release_open-requires-clause-more : goal.release_open-requires-clause-more
release_open-requires-clause-more g c =
    let size = positions_of c.args.object.now.object.cap c.loop.opener.numbers [] c.loop.invariant.whole in
    omega (arith, c.loop-test.true, c.loop.invariant.some, c.requires.some, edits_within c.loop.opener.numbers size)

pub release_open-requires-clause-plain : goal.release_open-requires-clause-plain
release_open-requires-clause-plain g c = c.loop.invariant.whole

pub loop-init : goal.loop-init
loop-init g c = record {
  references = λ given room has. has_same (given + c.args.drops) (given + (c.args.drops - 0)) room room (opener_seat c.args.opener.now) (omega arith) refl has;
  some = omega arith;
  whole = c.requires.whole;
  object = refl;
  value = refl;
}

pub loop-preserved : goal.loop-preserved
loop-preserved g c =
    let count = c.loop.counter in
    let drops = c.args.drops in
    let invariant = c.loop.invariant in
    let old = c.loop.opener.numbers in
    let size = positions_of c.args.object.now.object.cap old [] invariant.whole in
    let lt : count < drops = c.loop-test.true in
    let new = opener_seat c.release_open.new.o in
    let is = c.release_open.ensures.step.2.2 in
    record {
      references = λ given room has.
          edit_released (given + (drops - (count + 1))) room c.release_open.result (opener_seat c.loop.opener) new
          (has_same (given + (drops - count)) (given + (drops - (count + 1)) + 1) room room (opener_seat c.loop.opener) (omega (arith, lt)) refl (invariant.references given room has)) size is;
      some =
          let here = ap (λ (n : Numbers). at_interface n 2) is ∙ get_or-set_same old.references 2 (at_interface old 2 - 1) 0 (omega (arith, size)) in
          omega (arith, here, lt, invariant.some, c.requires.some);
      whole = c.release_open.ensures.kept [] invariant.whole;
      object = c.release_open.ensures.object ∙ invariant.object;
      value = c.release_open.ensures.value ∙ invariant.value;
    }

pub returns-clause-references : goal.returns-clause-references
returns-clause-references g c = λ given room has.
    let past = c.loop-test.false in
    has_same (given + (c.args.drops - c.loop.counter)) given room room (opener_seat c.loop.opener) (omega (arith, past)) refl (c.loop.invariant.references given room has)

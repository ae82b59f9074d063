use Rattle.std.proofs.Common.{◌+◌, ◌-◌, ◌<◌, [], refl, ◌∙◌, arith}
use Rattle.vh_instance.specs.Seats.{opener_seat}
use Rattle.vh_instance.proofs.Places.{positions_of, edit_one}
use Rattle.vh_hands.proofs.Places.{has_same}
use Rattle.vh_hands.proofs.counts.add_holds.Goals as goal

pub add_open-requires-clause-of_this : goal.add_open-requires-clause-of_this
add_open-requires-clause-of_this g c = c.loop.invariant.object ∙ c.requires.of_this

pub add_open-requires-clause-plain : goal.add_open-requires-clause-plain
add_open-requires-clause-plain g c = c.loop.invariant.whole

pub loop-init : goal.loop-init
loop-init g c = record {
  references = λ given room has. has_same given (given + 0) (room + c.args.holds) (room + (c.args.holds - 0)) (opener_seat c.args.opener.now) (omega arith) (omega arith) has;
  whole = c.requires.whole;
  object = refl;
  value = refl;
}

pub loop-preserved : goal.loop-preserved
loop-preserved g c =
    let count = c.loop.counter in
    let holds = c.args.holds in
    let cap = c.args.object.now.object.cap in
    let invariant = c.loop.invariant in
    let size = positions_of cap c.loop.opener.numbers [] invariant.whole in
    let lt : count < holds = c.loop-test.true in
    let new = opener_seat c.add_open.new.o in
    record {
      references = λ given room has.
          let left = room + (holds - count) in
          has_same (given + count + 1) (given + (count + 1)) (left - 1) (room + (holds - (count + 1))) new (omega arith) (omega (arith, lt))
          (edit_one cap (given + count) left (opener_seat c.loop.opener) new c.add_open.result (invariant.references given room has) (omega (arith, lt)) size c.add_open.ensures.step);
      whole = c.add_open.ensures.kept [] invariant.whole;
      object = c.add_open.ensures.object ∙ invariant.object;
      value = c.add_open.ensures.value ∙ invariant.value;
    }

pub returns-clause-references : goal.returns-clause-references
returns-clause-references g c = λ given room has.
    let past = c.loop-test.false in
    has_same (given + c.loop.counter) (given + c.args.holds) (room + (c.args.holds - c.loop.counter)) room (opener_seat c.loop.opener) (omega (arith, past)) (omega (arith, past)) (c.loop.invariant.references given room has)

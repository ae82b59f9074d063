use Rattle.std.proofs.Common.{rules, ◌≡◌, true, arith}
use Rattle.vh_builtin.specs.Bytes.{is_form}
use Rattle.vh_builtin.specs.ByteLaws.{form_long, held_more, held_all}
use Rattle.vh_builtin.proofs.bytes.take_held.Goals as goal

pub field32-requires : goal.field32-requires
field32-requires c =
    let form : is_form c.args.ids.now c.args.bytes.now ≡ true = search rules in
    let long = form_long c.args.ids.now c.args.bytes.now form in
    omega (arith, long, c.loop-k-test.true)

pub loop-k-preserved : goal.loop-k-preserved
loop-k-preserved c = held_more c.args.ids.now c.args.bytes.now c.loop-k.values c.args.values.now c.loop-k.k c.field32.result c.loop-k.invariant c.loop-k-test.true c.requires.values c.field32.ensures

pub returns : goal.returns
returns c =
    let form : is_form c.args.ids.now c.args.bytes.now ≡ true = search rules in
    (form, held_all c.args.ids.now c.args.bytes.now c.loop-k.values c.args.values.now c.loop-k.k c.loop-k.invariant (omega (arith, c.loop-k-test.false)) (omega (arith, c.loop-k.auto.k-end)))

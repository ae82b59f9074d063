use Rattle.std.proofs.Common.{◌≡◌, ◌≤◌, ◌+◌, ◌-◌, ◌%◌, ℤ, List, length, sym, subst, arith}
use Rattle.vh_builtin.specs.Rings.{history, IsEcho}
use Rattle.vh_builtin.proofs.Rings.{history_around}
use Rattle.vh_builtin.proofs.delay.run_channel.Goals.{then-time-eq0, else-time-eq0, then-write-size-eq-PLACES, else-write-size-eq-PLACES}
use Rattle.vh_builtin.proofs.delay.run_channel.Goals as goal

pub loop-from-preserved : goal.loop-from-preserved
loop-from-preserved c =
    let from = c.loop-from.from in
    let write = c.loop-from.write in
    let size = c.min-size.result in
    let us = history c.args.ring.now c.args.at in
    let step : IsEcho c.args.time c.args.mix c.args.feedback us c.args.main.now (from + size) (history c.if-time-eq0.ring (write + size)) c.if-time-eq0.out =
    elim c.if-time-eq0.branch [
      | then-time-eq0 w ↦ rw w.ring-is (rw w.out-is (subst (λ t. IsEcho t c.args.mix c.args.feedback us c.args.main.now (from + size) (history w.run_now.new.ring (write + size)) w.run_now.new.out) (sym w.if-time-eq0.true)
          (w.run_now.ensures us (subst (λ t. IsEcho t c.args.mix c.args.feedback us c.args.main.now from (history c.loop-from.ring write) c.loop-from.out) w.if-time-eq0.true c.loop-from.invariant.0))))
      | else-time-eq0 w ↦ rw w.ring-is (rw w.out-is (w.run_ago.ensures us c.loop-from.invariant.0))
    ] in
    let most : size ≤ 4096 - write = omega (arith, c.min.ensures, c.min-size.ensures) in
    let at : write ≡ (c.args.at + from) % 4096 = c.loop-from.invariant.1 in
    let within : from + size ≤ length c.args.main.now = omega (arith, c.min.ensures, c.min-size.ensures, c.loop-from.invariant.2) in
    elim c.if-write-size-eq-PLACES.branch [
      | then-write-size-eq-PLACES w ↦ rw w.write-is (
        subst (λ (kept : List ℤ). IsEcho c.args.time c.args.mix c.args.feedback us c.args.main.now (from + size) kept c.if-time-eq0.out) (history_around c.if-time-eq0.ring)
            (subst (λ n. IsEcho c.args.time c.args.mix c.args.feedback us c.args.main.now (from + size) (history c.if-time-eq0.ring n) c.if-time-eq0.out) w.if-write-size-eq-PLACES.true step),
        (let e : 0 ≡ (c.args.at + (from + size)) % 4096 = omega (arith, at, w.if-write-size-eq-PLACES.true) in e),
        within,
      )
      | else-write-size-eq-PLACES w ↦ rw w.write-is (
        step,
        (let e : write + size ≡ (c.args.at + (from + size)) % 4096 = omega (arith, at, most, w.if-write-size-eq-PLACES.false) in e),
        within,
      )
    ]

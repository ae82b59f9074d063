use Rattle.std.proofs.Common.{rules, ◌≡◌, ◌<◌, ◌+◌, pos, length, w32, get_or, refl, arith}
use mir.Val.{SFits}
use Rattle.std.proofs.lemmas.Int.{to_z-of_z}
use Rattle.vh_builtin.specs.Delay.{delayed_of, fed_of}
use Rattle.vh_builtin.proofs.Echoes.{sample_at}
use Rattle.vh_builtin.proofs.delay.run_now.Goals as goal

pub loop-k-preserved : goal.loop-k-preserved
loop-k-preserved c us first =
    let k = c.loop-k.k in
    let f : SFits w32 c.fed.result = search rules in
    let g : SFits w32 c.delayed.result = search rules in
    let x = get_or c.args.main.now (c.args.from + k) (pos 0) in
    let y : c.delayed.result ≡ delayed_of c.args.mix x x = search rules in
    let u : c.fed.result ≡ fed_of c.args.feedback x x = search rules in
    let inside : c.args.from + k < length c.loop-k.out = omega (arith, c.loop-k-test.true, c.loop-k.auto.out, c.requires.main, c.requires.out) in
    let long : length c.loop-k.ring ≡ 4096 = omega (arith, c.loop-k.auto.ring, c.requires.ring) in
    let within : c.args.write + k < 4096 = omega (arith, c.loop-k-test.true, c.requires.write) in
    rw (to_z-of_z w32 c.fed.result f) (rw (to_z-of_z w32 c.delayed.result g)
    (sample_at 0 c.args.mix c.args.feedback us c.args.main.now c.loop-k.ring c.args.write c.args.from k c.loop-k.out x c.delayed.result c.fed.result (c.loop-k.invariant us first) inside within long refl y u))

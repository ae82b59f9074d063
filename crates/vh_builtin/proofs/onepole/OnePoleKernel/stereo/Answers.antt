use Rattle.std.proofs.Common.{rules, ◌≡◌, ◌<◌, ◌∷◌, [], ℤ, pos, length, w32, get_or, ap₂, arith}
use mir.Val.{SFits, to_z}
use Rattle.std.proofs.lemmas.Int.{to_z-of_z}
use Rattle.vh_builtin.specs.OnePole.{pole_of}
use Rattle.vh_builtin.proofs.Ran.{stereo_more}
use Rattle.vh_builtin.proofs.onepole.OnePoleKernel.stereo.Goals as goal

pub loop-i-preserved : goal.loop-i-preserved
loop-i-preserved c =
    let f : SFits w32 c.toward-z.result = search rules in
    let g : SFits w32 c.toward-w.result = search rules in
    let y : c.toward-z.result ≡ pole_of (get_or c.args.values.now 0 0) (to_z w32 c.loop-i.z-bits) (get_or c.args.left.now c.loop-i.i (pos 0)) = search rules in
    let z : c.toward-w.result ≡ pole_of (get_or c.args.values.now 0 0) (to_z w32 c.loop-i.w-bits) (get_or c.args.right.now c.loop-i.i (pos 0)) = search rules in
    let inside_left : c.loop-i.i < length c.loop-i.out_left = omega (arith, c.loop-i-test.true, c.loop-i.auto.out_left) in
    let inside_right : c.loop-i.i < length c.loop-i.out_right = omega (arith, c.loop-i-test.true, c.loop-i.auto.out_right, c.requires.out_left, c.requires.out_right) in
    rw (to_z-of_z w32 c.toward-z.result f) (rw (to_z-of_z w32 c.toward-w.result g)
    (stereo_more _ _ _ _ _ _ _ _ _ _ _ _ _ _ c.loop-i.invariant inside_left inside_right (ap₂ (λ (a b : ℤ). a ∷ b ∷ []) y z) (ap₂ (λ (a b : ℤ). a ∷ b ∷ []) y z)))

use Rattle.std.proofs.Common.{rules, ◌≡◌, ◌<◌, ◌-◌, ◌∷◌, [], ℤ, pos, length, w32, get_or, ap, ap₂, ◌∙◌, arith}
use mir.Val.{SFits, to_z}
use Rattle.std.proofs.lemmas.Int.{to_z-of_z}
use Rattle.vh_builtin.specs.Frames.{step}
use Rattle.vh_builtin.specs.Crusher.{counter_of, held_of, crushed_of}
use Rattle.vh_builtin.proofs.Ran.{stereo_more}
use Rattle.vh_builtin.proofs.crusher.CrusherKernel.stereo.Goals as goal

pub loop-i-preserved : goal.loop-i-preserved
loop-i-preserved c =
    let f : SFits w32 c.hold_sample-held.result = search rules in
    let g : SFits w32 c.hold_sample-held_right.result = search rules in
    let h : SFits w32 c.crush-y.result = search rules in
    let i : SFits w32 c.crush-z.result = search rules in
    let count : pos c.count_on-count.result ≡ counter_of (step c.args.values.now 1 63) (pos c.loop-i.count) = search rules in
    let held : c.hold_sample-held.result ≡ held_of (pos c.loop-i.count) (to_z w32 c.loop-i.held-bits) (get_or c.args.left.now c.loop-i.i (pos 0)) = search rules in
    let held_right : c.hold_sample-held_right.result ≡ held_of (pos c.loop-i.count) (to_z w32 c.loop-i.held_right-bits) (get_or c.args.right.now c.loop-i.i (pos 0)) = search rules in
    let y : c.crush-y.result ≡ crushed_of (15 - step c.args.values.now 0 15) c.hold_sample-held.result = search rules in
    let z : c.crush-z.result ≡ crushed_of (15 - step c.args.values.now 0 15) c.hold_sample-held_right.result = search rules in
    let inside_left : c.loop-i.i < length c.loop-i.out_left = omega (arith, c.loop-i-test.true, c.loop-i.auto.out_left) in
    let inside_right : c.loop-i.i < length c.loop-i.out_right = omega (arith, c.loop-i-test.true, c.loop-i.auto.out_right, c.requires.out_left, c.requires.out_right) in
    rw (to_z-of_z w32 c.hold_sample-held.result f) (rw (to_z-of_z w32 c.hold_sample-held_right.result g)
    (rw (to_z-of_z w32 c.crush-y.result h) (rw (to_z-of_z w32 c.crush-z.result i)
    (stereo_more _ _ _ _ _ _ _ _ _ _ _ _ _ _ c.loop-i.invariant inside_left inside_right
    (ap (λ (a : ℤ). a ∷ c.hold_sample-held.result ∷ c.hold_sample-held_right.result ∷ []) count ∙ ap₂ (λ (a b : ℤ). counter_of (step c.args.values.now 1 63) (pos c.loop-i.count) ∷ a ∷ b ∷ []) held held_right)
    (ap₂ (λ (a b : ℤ). a ∷ b ∷ []) (y ∙ ap (λ (h : ℤ). crushed_of (15 - step c.args.values.now 0 15) h) held) (z ∙ ap (λ (h : ℤ). crushed_of (15 - step c.args.values.now 0 15) h) held_right))))))

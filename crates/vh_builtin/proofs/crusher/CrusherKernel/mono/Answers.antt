use Rattle.std.proofs.Common.{rules, ◌≡◌, ◌<◌, ◌-◌, ◌∷◌, [], ℤ, pos, length, w32, get_or, ap, ap₂, ◌∙◌, arith}
use mir.Val.{SFits, to_z}
use Rattle.std.proofs.lemmas.Int.{to_z-of_z}
use Rattle.vh_builtin.specs.Frames.{step}
use Rattle.vh_builtin.specs.Crusher.{counter_of, held_of, crushed_of}
use Rattle.vh_builtin.proofs.Ran.{mono_more}
use Rattle.vh_builtin.proofs.crusher.CrusherKernel.mono.Goals as goal

pub loop-i-preserved : goal.loop-i-preserved
loop-i-preserved c =
    let f : SFits w32 c.hold_sample-held.result = search rules in
    let g : SFits w32 c.crush.result = search rules in
    let count : pos c.count_on-count.result ≡ counter_of (step c.args.values.now 1 63) (pos c.loop-i.count) = search rules in
    let held : c.hold_sample-held.result ≡ held_of (pos c.loop-i.count) (to_z w32 c.loop-i.held-bits) (get_or c.args.main.now c.loop-i.i (pos 0)) = search rules in
    let y : c.crush.result ≡ crushed_of (15 - step c.args.values.now 0 15) c.hold_sample-held.result = search rules in
    let inside : c.loop-i.i < length c.loop-i.out = omega (arith, c.loop-i-test.true, c.loop-i.auto.out) in
    rw (to_z-of_z w32 c.hold_sample-held.result f) (rw (to_z-of_z w32 c.crush.result g)
    (mono_more _ _ _ _ _ _ _ _ _ _ c.loop-i.invariant inside (ap₂ (λ (a b : ℤ). a ∷ b ∷ c.args.self.now.right ∷ []) count held)
    (ap (λ (a : ℤ). a ∷ []) (y ∙ ap (λ (h : ℤ). crushed_of (15 - step c.args.values.now 0 15) h) held))))

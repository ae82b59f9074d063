use Rattle.std.proofs.Common.{rules, ◌≡◌, ◌<◌, ◌-◌, ◌||◌, ◌==◌, nat_lt, if◌then◌else◌, ◌∷◌, [], ℤ, pos, length, w32, get_or, ap, ap₂, ◌∙◌, arith}
use mir.Val.{SFits, to_z, of_z}
use Rattle.std.proofs.lemmas.Int.{to_z-of_z}
use Rattle.vh_builtin.specs.Frames.{value, step}
use Rattle.vh_builtin.specs.Marks.{mark_of}
use Rattle.vh_builtin.proofs.Gates.{gated_two}
use Rattle.vh_builtin.proofs.Marking.{stereo_loud, marks_left, marks_fit, marked_stereo}
use Rattle.vh_builtin.proofs.Ran.{stereo_first, stereo_more}
use Rattle.vh_builtin.proofs.gate.GateKernel.stereo.Goals as goal

pub loop-i-init : goal.loop-i-init
loop-i-init c = (stereo_first _ _ _ _ _ _ _ _ _, marked_stereo _ c.args.left.now c.args.right.now c.args.aux_left.now c.args.aux_right.now c.stereo_key.result.0.now c.stereo_key.result.1.now _ _ c.stereo_key.ensures.key c.mark_loud.ensures.marks)

pub loop-i-preserved : goal.loop-i-preserved
loop-i-preserved c =
    let i = c.loop-i.i in
    let f : SFits w32 c.gated-y.result = search rules in
    let g : SFits w32 c.gated-z.result = search rules in
    let hold = step c.args.values.now 1 4095 in
    let bypass = step c.args.values.now 2 1 in
    let is = stereo_loud (value c.args.values.now 0) c.args.left.now c.args.right.now c.args.aux_left.now c.args.aux_right.now i in
    let within : i < length c.args.out_left.now = omega (arith, c.loop-i-test.true, c.loop-i.auto.out_left, c.mark_loud.ensures.long) in
    let mark : get_or c.loop-i.out_left i (pos 0) ≡ mark_of is = c.loop-i.invariant.1 i (omega arith) within in
    let loud : c.is_marked-loud.result ≡ is = c.is_marked-loud.ensures is (ap (λ (z : ℤ). to_z w32 (of_z w32 z)) mark ∙ marks_fit is) in
    let left : c.open_on-pass.result.1 ≡ (if is then hold else c.loop-i.open - 1) =
    c.open_on-pass.ensures.left ∙ ap (λ b. if b then c.index-hold.result else c.loop-i.open - 1) loud ∙ ap (λ h. if is then h else c.loop-i.open - 1) c.index-hold.ensures in
    let pass : c.open_on-pass.result.0 ≡ (is || nat_lt 0 c.loop-i.open || (bypass == 1)) =
    c.open_on-pass.ensures.pass ∙ ap (λ b. b || nat_lt 0 c.loop-i.open || (c.index-bypass.result == 1)) loud ∙ ap (λ n. is || nat_lt 0 c.loop-i.open || (n == 1)) c.index-bypass.ensures in
    let x : c.gated-y.result ≡ (if c.open_on-pass.result.0 then get_or c.args.left.now i (pos 0) else pos 0) = search rules in
    let w : c.gated-z.result ≡ (if c.open_on-pass.result.0 then get_or c.args.right.now i (pos 0) else pos 0) = search rules in
    let inside_left : i < length c.loop-i.out_left = omega (arith, c.loop-i-test.true, c.loop-i.auto.out_left) in
    let inside_right : i < length c.loop-i.out_right = omega (arith, within, c.loop-i.auto.out_right, c.requires.out_left, c.requires.out_right) in
    let stands = is || nat_lt 0 c.loop-i.open || (bypass == 1) in
    rw (to_z-of_z w32 c.gated-y.result f) (rw (to_z-of_z w32 c.gated-z.result g) (
      stereo_more _ _ _ _ _ _ _ _ _ _ _ _ _ _ c.loop-i.invariant.0 inside_left inside_right (ap (λ n. pos n ∷ []) left)
          (ap₂ (λ (a b : ℤ). a ∷ b ∷ []) (x ∙ ap (λ b. if b then get_or c.args.left.now i (pos 0) else pos 0) pass) (w ∙ ap (λ b. if b then get_or c.args.right.now i (pos 0) else pos 0) pass)
          ∙ gated_two stands (get_or c.args.left.now i (pos 0)) (get_or c.args.right.now i (pos 0))),
      marks_left _ i _ _ _ c.loop-i.invariant.1,
    ))

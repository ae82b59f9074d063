use Rattle.std.proofs.Common.{rules, ◌≡◌, ◌<◌, ◌-◌, ◌||◌, ◌==◌, nat_lt, if◌then◌else◌, ◌∷◌, [], ℤ, pos, length, w32, get_or, ap, ◌∙◌, arith}
use mir.Val.{SFits, to_z, of_z}
use Rattle.std.proofs.lemmas.Int.{to_z-of_z}
use Rattle.vh_builtin.specs.Frames.{value, step}
use Rattle.vh_builtin.specs.Marks.{mark_of}
use Rattle.vh_builtin.proofs.Gates.{gated}
use Rattle.vh_builtin.proofs.Marking.{mono_loud, marks_left, marks_fit, marked_mono}
use Rattle.vh_builtin.proofs.Ran.{mono_first, mono_more}
use Rattle.vh_builtin.proofs.gate.GateKernel.mono.Goals as goal

pub loop-i-init : goal.loop-i-init
loop-i-init c = (mono_first _ _ _ _ _ _, marked_mono _ c.args.main.now c.args.aux.now c.mono_key-key.result.now _ _ c.mono_key-key.ensures.key c.mark_loud.ensures.marks)

pub loop-i-preserved : goal.loop-i-preserved
loop-i-preserved c =
    let i = c.loop-i.i in
    let f : SFits w32 c.gated.result = search rules in
    let hold = step c.args.values.now 1 4095 in
    let bypass = step c.args.values.now 2 1 in
    let is = mono_loud (value c.args.values.now 0) c.args.main.now c.args.aux.now i in
    let inside : i < length c.loop-i.out = omega (arith, c.loop-i-test.true, c.loop-i.auto.out) in
    let within : i < length c.args.out.now = omega (arith, c.loop-i-test.true, c.loop-i.auto.out, c.mark_loud.ensures.long) in
    let mark : get_or c.loop-i.out i (pos 0) ≡ mark_of is = c.loop-i.invariant.1 i (omega arith) within in
    let loud : c.is_marked-loud.result ≡ is = c.is_marked-loud.ensures is (ap (λ (z : ℤ). to_z w32 (of_z w32 z)) mark ∙ marks_fit is) in
    let left : c.open_on-pass.result.1 ≡ (if is then hold else c.loop-i.left - 1) =
    c.open_on-pass.ensures.left ∙ ap (λ b. if b then c.index-hold.result else c.loop-i.left - 1) loud ∙ ap (λ h. if is then h else c.loop-i.left - 1) c.index-hold.ensures in
    let pass : c.open_on-pass.result.0 ≡ (is || nat_lt 0 c.loop-i.left || (bypass == 1)) =
    c.open_on-pass.ensures.pass ∙ ap (λ b. b || nat_lt 0 c.loop-i.left || (c.index-bypass.result == 1)) loud ∙ ap (λ n. is || nat_lt 0 c.loop-i.left || (n == 1)) c.index-bypass.ensures in
    let x : c.gated.result ≡ (if c.open_on-pass.result.0 then get_or c.args.main.now i (pos 0) else pos 0) = search rules in
    rw (to_z-of_z w32 c.gated.result f) (
      mono_more _ _ _ _ _ _ _ _ _ _ c.loop-i.invariant.0 inside (ap (λ n. pos n ∷ []) left)
          (ap (λ (a : ℤ). a ∷ []) (x ∙ ap (λ b. if b then get_or c.args.main.now i (pos 0) else pos 0) pass) ∙ gated (is || nat_lt 0 c.loop-i.left || (bypass == 1)) (get_or c.args.main.now i (pos 0))),
      marks_left _ i _ _ _ c.loop-i.invariant.1,
    )

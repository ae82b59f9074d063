use Rattle.std.proofs.Common.{◌≡◌, length, get_or, pos, ap, ◌∙◌, arith, rules}
use Rattle.std.proofs.lemmas.Int.{to_z-of_z}
use mir.Val.{SFits}
use mir.Syntax.{w32}
use Rattle.vh_wav.specs.Text.{sample_bytes}
use Rattle.vh_wav.proofs.Grow.{grown}
use Rattle.vh_wav.proofs.text.encode_mono24.Goals as goal

pub loop-i-preserved : goal.loop-i-preserved
loop-i-preserved c =
    let x = get_or c.args.samples.now c.loop-i.i (pos 0) in
    let fits : SFits w32 x = search rules in
    let part : c.copy_from_slice.new.self ≡ sample_bytes 24 x = c.copy_from_slice.ensures.after ∙ c.bytes24.ensures ∙ ap (sample_bytes 24) (to_z-of_z w32 x fits) in
    let size : length c.copy_from_slice.new.self ≡ 3 = ap length part in
    grown (sample_bytes 24) c.args.samples.now c.loop-i.i 3 _ (pos 0) c.loop-i.out c.copy_from_slice.new.self c.loop-i-test.true c.loop-i.invariant part size (omega arith)

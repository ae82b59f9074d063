use Rattle.std.proofs.Common.{◌≡◌, ◌∙◌, ◌*◌, ℤ, List, length, take, drop, get_or, sym, ap, arith}
use Rattle.vh_wav.specs.InMemory.{interleaved}
use Rattle.vh_live_host.proofs.Woven.{stereo_frames, woven_long, if_ok_more}
use Rattle.vh_live_host.proofs.frames.interleave.Goals as goal

pub returns-clause-frames : goal.returns-clause-frames
returns-clause-frames c =
    let sound = c.args.sound in
    let left = c.split_at.result.0.now in
    let right = c.split_at.result.1.now in
    let two : sound.channels ≡ 2 = let other = c.if-channels-eq1.false in let some = sound.one in let most = sound.two in omega (arith, other, some, most) in
    let size : length sound.samples.items ≡ 2 * sound.frames = sound.long ∙ ap (λ n. n * sound.frames) two in
    let whole = c.deref.ensures.value in
    let all : length c.deref.result.now ≡ length sound.samples.items = ap length whole in
    let front = c.split_at.ensures.front_len in
    let back = c.split_at.ensures.back_len in
    if_ok_more c.weave.result _ _
    (λ samples is place d lt. ap (λ (xs : List ℤ). get_or (interleaved sound.channels xs) place d) is
    ∙ stereo_frames sound.channels sound.frames sound.samples.items left right two (omega (arith, front, size, all)) (omega (arith, front, back, size, all))
    (c.split_at.ensures.front ∙ ap (take sound.frames) whole) (c.split_at.ensures.back ∙ ap (drop sound.frames) whole) place d lt) c.weave.ensures

pub returns-clause-long : goal.returns-clause-long
returns-clause-long c =
    let sound = c.args.sound in
    let left = c.split_at.result.0.now in
    let right = c.split_at.result.1.now in
    let two : sound.channels ≡ 2 = let other = c.if-channels-eq1.false in let some = sound.one in let most = sound.two in omega (arith, other, some, most) in
    let size : length sound.samples.items ≡ 2 * sound.frames = sound.long ∙ ap (λ n. n * sound.frames) two in
    let all : length c.deref.result.now ≡ length sound.samples.items = ap length c.deref.ensures.value in
    let front = c.split_at.ensures.front_len in
    let back = c.split_at.ensures.back_len in
    if_ok_more c.weave.result _ _
    (λ samples is. ap length is ∙ woven_long left right (omega (arith, front, back, size, all)) ∙ (let e : 2 * length left ≡ 2 * sound.frames = omega (arith, front, size, all) in e) ∙ ap (λ n. n * sound.frames) (sym two)) c.weave.ensures

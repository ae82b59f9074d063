use Rattle.std.proofs.Common.{◌≡◌, ℕ, ◌+◌, ◌*◌, ◌/◌, ◌-◌, ◌++◌, ltb, cond, length, drop, ℤ, pos, ap, sym, ◌∙◌, arith}
use Rattle.std.proofs.lemmas.List.{length-take-le, length-append, length-drop, take_rest}
use Rattle.vh_wav.specs.Judged.{align_of}
use Rattle.vh_wav.specs.Samples.{sample_at}
use Rattle.vh_wav.proofs.Channels.{two_channels}
use Rattle.vh_wav.proofs.frames.decode_frames.Goals as goal

pub returns-else-head-eq1 : goal.returns-else-head-eq1
returns-else-head-eq1 c = λ channel i on within.
    let head = c.args.head.now in
    let both : head.channels ≡ 2 = omega arith in
    let value : ℕ → ℕ → ℤ = λ ch k. cond (ltb k c.args.whole) (sample_at head.bits c.args.bytes.now (k * align_of head.channels head.bits + ch * (head.bits / 8))) (pos 0) in
    let room : length c.args.out.now ≡ 2 * c.args.n = c.requires.room ∙ ap (λ ch. ch * c.args.n) both in
    let first : length c.decode_channel-else-head-eq1.new.out ≡ c.args.n = c.decode_channel-else-head-eq1.auto.out ∙ length-take-le c.args.n c.args.out.now (omega (arith, room)) in
    let size : 2 * c.from-width.result ≡ align_of head.channels head.bits = ap (λ w. 2 * w) c.from-width.ensures ∙ ap (λ ch. ch * (head.bits / 8)) (sym both) in
    let whole = c.decode_channel-else-head-eq1.new.out ++ drop c.args.n c.args.out.now in
    let sum = length-append c.decode_channel-else-head-eq1.new.out (drop c.args.n c.args.out.now) in
    let left = length-drop c.args.n c.args.out.now in
    let rest : length whole - c.args.n ≡ c.args.n = omega (arith, sum, left, first, room) in
    let second : length c.decode_channel-else-head-eq1-2.new.out ≡ c.args.n = c.decode_channel-else-head-eq1-2.auto.out ∙ ap length (take_rest whole c.args.n) ∙ length-drop c.args.n whole ∙ rest in
    let align : ℕ = align_of head.channels head.bits in
    let width : ℕ = head.bits / 8 in
    two_channels c.decode_channel-else-head-eq1.new.out c.decode_channel-else-head-eq1-2.new.out _ _ c.args.n head.channels value first second
    (λ k below.
    let place : k * align + 0 ≡ k * align + 0 * width = omega arith in
    c.decode_channel-else-head-eq1.ensures k (omega (arith, first)) ∙ ap (λ at. cond (ltb k c.args.whole) (sample_at head.bits c.args.bytes.now at) (pos 0)) (ap (λ m. k * m + 0) size ∙ place))
    (λ k below.
    let place : k * align + width ≡ k * align + 1 * width = omega arith in
    c.decode_channel-else-head-eq1-2.ensures k (omega (arith, second)) ∙ ap (λ at. cond (ltb k c.args.whole) (sample_at head.bits c.args.bytes.now at) (pos 0)) (ap (λ m. k * m + c.from-width.result) size ∙ ap (λ w. k * align + w) c.from-width.ensures ∙ place))
    both channel i on within

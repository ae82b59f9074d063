use Rattle.std.proofs.Common.{◌≡◌, ◌≤◌, ◌+◌, ◌*◌, ◌/◌, ◌-◌, ℕ, ◌&&◌, ltb, leb, length, min, drop, ap, subst, ◌∙◌, arith}
use Rattle.std.proofs.lemmas.List.{length-drop, length-take-le}
use Rattle.vh_wav.specs.Judged.{align_of}
use Rattle.vh_wav.proofs.Whole.{whole_count, align_some, align_most}
use Rattle.std.proofs.Math.Nat.{mul-le-mul_left}
use Rattle.vh_wav.proofs.frames.fetch.Goals as goal

pub returns-clause-count : goal.returns-clause-count
returns-clause-count g c = λ bytes e i within.
    let fills = c.in_ok-got.ensures.bytes bytes e in
    let head = c.args.head.now in
    let align : c.from-align.result ≡ align_of head.channels head.bits = c.from-align.ensures in
    let some : 1 ≤ c.from-align.result = rw align (align_some head.channels head.bits c.requires.head.channels c.requires.head.bits) in
    let left : c.min-left.result ≡ min (head.frames - c.args.from) c.args.n = omega arith in
    let most = align_most head.channels head.bits c.requires.head.channels c.requires.head.bits in
    let six : c.from-align.result ≤ 6 = rw align most in
    let fewer : c.from-align.result * c.min-left.result ≤ c.from-align.result * c.args.n = mul-le-mul_left c.from-align.result (omega arith) in
    let bytes_most : c.args.n * c.from-align.result ≤ c.args.n * 6 = mul-le-mul_left c.args.n six in
    let room : length c.fill.new.buf ≡ c.min-left.result * c.from-align.result = c.fill.auto.buf ∙ length-take-le _ c.args.scratch.now (omega (arith, fewer, bytes_most)) in
    let got : c.in_ok-got.got ≡ min (c.min-left.result * c.from-align.result) (length bytes - (head.at + c.args.from * c.from-align.result)) = fills.all ∙ ap (λ m. min m (length (drop (head.at + c.args.from * c.from-align.result) bytes))) room ∙ ap (λ m. min (c.min-left.result * c.from-align.result) m) (length-drop (head.at + c.args.from * c.from-align.result) bytes) in
    let count = whole_count (length bytes) head.at c.from-align.result c.args.from head.frames c.args.n c.min-left.result c.in_ok-got.got i some left got within in
    let P : ℕ → Type 0 = λ a. ltb i (c.in_ok-got.got / c.from-align.result) ≡ (ltb (c.args.from + i) head.frames && leb (head.at + (c.args.from + i + 1) * a) (length bytes)) in
    subst P align count

use Rattle.std.proofs.Common.{rules, ◌≡◌, ◌∙◌, ◌*◌, ℕ, ◌++◌, length, drop, sym, ap, subst, arith}
use Rattle.vh_wav.specs.Streams.{ArePulled}
use Rattle.vh_wav.specs.InMemory.{interleaved}
use Rattle.vh_wav.proofs.InMemory.{pulled_one, pulled_two}
use Rattle.vh_wav.proofs.list_frames.copy_frames.Goals as goal

pub returns-then-channels-eq1-clause-frames : goal.returns-then-channels-eq1-clause-frames
returns-then-channels-eq1-clause-frames c =
    let one : c.args.channels ≡ 1 = search rules in
    let out = c.copy_channel.new.out in
    let room = c.requires.room in
    let long : length out ≡ c.args.n = let same = c.copy_channel.ensures.long in same ∙ room ∙ ap (λ k. k * c.args.n) one ∙ omega arith in
    let P : ℕ → Type 0 = λ channels. ArePulled channels (drop c.args.at (interleaved channels c.args.ins.now)) c.args.n out in
    subst P (sym one) (pulled_one c.args.ins.now out c.args.at c.args.n (λ k below. c.copy_channel.ensures.samples k (omega (arith, below, long))))

pub returns-clause-frames : goal.returns-clause-frames
returns-clause-frames c =
    let two : c.args.channels ≡ 2 = search rules in
    let left = c.copy_channel-2.new.out in
    let right = c.copy_channel-3.new.out in
    let room = c.requires.room in
    let total = c.requires.total in
    let first : length left ≡ c.args.n = let same = c.copy_channel-2.ensures.long in let front = c.split_at_mut-left.ensures.front_len in search rules in
    let second : length right ≡ c.args.n = let same = c.copy_channel-3.ensures.long in let back = c.split_at_mut-left.ensures.back_len in let whole : length c.args.out.now ≡ 2 * c.args.n = room ∙ ap (λ k. k * c.args.n) two in omega (arith, same, back, whole) in
    let P : ℕ → Type 0 = λ channels. ArePulled channels (drop c.args.at (interleaved channels c.args.ins.now)) c.args.n (left ++ right) in
    subst P (sym two) (pulled_two c.args.ins.now left right c.args.at c.args.n c.args.total (total ∙ ap (λ k. k * c.args.total) two) first
    (λ k below. c.copy_channel-2.ensures.samples k (omega (arith, below, first)))
    (λ k below. c.copy_channel-3.ensures.samples k (omega (arith, below, second))))

use Rattle.std.proofs.Common.{rules, ◌≡◌, ◌∙◌, ◌+◌, ◌*◌, ◌++◌, ℕ, List, ℤ, length, take, drop, sym, ap, subst, arith}
use Rattle.std.proofs.lemmas.List.{length-append, take_rest}
use Rattle.vh_num.specs.Frames.{frames_of}
use Rattle.vh_wav.specs.InMemory.{interleaved, woven}
use Rattle.vh_wav.proofs.InMemory.{added_two, length-woven}
use Rattle.vh_wav.proofs.list_frames.add_frames.Goals as goal

pub returns-clause-added : goal.returns-clause-added
returns-clause-added c =
    let two : c.args.channels ≡ 2 = search rules in
    let count : length c.args.outs.now.items ≡ 2 * c.args.count = c.requires.count ∙ ap (λ k. k * c.args.count) two in
    let frames : length c.args.frames.now ≡ 2 * c.args.n = c.requires.frames ∙ ap (λ k. k * c.args.n) two in
    let P : ℕ → Type 0 = λ channels. interleaved channels c.weave.new.outs.items ≡ interleaved channels c.args.outs.now.items ++ frames_of channels c.args.frames.now in
    subst P (sym two) (ap (interleaved 2) (c.weave.ensures.woven ∙ ap (λ (xs : List ℤ). c.args.outs.now.items ++ woven (take c.args.n c.args.frames.now) xs) (take_rest c.args.frames.now c.args.n)) ∙ added_two c.args.outs.now.items c.args.frames.now c.args.n c.args.count count frames)

pub returns-clause-long : goal.returns-clause-long
returns-clause-long c =
    let two : c.args.channels ≡ 2 = search rules in
    let count : length c.args.outs.now.items ≡ 2 * c.args.count = c.requires.count ∙ ap (λ k. k * c.args.count) two in
    let frames : length c.args.frames.now ≡ 2 * c.args.n = c.requires.frames ∙ ap (λ k. k * c.args.n) two in
    let more = length-woven c.args.frames.now c.args.n frames in
    let sum = length-append c.args.outs.now.items (woven (take c.args.n c.args.frames.now) (drop c.args.n c.args.frames.now)) in
    let whole : length c.weave.new.outs.items ≡ 2 * c.args.count + 2 * c.args.n = ap length (c.weave.ensures.woven ∙ ap (λ (xs : List ℤ). c.args.outs.now.items ++ woven (take c.args.n c.args.frames.now) xs) (take_rest c.args.frames.now c.args.n)) ∙ omega (arith, sum, more, count) in
    let all : 2 * c.args.count + 2 * c.args.n ≡ 2 * (c.args.count + c.args.n) = omega arith in
    whole ∙ all ∙ ap (λ k. k * (c.args.count + c.args.n)) (sym two)

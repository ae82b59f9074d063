use Rattle.std.proofs.Common.{rules, ◌≡◌, ◌∙◌, ◌*◌, List, length, take, ℤ, sym, ap}
use Rattle.vh_num.specs.Frames.{frames_of}
use Rattle.vh_gen.specs.Summary.{level_sum}
use Rattle.vh_gen.proofs.Summed.{piece_level}
use Rattle.vh_gen.proofs.sums.sum_piece.Goals as goal

pub returns-clause-sum : goal.returns-clause-sum
returns-clause-sum g c = λ input playing.
    let samples : List ℤ = take (2 * c.args.piece.length) c.play_piece-next.new.outs in
    let long : length samples ≡ 2 * c.args.piece.length = search rules in
    let same : take (c.args.score.now.sound.now.channels * c.args.piece.length) c.play_piece-next.new.outs ≡ samples = ap (λ n. take (n * c.args.piece.length) c.play_piece-next.new.outs) c.requires.stereo in
    c.levels-sum.ensures.value
    ∙ sym (piece_level samples c.args.piece.length long)
    ∙ ap level_sum (ap (frames_of 2) (sym same) ∙ ap (λ n. frames_of n (take (c.args.score.now.sound.now.channels * c.args.piece.length) c.play_piece-next.new.outs)) (sym c.requires.stereo) ∙ c.play_piece-next.ensures.frames input playing)

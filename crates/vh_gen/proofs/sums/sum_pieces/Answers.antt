use Rattle.std.proofs.Common.{rules, ◌≡◌, ◌∙◌, ◌≤◌, ℕ, ◌+◌, ◌*◌, List, [], ◌∷◌, ◌++◌, length, map, refl, sym, ap, subst, arith}
use Rattle.std.specs.List.Sorted.{IsNonDecreasing}
use Rattle.std.proofs.lemmas.List.{length_push}
use Rattle.vh_plugin.specs.Counts.{raised}
use Rattle.vh_engine.proofs.Rooms.{same_twice}
use Rattle.vh_render.specs.Playing.{IsUnderWay, called}
use Rattle.vh_render.proofs.Calls.{calls_more, calls_none}
use Rattle.vh_render.proofs.Cuts.{start_in, piece_of, stops_rise, no_more_pieces}
use Rattle.vh_render.proofs.Turns.{turn_at, turns_end}
use Rattle.vh_render.proofs.Ways.{input_kept}
use Rattle.vh_gen.proofs.Summed.{level_from, level_grows, begins_way}
use Rattle.vh_gen.proofs.sums.sum_pieces.Goals as goal

pub pieces-piece-items-requires-clause-stops : goal.pieces-piece-items-requires-clause-stops
pieces-piece-items-requires-clause-stops g c =
    let summable = c.requires.summable in
    let P : List ℕ → Type 0 = λ l. IsNonDecreasing l in
    subst P (sym summable.score_of.stops_are) (stops_rise c.args.score.now.entries.now summable.entries.rising)

pub loop-piece-init : goal.loop-piece-init
loop-piece-init g c = record {
  way = begins_way g.P.Processor.class_of c.args.engine.now c.args.score.now c.requires.summable;
  count = refl;
  most = omega arith;
  stands = λ input playing. playing.stands;
  sum = λ input playing. refl;
  calls = sym (calls_none c.args.engine.now.calls);
  same = record { session = refl; codes = refl; firsts = refl; holders = refl; max = refl };
}

pub sum_piece-taken-requires-clause-way : goal.sum_piece-taken-requires-clause-way
sum_piece-taken-requires-clause-way g c =
    let inv = c.loop-piece.invariant in
    let score = c.args.score.now in
    let first : c.into_iter-piece-iterator.result ≡ c.pieces-piece-items.result = search rules in
    let turn = turn_at c.pieces_lie_end_to_end.ensures score c.pieces-piece-items.result c.into_iter-piece-iterator.result c.loop-piece.piece-iterator c.next.new.self c.loop-piece.yielded c.next.result first c.pieces-piece-items.ensures c.requires.summable.score_of.pattern c.loop-piece.yielded_by c.next.ensures.steps c.in-Some.piece c.in-Some.is in
    let at = turn.1 in
    let P : ℕ → Type 0 = λ m. IsUnderWay g.P.Processor.class_of c.loop-piece.engine score m c.loop-piece.progress.taken in
    subst P (sym at.start) inv.way

pub sum_piece-taken-requires-clause-piece : goal.sum_piece-taken-requires-clause-piece
sum_piece-taken-requires-clause-piece g c =
    let score = c.args.score.now in
    let first : c.into_iter-piece-iterator.result ≡ c.pieces-piece-items.result = search rules in
    let turn = turn_at c.pieces_lie_end_to_end.ensures score c.pieces-piece-items.result c.into_iter-piece-iterator.result c.loop-piece.piece-iterator c.next.new.self c.loop-piece.yielded c.next.result first c.pieces-piece-items.ensures c.requires.summable.score_of.pattern c.loop-piece.yielded_by c.next.ensures.steps c.in-Some.piece c.in-Some.is in
    let at = turn.1 in
    piece_of c.loop-piece.engine score (length c.loop-piece.yielded) c.in-Some.piece c.loop-piece.invariant.way.score_of at

pub sum_piece-taken-requires-clause-stereo : goal.sum_piece-taken-requires-clause-stereo
sum_piece-taken-requires-clause-stereo g c = c.requires.summable.score_of.channels ∙ c.requires.summable.stereo

pub loop-piece-preserved : goal.loop-piece-preserved
loop-piece-preserved g c =
    let inv = c.loop-piece.invariant in
    let score = c.args.score.now in
    let i = length c.loop-piece.yielded in
    let piece = c.in-Some.piece in
    let played = c.sum_piece-taken.ensures in
    let first : c.into_iter-piece-iterator.result ≡ c.pieces-piece-items.result = search rules in
    let turn = turn_at c.pieces_lie_end_to_end.ensures score c.pieces-piece-items.result c.into_iter-piece-iterator.result c.loop-piece.piece-iterator c.next.new.self c.loop-piece.yielded c.next.result first c.pieces-piece-items.ensures c.requires.summable.score_of.pattern c.loop-piece.yielded_by c.next.ensures.steps c.in-Some.piece c.in-Some.is in
    let at = turn.1 in
    let next : i + 1 ≡ length (c.loop-piece.yielded ++ piece ∷ []) = sym (length_push c.loop-piece.yielded piece) in
    let more = at.more in
    let start = at.start in
    let W : ℕ → Type 0 = λ m. IsUnderWay g.P.Processor.class_of c.sum_piece-taken.new.engine score m c.sum_piece-taken.result.0 in
    let before = inv.most in
    let here = played.most in
    let most_next : c.loop-piece.progress.sums.sum + c.sum_piece-taken.result.1 ≤ 65535 * (2 * start_in score (i + 1)) = omega (arith, before, here, more, start) in
    record {
      way = subst W (sym more ∙ ap (start_in score) next) played.way;
      count = omega (arith, next, inv.count);
      most = subst (λ m. c.loop-piece.progress.sums.sum + c.sum_piece-taken.result.1 ≤ 65535 * (2 * start_in score m)) next most_next;
      stands = λ input playing. played.stands input (record { stands = inv.stands input playing; sound_is = input_kept g.P.Processor.class_of c.args.engine.now c.loop-piece.engine input score.sound.now inv.same playing.sound_is });
      sum = λ input playing. level_grows g.P.Processor.class_of c.args.engine.now c.loop-piece.engine input score i piece c.loop-piece.progress.sums.sum c.sum_piece-taken.result.1 inv.same at (inv.sum input playing)
          (played.sum input (record { stands = inv.stands input playing; sound_is = input_kept g.P.Processor.class_of c.args.engine.now c.loop-piece.engine input score.sound.now inv.same playing.sound_is }))
          ∙ ap (λ m. level_from g.P.Processor.class_of c.args.engine.now input score 0 (start_in score m)) next;
      calls = played.calls ∙ ap (λ (l : List ℕ). map raised l) inv.calls ∙ calls_more i c.args.engine.now.calls ∙ ap (λ n. map (called n) c.args.engine.now.calls) next;
      same = same_twice c.args.engine.now c.loop-piece.engine c.sum_piece-taken.new.engine inv.same played.same;
    }

pub overflow_add-progress : goal.overflow_add-progress
overflow_add-progress g c =
    let score = c.args.score.now in
    let first : c.into_iter-piece-iterator.result ≡ c.pieces-piece-items.result = search rules in
    let turn = turn_at c.pieces_lie_end_to_end.ensures score c.pieces-piece-items.result c.into_iter-piece-iterator.result c.loop-piece.piece-iterator c.next.new.self c.loop-piece.yielded c.next.result first c.pieces-piece-items.ensures c.requires.summable.score_of.pattern c.loop-piece.yielded_by c.next.ensures.steps c.in-Some.piece c.in-Some.is in
    let few = no_more_pieces c.pieces_lie_end_to_end.ensures score (length c.loop-piece.yielded) c.requires.summable.score_of.pattern (omega (arith, turn.0)) in
    let at = turn.1 in
    let start = at.start in
    let within = at.within in
    let count = c.loop-piece.invariant.count in
    let frames = c.requires.summable.score_of.frames in
    let most = score.sound.now.most in
    omega (arith, few, start, within, count, frames, most)

pub overflow_add-progress-in-loop-piece : goal.overflow_add-progress-in-loop-piece
overflow_add-progress-in-loop-piece g c =
    let score = c.args.score.now in
    let first : c.into_iter-piece-iterator.result ≡ c.pieces-piece-items.result = search rules in
    let turn = turn_at c.pieces_lie_end_to_end.ensures score c.pieces-piece-items.result c.into_iter-piece-iterator.result c.loop-piece.piece-iterator c.next.new.self c.loop-piece.yielded c.next.result first c.pieces-piece-items.ensures c.requires.summable.score_of.pattern c.loop-piece.yielded_by c.next.ensures.steps c.in-Some.piece c.in-Some.is in
    let at = turn.1 in
    let start = at.start in
    let within = at.within in
    let before = c.loop-piece.invariant.most in
    let here = c.sum_piece-taken.ensures.most in
    let frames = c.requires.summable.score_of.frames in
    let most = score.sound.now.most in
    omega (arith, start, within, before, here, frames, most)

pub returns-clause-way : goal.returns-clause-way
returns-clause-way g c =
    let score = c.args.score.now in
    let first : c.into_iter-piece-iterator.result ≡ c.pieces-piece-items.result = search rules in
    let end = turns_end c.pieces_lie_end_to_end.ensures score c.pieces-piece-items.result c.into_iter-piece-iterator.result c.loop-piece.piece-iterator c.next.new.self c.loop-piece.yielded c.next.result first c.pieces-piece-items.ensures c.requires.summable.score_of.pattern c.loop-piece.yielded_by c.next.ensures.steps c.in-None.is in
    let P : ℕ → Type 0 = λ m. IsUnderWay g.P.Processor.class_of c.loop-piece.engine score m c.loop-piece.progress.taken in
    subst P end.1 c.loop-piece.invariant.way

pub returns-clause-pieces : goal.returns-clause-pieces
returns-clause-pieces g c =
    let score = c.args.score.now in
    let first : c.into_iter-piece-iterator.result ≡ c.pieces-piece-items.result = search rules in
    let end = turns_end c.pieces_lie_end_to_end.ensures score c.pieces-piece-items.result c.into_iter-piece-iterator.result c.loop-piece.piece-iterator c.next.new.self c.loop-piece.yielded c.next.result first c.pieces-piece-items.ensures c.requires.summable.score_of.pattern c.loop-piece.yielded_by c.next.ensures.steps c.in-None.is in
    c.loop-piece.invariant.count ∙ end.0

pub returns-clause-sum : goal.returns-clause-sum
returns-clause-sum g c = λ input playing.
    let score = c.args.score.now in
    let first : c.into_iter-piece-iterator.result ≡ c.pieces-piece-items.result = search rules in
    let end = turns_end c.pieces_lie_end_to_end.ensures score c.pieces-piece-items.result c.into_iter-piece-iterator.result c.loop-piece.piece-iterator c.next.new.self c.loop-piece.yielded c.next.result first c.pieces-piece-items.ensures c.requires.summable.score_of.pattern c.loop-piece.yielded_by c.next.ensures.steps c.in-None.is in
    c.loop-piece.invariant.sum input playing ∙ ap (level_from g.P.Processor.class_of c.args.engine.now input score 0) (end.1 ∙ c.requires.summable.score_of.samples)

pub returns-clause-calls : goal.returns-clause-calls
returns-clause-calls g c =
    let score = c.args.score.now in
    let first : c.into_iter-piece-iterator.result ≡ c.pieces-piece-items.result = search rules in
    let end = turns_end c.pieces_lie_end_to_end.ensures score c.pieces-piece-items.result c.into_iter-piece-iterator.result c.loop-piece.piece-iterator c.next.new.self c.loop-piece.yielded c.next.result first c.pieces-piece-items.ensures c.requires.summable.score_of.pattern c.loop-piece.yielded_by c.next.ensures.steps c.in-None.is in
    c.loop-piece.invariant.calls ∙ ap (λ n. map (called n) c.args.engine.now.calls) end.0

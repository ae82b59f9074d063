use Rattle.std.proofs.Common.{rules, ◌≡◌, ◌∙◌, ℕ, ◌+◌, List, [], ◌∷◌, ◌++◌, length, map, refl, sym, ap, subst, arith}
use Rattle.std.specs.List.Sorted.{IsNonDecreasing}
use Rattle.std.proofs.lemmas.List.{length_push}
use Rattle.vh_files.specs.Store.{told, Grows}
use Rattle.vh_num.specs.Frames.{Frame}
use Rattle.vh_plugin.specs.Counts.{raised}
use Rattle.vh_engine.proofs.Rooms.{same_twice}
use Rattle.vh_render.specs.Playing.{IsUnderWay, called}
use Rattle.vh_render.proofs.Calls.{calls_more, calls_none}
use Rattle.vh_render.proofs.Cuts.{start_in, piece_of, stops_rise, no_more_pieces}
use Rattle.vh_render.proofs.Pieces.{text_from, piece_grows, piece_grows_in_part, room_back}
use Rattle.vh_render.proofs.Texts.{grows_none}
use Rattle.vh_render.proofs.Turns.{turn_at, turns_end}
use Rattle.vh_render.proofs.Ways.{way_begins, input_kept}
use Rattle.vh_render.proofs.write.write_pieces.Goals as goal

pub pieces-piece-items-requires-clause-stops : goal.pieces-piece-items-requires-clause-stops
pieces-piece-items-requires-clause-stops g c =
    let playable = c.requires.playable in
    let P : List ℕ → Type 0 = λ l. IsNonDecreasing l in
    subst P (sym playable.score_of.stops_are) (stops_rise c.args.score.now.entries.now playable.entries.rising)

pub loop-piece-init : goal.loop-piece-init
loop-piece-init g c = record {
  way = way_begins g.P.Processor.class_of c.args.engine.now c.args.score.now c.args.room.now c.requires.playable;
  count = refl;
  stands = λ input playing. playing.stands;
  frames = λ input playing. grows_none (g.F.Files.complete c.args.files.now) (told (g.F.Files.held c.args.files.now) c.args.name.now);
  calls = sym (calls_none c.args.engine.now.calls);
  same = record { session = refl; codes = refl; firsts = refl; holders = refl; max = refl };
  space = c.requires.playable.space;
  there = c.requires.there;
  others = λ other apart. refl;
  later = omega arith;
  complete = refl;
  reads = refl;
}

pub write_piece-requires-clause-way : goal.write_piece-requires-clause-way
write_piece-requires-clause-way g c =
    let inv = c.loop-piece.invariant in
    let score = c.args.score.now in
    let first : c.into_iter-piece-iterator.result ≡ c.pieces-piece-items.result = search rules in
    let turn = turn_at c.pieces_lie_end_to_end.ensures score c.pieces-piece-items.result c.into_iter-piece-iterator.result c.loop-piece.piece-iterator c.next.new.self c.loop-piece.yielded c.next.result first c.pieces-piece-items.ensures c.requires.playable.score_of.pattern c.loop-piece.yielded_by c.next.ensures.steps c.in-Some.piece c.in-Some.is in
    let at = turn.1 in
    let P : ℕ → Type 0 = λ m. IsUnderWay g.P.Processor.class_of c.loop-piece.engine score m c.loop-piece.progress.taken in
    subst P (sym at.start) inv.way

pub loop-piece-preserved : goal.loop-piece-preserved
loop-piece-preserved g c =
    let inv = c.loop-piece.invariant in
    let score = c.args.score.now in
    let i = length c.loop-piece.yielded in
    let piece = c.in-Some.piece in
    let first : c.into_iter-piece-iterator.result ≡ c.pieces-piece-items.result = search rules in
    let turn = turn_at c.pieces_lie_end_to_end.ensures score c.pieces-piece-items.result c.into_iter-piece-iterator.result c.loop-piece.piece-iterator c.next.new.self c.loop-piece.yielded c.next.result first c.pieces-piece-items.ensures c.requires.playable.score_of.pattern c.loop-piece.yielded_by c.next.ensures.steps c.in-Some.piece c.in-Some.is in
    let at = turn.1 in
    let next : i + 1 ≡ length (c.loop-piece.yielded ++ piece ∷ []) = sym (length_push c.loop-piece.yielded piece) in
    let more = at.more in
    let W : ℕ → Type 0 = λ m. IsUnderWay g.P.Processor.class_of c.write_piece.new.engine score m c.in-Ok.taken in
    let G : List Frame → ℕ → Type 0 = λ input m. Grows (g.F.Files.complete c.args.files.now) (told (g.F.Files.held c.args.files.now) c.args.name.now) (told (g.F.Files.held c.write_piece.new.files) c.args.name.now) (text_from g.P.Processor.class_of c.args.engine.now input score 0 (start_in score m)) in
    record {
      way = subst W (sym more ∙ ap (start_in score) next) c.in-Ok.ensures.way;
      count = omega (arith, next, inv.count);
      stands = λ input playing. c.in-Ok.ensures.stands input (record { stands = inv.stands input playing; sound_is = input_kept g.P.Processor.class_of c.args.engine.now c.loop-piece.engine input score.sound.now inv.same playing.sound_is });
      frames = λ input playing. subst (G input) next (piece_grows g.P.Processor.class_of c.args.engine.now c.loop-piece.engine input score i piece (g.F.Files.complete c.args.files.now) (g.F.Files.complete c.loop-piece.files) _ _ _ inv.same at inv.complete
          (inv.frames input playing) (c.in-Ok.ensures.frames input (record { stands = inv.stands input playing; sound_is = input_kept g.P.Processor.class_of c.args.engine.now c.loop-piece.engine input score.sound.now inv.same playing.sound_is })));
      calls = c.in-Ok.ensures.calls ∙ ap (λ (l : List ℕ). map raised l) inv.calls ∙ calls_more i c.args.engine.now.calls ∙ ap (λ n. map (called n) c.args.engine.now.calls) next;
      same = same_twice c.args.engine.now c.loop-piece.engine c.write_piece.new.engine inv.same c.in-Ok.ensures.same;
      space = room_back c.args.engine.now c.loop-piece.engine c.write_piece.new.room inv.same c.in-Ok.ensures.space;
      there = c.in-Ok.ensures.there;
      others = λ other apart. c.in-Ok.ensures.others other apart ∙ inv.others other apart;
      later = let early = inv.later in let late = c.in-Ok.ensures.later in omega (arith, early, late);
      complete = c.in-Ok.ensures.complete ∙ inv.complete;
      reads = c.in-Ok.ensures.reads ∙ inv.reads;
    }

pub write_piece-requires-clause-piece : goal.write_piece-requires-clause-piece
write_piece-requires-clause-piece g c =
    let score = c.args.score.now in
    let first : c.into_iter-piece-iterator.result ≡ c.pieces-piece-items.result = search rules in
    let turn = turn_at c.pieces_lie_end_to_end.ensures score c.pieces-piece-items.result c.into_iter-piece-iterator.result c.loop-piece.piece-iterator c.next.new.self c.loop-piece.yielded c.next.result first c.pieces-piece-items.ensures c.requires.playable.score_of.pattern c.loop-piece.yielded_by c.next.ensures.steps c.in-Some.piece c.in-Some.is in
    let at = turn.1 in
    piece_of c.loop-piece.engine score (length c.loop-piece.yielded) c.in-Some.piece c.loop-piece.invariant.way.score_of at

pub overflow_add-progress : goal.overflow_add-progress
overflow_add-progress g c =
    let score = c.args.score.now in
    let first : c.into_iter-piece-iterator.result ≡ c.pieces-piece-items.result = search rules in
    let turn = turn_at c.pieces_lie_end_to_end.ensures score c.pieces-piece-items.result c.into_iter-piece-iterator.result c.loop-piece.piece-iterator c.next.new.self c.loop-piece.yielded c.next.result first c.pieces-piece-items.ensures c.requires.playable.score_of.pattern c.loop-piece.yielded_by c.next.ensures.steps c.in-Some.piece c.in-Some.is in
    let few = no_more_pieces c.pieces_lie_end_to_end.ensures score (length c.loop-piece.yielded) c.requires.playable.score_of.pattern (omega (arith, turn.0)) in
    let at = turn.1 in
    let start = at.start in
    let within = at.within in
    let count = c.loop-piece.invariant.count in
    let frames = c.requires.playable.score_of.frames in
    let most = score.sound.now.most in
    omega (arith, few, start, within, count, frames, most)

pub returns-in-Err-clause-part : goal.returns-in-Err-clause-part
returns-in-Err-clause-part g c = λ input playing.
    let score = c.args.score.now in
    let inv = c.loop-piece.invariant in
    let first : c.into_iter-piece-iterator.result ≡ c.pieces-piece-items.result = search rules in
    let turn = turn_at c.pieces_lie_end_to_end.ensures score c.pieces-piece-items.result c.into_iter-piece-iterator.result c.loop-piece.piece-iterator c.next.new.self c.loop-piece.yielded c.next.result first c.pieces-piece-items.ensures c.requires.playable.score_of.pattern c.loop-piece.yielded_by c.next.ensures.steps c.in-Some.piece c.in-Some.is in
    let at = turn.1 in
    piece_grows_in_part g.P.Processor.class_of c.args.engine.now c.loop-piece.engine input score (length c.loop-piece.yielded) c.in-Some.piece (g.F.Files.complete c.args.files.now) (g.F.Files.complete c.loop-piece.files) _ _ _
    inv.same at inv.complete c.requires.playable.score_of (inv.frames input playing)
    (c.in-Err.ensures.part input (record { stands = inv.stands input playing; sound_is = input_kept g.P.Processor.class_of c.args.engine.now c.loop-piece.engine input score.sound.now inv.same playing.sound_is }))

pub returns-in-Err-clause-left : goal.returns-in-Err-clause-left
returns-in-Err-clause-left g c = λ input playing.
    let inv = c.loop-piece.invariant in
    c.in-Err.ensures.left input (record { stands = inv.stands input playing; sound_is = input_kept g.P.Processor.class_of c.args.engine.now c.loop-piece.engine input c.args.score.now.sound.now inv.same playing.sound_is })

pub returns-in-Err-clause-stopped : goal.returns-in-Err-clause-stopped
returns-in-Err-clause-stopped g c =
    let score = c.args.score.now in
    let i = length c.loop-piece.yielded in
    let first : c.into_iter-piece-iterator.result ≡ c.pieces-piece-items.result = search rules in
    let turn = turn_at c.pieces_lie_end_to_end.ensures score c.pieces-piece-items.result c.into_iter-piece-iterator.result c.loop-piece.piece-iterator c.next.new.self c.loop-piece.yielded c.next.result first c.pieces-piece-items.ensures c.requires.playable.score_of.pattern c.loop-piece.yielded_by c.next.ensures.steps c.in-Some.piece c.in-Some.is in
    record {
      played = i + 1;
      few = omega (arith, turn.0);
      calls = c.in-Err.ensures.calls ∙ ap (λ (l : List ℕ). map raised l) c.loop-piece.invariant.calls ∙ calls_more i c.args.engine.now.calls;
      going = c.in-Err.ensures.going;
    }

pub returns-clause-way : goal.returns-clause-way
returns-clause-way g c =
    let score = c.args.score.now in
    let first : c.into_iter-piece-iterator.result ≡ c.pieces-piece-items.result = search rules in
    let end = turns_end c.pieces_lie_end_to_end.ensures score c.pieces-piece-items.result c.into_iter-piece-iterator.result c.loop-piece.piece-iterator c.next.new.self c.loop-piece.yielded c.next.result first c.pieces-piece-items.ensures c.requires.playable.score_of.pattern c.loop-piece.yielded_by c.next.ensures.steps c.in-None.is in
    let P : ℕ → Type 0 = λ m. IsUnderWay g.P.Processor.class_of c.loop-piece.engine score m c.loop-piece.progress.taken in
    subst P end.1 c.loop-piece.invariant.way

pub returns-clause-frames : goal.returns-clause-frames
returns-clause-frames g c = λ input playing.
    let score = c.args.score.now in
    let first : c.into_iter-piece-iterator.result ≡ c.pieces-piece-items.result = search rules in
    let end = turns_end c.pieces_lie_end_to_end.ensures score c.pieces-piece-items.result c.into_iter-piece-iterator.result c.loop-piece.piece-iterator c.next.new.self c.loop-piece.yielded c.next.result first c.pieces-piece-items.ensures c.requires.playable.score_of.pattern c.loop-piece.yielded_by c.next.ensures.steps c.in-None.is in
    let P : ℕ → Type 0 = λ m. Grows (g.F.Files.complete c.args.files.now) (told (g.F.Files.held c.args.files.now) c.args.name.now) (told (g.F.Files.held c.loop-piece.files) c.args.name.now) (text_from g.P.Processor.class_of c.args.engine.now input score 0 m) in
    subst P (end.1 ∙ c.requires.playable.score_of.samples) (c.loop-piece.invariant.frames input playing)

use Rattle.std.proofs.Common.{rules, ◌≡◌, ◌∙◌, ℕ, ◌+◌, ◌*◌, ◌≤◌, List, [], ◌∷◌, ◌++◌, length, take, sym, ap, subst, arith}
use Rattle.std.proofs.lemmas.List.{length_push, take_all}
use Rattle.vh_files.specs.Store.{told, Grows}
use Rattle.vh_live_host.specs.Waves.{samples_text}
use Rattle.vh_live_host.proofs.Pieces.{start_at, turn_at, turns_end, no_more_pieces}
use Rattle.vh_live_host.proofs.Waves.{piece_grows, piece_grows_in_part}
use Rattle.vh_live_host.proofs.wave.Wave.write_pieces.Goals as goal

pub write_piece-requires-clause-within : goal.write_piece-requires-clause-within
write_piece-requires-clause-within g c =
    let wave = c.args.self.now in
    let first : c.into_iter-piece-iterator.result ≡ c.pieces-piece-items.result = search rules in
    let turn = turn_at c.pieces_lie_end_to_end.ensures wave.frames wave.sizes.now c.requires.wave.pattern c.pieces-piece-items.result c.into_iter-piece-iterator.result c.loop-piece.piece-iterator c.next.new.self c.loop-piece.yielded c.next.result first c.pieces-piece-items.ensures c.loop-piece.yielded_by c.next.ensures.steps c.in-Some.piece c.in-Some.is in
    turn.1.within

pub write_piece-requires-clause-few : goal.write_piece-requires-clause-few
write_piece-requires-clause-few g c =
    let wave = c.args.self.now in
    let first : c.into_iter-piece-iterator.result ≡ c.pieces-piece-items.result = search rules in
    let turn = turn_at c.pieces_lie_end_to_end.ensures wave.frames wave.sizes.now c.requires.wave.pattern c.pieces-piece-items.result c.into_iter-piece-iterator.result c.loop-piece.piece-iterator c.next.new.self c.loop-piece.yielded c.next.result first c.pieces-piece-items.ensures c.loop-piece.yielded_by c.next.ensures.steps c.in-Some.piece c.in-Some.is in
    turn.1.few

pub overflow_add-count : goal.overflow_add-count
overflow_add-count g c =
    let wave = c.args.self.now in
    let first : c.into_iter-piece-iterator.result ≡ c.pieces-piece-items.result = search rules in
    let turn = turn_at c.pieces_lie_end_to_end.ensures wave.frames wave.sizes.now c.requires.wave.pattern c.pieces-piece-items.result c.into_iter-piece-iterator.result c.loop-piece.piece-iterator c.next.new.self c.loop-piece.yielded c.next.result first c.pieces-piece-items.ensures c.loop-piece.yielded_by c.next.ensures.steps c.in-Some.piece c.in-Some.is in
    let few = no_more_pieces c.pieces_lie_end_to_end.ensures wave.frames wave.sizes.now c.requires.wave.pattern (length c.loop-piece.yielded) (omega (arith, turn.0)) in
    let start = turn.1.start in
    let within = turn.1.within in
    let count = c.loop-piece.invariant.count in
    let most = c.requires.wave.few in
    omega (arith, few, start, within, count, most)

pub loop-piece-preserved : goal.loop-piece-preserved
loop-piece-preserved g c =
    let wave = c.args.self.now in
    let inv = c.loop-piece.invariant in
    let i = length c.loop-piece.yielded in
    let piece = c.in-Some.piece in
    let first : c.into_iter-piece-iterator.result ≡ c.pieces-piece-items.result = search rules in
    let turn = turn_at c.pieces_lie_end_to_end.ensures wave.frames wave.sizes.now c.requires.wave.pattern c.pieces-piece-items.result c.into_iter-piece-iterator.result c.loop-piece.piece-iterator c.next.new.self c.loop-piece.yielded c.next.result first c.pieces-piece-items.ensures c.loop-piece.yielded_by c.next.ensures.steps piece c.in-Some.is in
    let next : i + 1 ≡ length (c.loop-piece.yielded ++ piece ∷ []) = sym (length_push c.loop-piece.yielded piece) in
    let G : ℕ → Type 0 = λ m. Grows (g.F.Files.complete c.args.files.now) (told (g.F.Files.held c.args.files.now) c.args.name.now) (told (g.F.Files.held c.write_piece.new.files) c.args.name.now)
    (samples_text wave.bits (take (wave.channels * start_at wave.frames wave.sizes.now m) wave.samples.now)) in
    record {
      count = omega (arith, next, inv.count);
      grows = subst G next (piece_grows wave piece (start_at wave.frames wave.sizes.now i) (start_at wave.frames wave.sizes.now (i + 1)) (g.F.Files.complete c.args.files.now) (g.F.Files.complete c.loop-piece.files) _ _ _
          inv.complete turn.1.start turn.1.more inv.grows c.in-Ok.ensures.grows);
      room = c.write_piece.ensures.room ∙ inv.room;
      there = c.in-Ok.ensures.there;
      others = λ other apart. c.in-Ok.ensures.others other apart ∙ inv.others other apart;
      later = let early = inv.later in let late = c.in-Ok.ensures.later in omega (arith, early, late);
      complete = c.in-Ok.ensures.complete ∙ inv.complete;
      reads = c.in-Ok.ensures.reads ∙ inv.reads;
    }

pub returns-in-Err-clause-part : goal.returns-in-Err-clause-part
returns-in-Err-clause-part g c =
    let wave = c.args.self.now in
    let inv = c.loop-piece.invariant in
    let i = length c.loop-piece.yielded in
    let piece = c.in-Some.piece in
    let first : c.into_iter-piece-iterator.result ≡ c.pieces-piece-items.result = search rules in
    let turn = turn_at c.pieces_lie_end_to_end.ensures wave.frames wave.sizes.now c.requires.wave.pattern c.pieces-piece-items.result c.into_iter-piece-iterator.result c.loop-piece.piece-iterator c.next.new.self c.loop-piece.yielded c.next.result first c.pieces-piece-items.ensures c.loop-piece.yielded_by c.next.ensures.steps piece c.in-Some.is in
    piece_grows_in_part wave piece (start_at wave.frames wave.sizes.now i) (start_at wave.frames wave.sizes.now (i + 1)) (g.F.Files.complete c.args.files.now) (g.F.Files.complete c.loop-piece.files) _ _ _
    inv.complete turn.1.start turn.1.more inv.grows c.in-Err.ensures.part

pub returns-clause-grows : goal.returns-clause-grows
returns-clause-grows g c =
    let wave = c.args.self.now in
    let first : c.into_iter-piece-iterator.result ≡ c.pieces-piece-items.result = search rules in
    let end = turns_end c.pieces_lie_end_to_end.ensures wave.frames wave.sizes.now c.requires.wave.pattern c.pieces-piece-items.result c.into_iter-piece-iterator.result c.loop-piece.piece-iterator c.next.new.self c.loop-piece.yielded c.next.result first c.pieces-piece-items.ensures c.loop-piece.yielded_by c.next.ensures.steps c.in-None.is in
    let G : List ℕ → Type 0 = λ text. Grows (g.F.Files.complete c.args.files.now) (told (g.F.Files.held c.args.files.now) c.args.name.now) (told (g.F.Files.held c.loop-piece.files) c.args.name.now) text in
    let all : length wave.samples.now ≤ wave.channels * wave.frames = omega (arith, c.requires.wave.long) in
    subst G (ap (λ m. samples_text wave.bits (take (wave.channels * m) wave.samples.now)) end.1 ∙ ap (λ l. samples_text wave.bits l) (take_all (wave.channels * wave.frames) wave.samples.now all)) c.loop-piece.invariant.grows

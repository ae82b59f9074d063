use Rattle.std.proofs.Common.{rules, ◌≡◌, ◌∙◌, ◌+◌, ◌*◌, ◌++◌, ℕ, List, length, take, refl, sym, ap, subst}
use Rattle.std.proofs.lemmas.List.{take_at}
use Rattle.vh_journal.specs.declared.entry.Entry.{Entry}
use Rattle.vh_num.specs.Frames.{frames_of}
use Rattle.vh_engine.specs.Kept.{scene_in, Stands, MayCarry, AreOut}
use Rattle.vh_render.proofs.Between.{between, may_carry, taken_more}
use Rattle.vh_render.proofs.Renders.{one_or_two, piece_frames, piece_input}
use Rattle.vh_render.proofs.Cuts.{uncrossed_by}
use Rattle.vh_render.proofs.Ways.{way_goes_on}
use Rattle.vh_render.proofs.write.play_piece.Goals as goal

pub block-requires-clause-entries : goal.block-requires-clause-entries
block-requires-clause-entries g c =
    let way = c.requires.way in
    let kept = c.args.engine.now in
    let score = c.args.score.now in
    let scene = scene_in g.P.Processor.class_of kept in
    let piece = c.args.piece in
    let P : ℕ → Type 0 = λ at. MayCarry scene at (at + piece.length) kept.room (between c.args.taken c.place_of-next.result score.entries.now) in
    subst P (sym way.at_is)
    (may_carry scene score.length kept.room piece.start (piece.start + piece.length) c.args.taken c.place_of-next.result score.entries.now
    way.entries way.up_to c.place_of-next.ensures.up_to c.place_of-next.ensures.later (uncrossed_by score.stops.now score.entries.now piece way.score_of.stops_are c.requires.piece.uncrossed))

pub returns-clause-way : goal.returns-clause-way
returns-clause-way g c =
    way_goes_on g.P.Processor.class_of c.args.engine.now c.block.new.self c.args.score.now c.args.piece.start c.args.piece.length c.args.taken c.place_of-next.result
    c.requires.way c.block.ensures.same c.block.ensures.at c.block.ensures.flushed c.block.ensures.room c.place_of-next.ensures.up_to c.place_of-next.ensures.later

pub returns-clause-stands : goal.returns-clause-stands
returns-clause-stands g c = λ input playing.
    let way = c.requires.way in
    let score = c.args.score.now in
    let piece = c.args.piece in
    let comes = piece_input g.P.Processor.class_of c.args.engine.now score input piece.start piece.length c.piece-heard.result.now way.score_of way.at_is c.requires.piece.within playing.sound_is c.piece-heard.ensures.frames in
    let P : List Entry → Type 0 = λ h. Stands g.P.Processor.class_of c.block.new.self input h in
    subst P (taken_more c.args.taken c.place_of-next.result score.entries.now c.place_of-next.ensures.later) (c.block.ensures.stands input (take c.args.taken score.entries.now) playing.stands comes)

pub returns-clause-frames : goal.returns-clause-frames
returns-clause-frames g c = λ input playing.
    let way = c.requires.way in
    let kept = c.args.engine.now in
    let scene = scene_in g.P.Processor.class_of kept in
    let score = c.args.score.now in
    let piece = c.args.piece in
    let next = c.place_of-next.result in
    let taken = take c.args.taken score.entries.now ++ between c.args.taken next score.entries.now in
    let comes = piece_input g.P.Processor.class_of kept score input piece.start piece.length c.piece-heard.result.now way.score_of way.at_is c.requires.piece.within playing.sound_is c.piece-heard.ensures.frames in
    let P : ℕ → Type 0 = λ at. AreOut scene input taken at piece.length c.block.new.outs in
    let out : P piece.start = subst P way.at_is (c.block.ensures.out input (take c.args.taken score.entries.now) playing.stands comes) in
    let long : length c.block.new.outs ≡ score.sound.now.channels * piece.length = c.block.ensures.long ∙ search rules in
    ap (frames_of score.sound.now.channels) (take_at c.block.new.outs _ (score.sound.now.channels * piece.length) long)
    ∙ piece_frames c.frames_are_in_place.ensures scene input score.entries.now taken next (piece.start + piece.length) piece.start piece.length score.sound.now.channels c.block.new.outs
    (one_or_two score.sound.now) (sym way.score_of.channels) long (taken_more c.args.taken next score.entries.now c.place_of-next.ensures.later) c.place_of-next.ensures.up_to refl out

use Rattle.std.proofs.Common.{rules, ◌≡◌, ◌∙◌, ℕ, ℤ, ◌*◌, List, take, ap, subst}
use Rattle.std.proofs.lemmas.List.{with_items_is}
use Rattle.vh_files.specs.Store.{told, GrowsInPart}
use Rattle.vh_num.specs.Frames.{Frame, frames_of}
use Rattle.vh_wav.specs.Text.{frames_text}
use Rattle.vh_render.proofs.write.write_piece.Goals as goal

pub returns-in-Err-clause-part : goal.returns-in-Err-clause-part
returns-in-Err-clause-part g c = λ input playing.
    let score = c.args.score.now in
    let n = c.args.piece.length in
    let used : c.deref-2.result.now ≡ c.frame_bytes-used.new.out =
    c.deref-2.ensures.value ∙ with_items_is c.args.room.now.bytes c.frame_bytes-used.new.out (c.frame_bytes-used.auto.out ∙ c.deref_mut-3.ensures.len) in
    let channels : c.from-channels.result ≡ score.sound.now.channels = search rules in
    let outs : c.deref.result.now ≡ c.play_piece-next.new.outs =
    c.deref.ensures.value ∙ with_items_is c.args.room.now.outs c.play_piece-next.new.outs (c.play_piece-next.auto.outs ∙ c.deref_mut-2.ensures.len) in
    let same = ap (take c.frame_bytes-used.result) used ∙ c.frame_bytes-used.ensures.bytes
    ∙ ap (λ k. frames_text score.bits (frames_of k (take (k * n) c.deref.result.now))) channels
    ∙ ap (λ (l : List ℤ). frames_text score.bits (frames_of score.sound.now.channels (take (score.sound.now.channels * n) l))) outs
    ∙ ap (λ (l : List Frame). frames_text score.bits l) (c.play_piece-next.ensures.frames input playing) in
    let P : List ℕ → Type 0 = λ l. GrowsInPart (g.F.Files.complete c.args.files.now) (told (g.F.Files.held c.args.files.now) c.args.name.now) (told (g.F.Files.held c.append_all.new.files) c.args.name.now) l in
    subst P same c.in-Err.ensures.err

pub returns-in-Err-clause-left : goal.returns-in-Err-clause-left
returns-in-Err-clause-left g c = λ input playing. (c.play_piece-next.result, c.play_piece-next.ensures.stands input playing)

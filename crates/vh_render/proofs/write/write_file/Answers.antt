use Rattle.std.proofs.Common.{rules, ◌≡◌, ◌∙◌, ◌++◌, ℕ, List, [], ◌∷◌, Err, inr, sym, subst, append_assoc, arith}
use Rattle.std.proofs.lemmas.List.{append-nil}
use Rattle.vh_files.specs.Store.{told, HasNow, GrowsInPart}
use Rattle.vh_wav.specs.Text.{head_text, frames_text}
use Rattle.vh_meaning.specs.Rendering.{rendering}
use Rattle.vh_engine.specs.Kept.{scene_in}
use Rattle.vh_render.specs.Playing.{file_text}
use Rattle.vh_render.proofs.Calls.{calls_none}
use Rattle.vh_render.proofs.Texts.{on_err, has_head, has_more, has_part, pad_of, file_is, file_odd, file_even}
use Rattle.vh_render.proofs.write.write_file.Goals as goal

pub returns-in_err-append_all-clause-part : goal.returns-in_err-append_all-clause-part
returns-in_err-append_all-clause-part g c = λ input playing.
    let score = c.args.score.now in
    let frames = frames_text score.bits (rendering (scene_in g.P.Processor.class_of c.args.engine.now) input score.entries.now) in
    let pad = pad_of score.sound.now.channels score.bits score.length in
    let whole = file_text (scene_in g.P.Processor.class_of c.args.engine.now) input score in
    let head = head_text score.sound.now.channels score.rate score.bits score.length in
    let all : ([] ++ head) ++ (frames ++ pad) ≡ whole = sym (append_assoc head frames pad) ∙ file_is g.P.Processor.class_of c.args.engine.now input score c.requires.playable.score_of in
    let P : List ℕ → Type 0 = λ l. GrowsInPart (g.F.Files.complete c.create.new.self) (told (g.F.Files.held c.create.new.self) c.args.name.now) (told (g.F.Files.held c.append_all.new.files) c.args.name.now) l in
    let is : c.from_residual-in_err-append_all.result ≡ Err c.in_err-append_all.field-0.0 = search rules in
    on_err _ _ _ is (inr (has_part (g.F.Files.complete c.args.files.now) (g.F.Files.complete c.create.new.self) _ _ [] head (frames ++ pad) whole c.in_ok-create.ensures.complete all c.in_ok-create.ensures.empty (subst P c.head_bytes-head.ensures c.in_err-append_all.ensures.err)))

pub returns-in_err-append_all-clause-stopped : goal.returns-in_err-append_all-clause-stopped
returns-in_err-append_all-clause-stopped g c =
    let is : c.from_residual-in_err-append_all.result ≡ Err c.in_err-append_all.field-0.0 = search rules in
    on_err _ _ _ is (record { played = 0; few = omega arith; calls = sym (calls_none c.args.engine.now.calls); going = c.requires.playable.going })

pub returns-in_err-progress-clause-part : goal.returns-in_err-progress-clause-part
returns-in_err-progress-clause-part g c = λ input playing.
    let score = c.args.score.now in
    let frames = frames_text score.bits (rendering (scene_in g.P.Processor.class_of c.args.engine.now) input score.entries.now) in
    let whole = file_text (scene_in g.P.Processor.class_of c.args.engine.now) input score in
    let head = has_head (g.F.Files.complete c.args.files.now) (g.F.Files.complete c.create.new.self) _ _ _ _ c.in_ok-create.ensures.complete c.in_ok-create.ensures.empty c.in_ok-append_all.ensures.ok c.head_bytes-head.ensures in
    let is : c.from_residual-in_err-progress.result ≡ Err c.in_err-progress.field-0.0 = search rules in
    on_err _ _ _ is (inr (has_part (g.F.Files.complete c.args.files.now) (g.F.Files.complete c.append_all.new.files) _ _ _ frames (pad_of score.sound.now.channels score.bits score.length) whole (c.in_ok-append_all.ensures.complete ∙ c.in_ok-create.ensures.complete)
    (file_is g.P.Processor.class_of c.args.engine.now input score c.requires.playable.score_of) head (c.in_err-progress.ensures.part input playing)))

pub returns-in_err-append_all-2-clause-part : goal.returns-in_err-append_all-2-clause-part
returns-in_err-append_all-2-clause-part g c = λ input playing.
    let score = c.args.score.now in
    let frames = frames_text score.bits (rendering (scene_in g.P.Processor.class_of c.args.engine.now) input score.entries.now) in
    let whole = file_text (scene_in g.P.Processor.class_of c.args.engine.now) input score in
    let head = has_head (g.F.Files.complete c.args.files.now) (g.F.Files.complete c.create.new.self) _ _ _ _ c.in_ok-create.ensures.complete c.in_ok-create.ensures.empty c.in_ok-append_all.ensures.ok c.head_bytes-head.ensures in
    let still = c.in_ok-append_all.ensures.complete ∙ c.in_ok-create.ensures.complete in
    let body = has_more (g.F.Files.complete c.args.files.now) (g.F.Files.complete c.append_all.new.files) _ _ _ frames still head (c.in_ok-progress.ensures.frames input playing) in
    let all = append-nil _ ∙ file_odd g.P.Processor.class_of c.args.engine.now input score c.requires.playable.score_of (sym c.is_odd.ensures ∙ c.if-is_odd.true) in
    let is : c.from_residual-in_err-append_all-2.result ≡ Err c.in_err-append_all-2.field-0.0 = search rules in
    on_err _ _ _ is (inr (has_part (g.F.Files.complete c.args.files.now) (g.F.Files.complete c.write_pieces.new.files) _ _ _ (0 ∷ []) [] whole (c.in_ok-progress.ensures.complete ∙ still) all body c.in_err-append_all-2.ensures.err))

pub returns-in_ok-append_all-2-clause-file : goal.returns-in_ok-append_all-2-clause-file
returns-in_ok-append_all-2-clause-file g c = λ input playing.
    let score = c.args.score.now in
    let frames = frames_text score.bits (rendering (scene_in g.P.Processor.class_of c.args.engine.now) input score.entries.now) in
    let head = has_head (g.F.Files.complete c.args.files.now) (g.F.Files.complete c.create.new.self) _ _ _ _ c.in_ok-create.ensures.complete c.in_ok-create.ensures.empty c.in_ok-append_all.ensures.ok c.head_bytes-head.ensures in
    let still = c.in_ok-append_all.ensures.complete ∙ c.in_ok-create.ensures.complete in
    let body = has_more (g.F.Files.complete c.args.files.now) (g.F.Files.complete c.append_all.new.files) _ _ _ frames still head (c.in_ok-progress.ensures.frames input playing) in
    let W : List ℕ → Type 0 = λ l. HasNow (g.F.Files.complete c.args.files.now) (told (g.F.Files.held c.append_all-then-is_odd.new.files) c.args.name.now) l in
    subst W (file_odd g.P.Processor.class_of c.args.engine.now input score c.requires.playable.score_of (sym c.is_odd.ensures ∙ c.if-is_odd.true))
    (has_more (g.F.Files.complete c.args.files.now) (g.F.Files.complete c.write_pieces.new.files) _ _ _ (0 ∷ []) (c.in_ok-progress.ensures.complete ∙ still) body c.in_ok-append_all-2.ensures.ok)

pub returns-else-is_odd-clause-file : goal.returns-else-is_odd-clause-file
returns-else-is_odd-clause-file g c = λ input playing.
    let score = c.args.score.now in
    let frames = frames_text score.bits (rendering (scene_in g.P.Processor.class_of c.args.engine.now) input score.entries.now) in
    let head = has_head (g.F.Files.complete c.args.files.now) (g.F.Files.complete c.create.new.self) _ _ _ _ c.in_ok-create.ensures.complete c.in_ok-create.ensures.empty c.in_ok-append_all.ensures.ok c.head_bytes-head.ensures in
    let still = c.in_ok-append_all.ensures.complete ∙ c.in_ok-create.ensures.complete in
    let W : List ℕ → Type 0 = λ l. HasNow (g.F.Files.complete c.args.files.now) (told (g.F.Files.held c.write_pieces.new.files) c.args.name.now) l in
    subst W (file_even g.P.Processor.class_of c.args.engine.now input score c.requires.playable.score_of (sym c.is_odd.ensures ∙ c.if-is_odd.false))
    (has_more (g.F.Files.complete c.args.files.now) (g.F.Files.complete c.append_all.new.files) _ _ _ frames still head (c.in_ok-progress.ensures.frames input playing))

pub returns-in_err-append_all-2-clause-left : goal.returns-in_err-append_all-2-clause-left
returns-in_err-append_all-2-clause-left g c = λ input playing.
    let is : c.from_residual-in_err-append_all-2.result ≡ Err c.in_err-append_all-2.field-0.0 = search rules in
    on_err _ _ _ is (c.in_ok-progress.progress.taken, c.in_ok-progress.ensures.stands input playing)

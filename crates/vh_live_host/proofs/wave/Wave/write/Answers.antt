use Rattle.std.proofs.Common.{rules, ◌≡◌, ◌∙◌, ◌++◌, ℕ, List, [], ◌∷◌, Err, inr, sym, subst, append_assoc}
use Rattle.std.proofs.lemmas.List.{append-nil}
use Rattle.vh_files.specs.Store.{told, HasNow, GrowsInPart}
use Rattle.vh_wav.specs.Text.{head_text}
use Rattle.vh_render.proofs.Texts.{on_err, has_head, has_more, has_part, pad_of}
use Rattle.vh_live_host.specs.Waves.{samples_text, wave_text}
use Rattle.vh_live_host.proofs.Waves.{wave_is, wave_odd, wave_even}
use Rattle.vh_live_host.proofs.wave.Wave.write.Goals as goal

pub returns-in_err-append_all-clause-part : goal.returns-in_err-append_all-clause-part
returns-in_err-append_all-clause-part g c =
    let wave = c.args.self.now in
    let frames = samples_text wave.bits wave.samples.now in
    let pad = pad_of wave.channels wave.bits wave.frames in
    let head = head_text wave.channels wave.rate wave.bits wave.frames in
    let all : ([] ++ head) ++ (frames ++ pad) ≡ wave_text wave = sym (append_assoc head frames pad) ∙ wave_is wave c.requires.wave in
    let P : List ℕ → Type 0 = λ l. GrowsInPart (g.F.Files.complete c.create.new.self) (told (g.F.Files.held c.create.new.self) c.args.name.now) (told (g.F.Files.held c.append_all.new.files) c.args.name.now) l in
    let is : c.from_residual-in_err-append_all.result ≡ Err c.in_err-append_all.field-0.0 = search rules in
    on_err _ _ _ is (inr (has_part (g.F.Files.complete c.args.files.now) (g.F.Files.complete c.create.new.self) _ _ [] head (frames ++ pad) (wave_text wave) c.in_ok-create.ensures.complete all c.in_ok-create.ensures.empty (subst P c.head_bytes-head.ensures c.in_err-append_all.ensures.err)))

pub returns-in_err-count-clause-part : goal.returns-in_err-count-clause-part
returns-in_err-count-clause-part g c =
    let wave = c.args.self.now in
    let head = has_head (g.F.Files.complete c.args.files.now) (g.F.Files.complete c.create.new.self) _ _ _ _ c.in_ok-create.ensures.complete c.in_ok-create.ensures.empty c.in_ok-append_all.ensures.ok c.head_bytes-head.ensures in
    let is : c.from_residual-in_err-count.result ≡ Err c.in_err-count.field-0.0 = search rules in
    on_err _ _ _ is (inr (has_part (g.F.Files.complete c.args.files.now) (g.F.Files.complete c.append_all.new.files) _ _ _ (samples_text wave.bits wave.samples.now) (pad_of wave.channels wave.bits wave.frames) (wave_text wave)
    (c.in_ok-append_all.ensures.complete ∙ c.in_ok-create.ensures.complete) (wave_is wave c.requires.wave) head c.in_err-count.ensures.part))

pub returns-in_err-append_all-2-clause-part : goal.returns-in_err-append_all-2-clause-part
returns-in_err-append_all-2-clause-part g c =
    let wave = c.args.self.now in
    let head = has_head (g.F.Files.complete c.args.files.now) (g.F.Files.complete c.create.new.self) _ _ _ _ c.in_ok-create.ensures.complete c.in_ok-create.ensures.empty c.in_ok-append_all.ensures.ok c.head_bytes-head.ensures in
    let still = c.in_ok-append_all.ensures.complete ∙ c.in_ok-create.ensures.complete in
    let body = has_more (g.F.Files.complete c.args.files.now) (g.F.Files.complete c.append_all.new.files) _ _ _ (samples_text wave.bits wave.samples.now) still head c.in_ok-count.ensures.grows in
    let all = append-nil _ ∙ wave_odd wave c.requires.wave (sym c.is_odd.ensures ∙ c.if-is_odd.true) in
    let is : c.from_residual-in_err-append_all-2.result ≡ Err c.in_err-append_all-2.field-0.0 = search rules in
    on_err _ _ _ is (inr (has_part (g.F.Files.complete c.args.files.now) (g.F.Files.complete c.write_pieces.new.files) _ _ _ (0 ∷ []) [] (wave_text wave) (c.in_ok-count.ensures.complete ∙ still) all body c.in_err-append_all-2.ensures.err))

pub returns-in_ok-append_all-2-clause-whole : goal.returns-in_ok-append_all-2-clause-whole
returns-in_ok-append_all-2-clause-whole g c =
    let wave = c.args.self.now in
    let head = has_head (g.F.Files.complete c.args.files.now) (g.F.Files.complete c.create.new.self) _ _ _ _ c.in_ok-create.ensures.complete c.in_ok-create.ensures.empty c.in_ok-append_all.ensures.ok c.head_bytes-head.ensures in
    let still = c.in_ok-append_all.ensures.complete ∙ c.in_ok-create.ensures.complete in
    let body = has_more (g.F.Files.complete c.args.files.now) (g.F.Files.complete c.append_all.new.files) _ _ _ (samples_text wave.bits wave.samples.now) still head c.in_ok-count.ensures.grows in
    let W : List ℕ → Type 0 = λ l. HasNow (g.F.Files.complete c.args.files.now) (told (g.F.Files.held c.append_all-then-is_odd.new.files) c.args.name.now) l in
    subst W (wave_odd wave c.requires.wave (sym c.is_odd.ensures ∙ c.if-is_odd.true))
    (has_more (g.F.Files.complete c.args.files.now) (g.F.Files.complete c.write_pieces.new.files) _ _ _ (0 ∷ []) (c.in_ok-count.ensures.complete ∙ still) body c.in_ok-append_all-2.ensures.ok)

pub returns-else-is_odd-clause-whole : goal.returns-else-is_odd-clause-whole
returns-else-is_odd-clause-whole g c =
    let wave = c.args.self.now in
    let head = has_head (g.F.Files.complete c.args.files.now) (g.F.Files.complete c.create.new.self) _ _ _ _ c.in_ok-create.ensures.complete c.in_ok-create.ensures.empty c.in_ok-append_all.ensures.ok c.head_bytes-head.ensures in
    let still = c.in_ok-append_all.ensures.complete ∙ c.in_ok-create.ensures.complete in
    let W : List ℕ → Type 0 = λ l. HasNow (g.F.Files.complete c.args.files.now) (told (g.F.Files.held c.write_pieces.new.files) c.args.name.now) l in
    subst W (wave_even wave c.requires.wave (sym c.is_odd.ensures ∙ c.if-is_odd.false))
    (has_more (g.F.Files.complete c.args.files.now) (g.F.Files.complete c.append_all.new.files) _ _ _ (samples_text wave.bits wave.samples.now) still head c.in_ok-count.ensures.grows)

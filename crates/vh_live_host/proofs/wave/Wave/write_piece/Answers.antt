use Rattle.std.proofs.Common.{rules, ◌≡◌, ◌∙◌, ℕ, ◌+◌, ◌-◌, ◌*◌, List, take, drop, ap, subst, arith}
use Rattle.std.specs.Prelude.{OnOk, OnErr}
use Rattle.vh_files.specs.Store.{told, Grows, GrowsInPart}
use Rattle.vh_live_host.proofs.Waves.{mono_text, piece_samples}
use Rattle.vh_live_host.proofs.wave.Wave.write_piece.Goals as goal

pub returns-clause-grows : goal.returns-clause-grows
returns-clause-grows g c =
    let wave = c.args.self.now in
    let channels : c.from-channels.result ≡ wave.channels = search rules in
    let from = c.from-channels.result * c.args.piece.start in
    let count = from + c.from-channels.result * c.args.piece.length - from in
    let long : count ≡ c.from-channels.result * c.args.piece.length = omega arith in
    let bytes = c.frame_bytes-used.ensures.bytes ∙ mono_text wave.bits (take count (drop from wave.samples.now))
    ∙ piece_samples wave c.args.piece from count (ap (λ n. n * c.args.piece.start) channels) (long ∙ ap (λ n. n * c.args.piece.length) channels) in
    let P : List ℕ → Type 0 = λ l. OnOk c.append_all.result (Grows (g.F.Files.complete c.args.files.now) (told (g.F.Files.held c.args.files.now) c.args.name.now) (told (g.F.Files.held c.append_all.new.files) c.args.name.now) l) in
    subst P bytes c.append_all.ensures.ok

pub returns-clause-part : goal.returns-clause-part
returns-clause-part g c =
    let wave = c.args.self.now in
    let channels : c.from-channels.result ≡ wave.channels = search rules in
    let from = c.from-channels.result * c.args.piece.start in
    let count = from + c.from-channels.result * c.args.piece.length - from in
    let long : count ≡ c.from-channels.result * c.args.piece.length = omega arith in
    let bytes = c.frame_bytes-used.ensures.bytes ∙ mono_text wave.bits (take count (drop from wave.samples.now))
    ∙ piece_samples wave c.args.piece from count (ap (λ n. n * c.args.piece.start) channels) (long ∙ ap (λ n. n * c.args.piece.length) channels) in
    let P : List ℕ → Type 0 = λ l. OnErr c.append_all.result (GrowsInPart (g.F.Files.complete c.args.files.now) (told (g.F.Files.held c.args.files.now) c.args.name.now) (told (g.F.Files.held c.append_all.new.files) c.args.name.now) l) in
    subst P bytes c.append_all.ensures.err

use Rattle.std.proofs.Common.{rules, ◌≡◌, ◌∙◌, ℕ, List, ap, sym, subst, ◌⊎◌}
use Rattle.std.specs.String.{string_bytes}
use Rattle.vh_files.specs.Store.{told, HasNow}
use Rattle.vh_num.specs.Frames.{Frame}
use Rattle.vh_wav.specs.Text.{head_text}
use Rattle.vh_link.specs.Outputs.{HasPart}
use Rattle.vh_link.specs.Link.{Link, Wrote}
use Rattle.vh_link.proofs.Links.{started_now}
use Rattle.vh_link.proofs.link.WavLink.start.Goals as goal

pub returns-in-Ok-clause-wrote : goal.returns-in-Ok-clause-wrote
returns-in-Ok-clause-wrote g c = λ frames wrote.
    let inside = c.self.inside in
    let P : Link g.row.F.Denot → Type 0 = λ link. Wrote g.F.Files.complete g.F.Files.held link frames in
    let N : List ℕ → Type 0 = λ name. HasNow (g.F.Files.complete inside.files.now) (told (g.F.Files.held c.write_head.new.files) name) (head_text inside.head.channels inside.head.rate inside.bits c.args.frames) in
    let none : inside.pushed ≡ 0 = ap (λ (link : Link g.row.F.Denot). link.pushed) c.self.view_is ∙ c.requires.pushed in
    started_now (g.F.Files.complete inside.files.now) _ (g.F.Files.held inside.files.now) _ (string_bytes inside.output) inside.head inside.bits inside.room c.args.frames inside.pushed inside.started _ frames none c.in-Ok.ensures.complete
    (subst N c.as_str.ensures.value c.in-Ok.ensures.text) (subst P (sym c.self.view_is) wrote)

pub returns-in-Err-clause-part : goal.returns-in-Err-clause-part
returns-in-Err-clause-part g c =
    let inside = c.self.inside in
    let now = g.F.Files.held c.write_head.new.files in
    let P : Link g.row.F.Denot → Type 0 = λ link. (now ≡ g.F.Files.held link.store) ⊎ HasPart (g.F.Files.complete link.store) (told now link.output) (head_text link.head.channels link.head.rate link.bits c.args.frames) in
    let N : List ℕ → Type 0 = λ name. (now ≡ g.F.Files.held inside.files.now) ⊎ HasPart (g.F.Files.complete inside.files.now) (told now name) (head_text inside.head.channels inside.head.rate inside.bits c.args.frames) in
    subst P c.self.view_is (subst N c.as_str.ensures.value c.in-Err.ensures.part)

use Rattle.std.proofs.Common.{◌≡◌, ◌∙◌, ℕ, List, [], true, take, refl, ap, sym, subst}
use Rattle.std.specs.Result.{OnOk, OnErr}
use Rattle.std.specs.String.{string_bytes}
use Rattle.vh_files.specs.Store.{told, HasNow, Grows, GrowsInPart}
use Rattle.vh_num.specs.Frames.{Frame, frames_of}
use Rattle.vh_wav.specs.Text.{wav_text}
use Rattle.vh_link.specs.Outputs.{HasPart, pad_text}
use Rattle.vh_link.specs.Link.{Link, Wrote}
use Rattle.vh_link.proofs.Links.{ended, ended_in_part, on_ok_along, on_err_along}
use Rattle.vh_link.proofs.link.WavLink.finish.Goals as goal

pub returns-clause-file : goal.returns-clause-file
returns-clause-file g c = λ frames wrote.
    let inside = c.self.inside in
    let old = g.F.Files.held inside.files.now in
    let new = g.F.Files.held c.write_pad.new.files in
    let cut = frames_of inside.head.channels (take inside.kept inside.cut.items) in
    let P : Link g.row.F.Denot → Type 0 = λ link. Wrote g.F.Files.complete g.F.Files.held link frames in
    let all : inside.pushed ≡ inside.room = ap (λ (link : Link g.row.F.Denot). link.pushed) c.self.view_is ∙ c.requires.all ∙ sym (ap (λ (link : Link g.row.F.Denot). link.room) c.self.view_is) in
    let uncut : cut ≡ [] = ap (λ (link : Link g.row.F.Denot). link.cut) c.self.view_is ∙ c.requires.whole in
    let started : inside.started ≡ true = ap (λ (link : Link g.row.F.Denot). link.started) c.self.view_is ∙ c.requires.started in
    let G : List ℕ → Type 0 = λ name. Grows (g.F.Files.complete inside.files.now) (told old name) (told new name) (pad_text inside.head.channels inside.bits inside.pushed) in
    let N : Link g.row.F.Denot → Type 0 = λ link. HasNow (g.F.Files.complete link.store) (told new link.output) (wav_text link.head.channels link.head.rate link.bits frames) in
    on_ok_along c.write_pad.result _ _ (λ grown.
    subst N c.self.view_is
    (ended (g.F.Files.complete inside.files.now) (g.F.Files.complete inside.files.now) old new (string_bytes inside.output) inside.head inside.bits inside.room inside.pushed cut frames all uncut refl
    inside.started started (subst P (sym c.self.view_is) wrote) (subst G c.as_str.ensures.value grown))) c.write_pad.ensures.grown

pub returns-clause-part : goal.returns-clause-part
returns-clause-part g c = λ frames wrote.
    let inside = c.self.inside in
    let old = g.F.Files.held inside.files.now in
    let new = g.F.Files.held c.write_pad.new.files in
    let cut = frames_of inside.head.channels (take inside.kept inside.cut.items) in
    let P : Link g.row.F.Denot → Type 0 = λ link. Wrote g.F.Files.complete g.F.Files.held link frames in
    let all : inside.pushed ≡ inside.room = ap (λ (link : Link g.row.F.Denot). link.pushed) c.self.view_is ∙ c.requires.all ∙ sym (ap (λ (link : Link g.row.F.Denot). link.room) c.self.view_is) in
    let uncut : cut ≡ [] = ap (λ (link : Link g.row.F.Denot). link.cut) c.self.view_is ∙ c.requires.whole in
    let started : inside.started ≡ true = ap (λ (link : Link g.row.F.Denot). link.started) c.self.view_is ∙ c.requires.started in
    let G : List ℕ → Type 0 = λ name. GrowsInPart (g.F.Files.complete inside.files.now) (told old name) (told new name) (pad_text inside.head.channels inside.bits inside.pushed) in
    let N : Link g.row.F.Denot → Type 0 = λ link. HasPart (g.F.Files.complete link.store) (told new link.output) (wav_text link.head.channels link.head.rate link.bits frames) in
    on_err_along c.write_pad.result _ _ (λ part.
    subst N c.self.view_is
    (ended_in_part (g.F.Files.complete inside.files.now) (g.F.Files.complete inside.files.now) old new (string_bytes inside.output) inside.head inside.bits inside.room inside.pushed cut frames all uncut refl
    inside.started started (subst P (sym c.self.view_is) wrote) (subst G c.as_str.ensures.value part))) c.write_pad.ensures.part

use Rattle.std.proofs.Common.{rules, ◌≡◌, ◌≤◌, ◌∙◌, ℕ, ℤ, ◌+◌, ◌*◌, List, [], length, take, ap, sym, subst, arith}
use Rattle.std.proofs.lemmas.List.{with_items_is}
use Rattle.std.specs.String.{string_bytes}
use Rattle.vh_files.specs.Store.{told, Grows, GrowsInPart, SameElsewhere}
use Rattle.vh_num.specs.Frames.{Frame, frames_of}
use Rattle.vh_num.proofs.InPlace.{law_frames_are_in_place}
use Rattle.vh_wav.specs.declared.head.Head.{Head}
use Rattle.vh_wav.specs.Laws.{HasChannels}
use Rattle.vh_wav.specs.Text.{frames_text}
use Rattle.vh_link.specs.Link.{Link, Wrote, fixed_of}
use Rattle.vh_link.proofs.Links.{pushed_more, pushed_part, wide_frames, same_others, fixed_is}
use Rattle.vh_link.proofs.link.WavLinkFrames.push.Goals as goal

pub returns-in-Ok-clause-wrote : goal.returns-in-Ok-clause-wrote
returns-in-Ok-clause-wrote g c = λ before wrote.
    let inside = c.self.inside in
    let n = c.args.n in
    let samples = c.args.frames.now in
    let keeps = c.self.invariant.0 in
    let old = g.F.Files.held inside.files.now in
    let new = g.F.Files.held c.write_frames.new.files in
    let more = frames_of c.args.self.now.head.channels samples in
    let P : Link g.row.F.Denot → Type 0 = λ link. Wrote g.F.Files.complete g.F.Files.held link before in
    let G : List ℕ → Type 0 = λ name. Grows (g.F.Files.complete inside.files.now) (told old name) (told new name) (frames_text inside.bits (frames_of inside.head.channels samples)) in
    let M : List Frame → Type 0 = λ frames. (length frames ≡ n) × HasChannels inside.head.channels frames × Grows (g.F.Files.complete inside.files.now) (told old (string_bytes inside.output)) (told new (string_bytes inside.output)) (frames_text inside.bits frames) in
    let head : inside.head ≡ c.args.self.now.head = ap (λ (link : Link g.row.F.Denot). link.head) c.self.view_is in
    let long : length samples ≡ inside.head.channels * n = c.requires.long ∙ ap (λ (h : Head). h.channels * n) (sym head) in
    let none = ap (λ (link : Link g.row.F.Denot). link.cut) c.self.view_is ∙ c.requires.whole in
    let room : inside.room ≡ c.args.self.now.room = ap (λ (link : Link g.row.F.Denot). link.room) c.self.view_is in
    let pushed : inside.pushed ≡ c.args.self.now.pushed = ap (λ (link : Link g.row.F.Denot). link.pushed) c.self.view_is in
    let fits : inside.pushed + n ≤ inside.room = let most = c.requires.room in omega (arith, room, pushed, most) in
    let count = (law_frames_are_in_place inside.head.channels n samples keeps.lawful.channels long).0 in
    let added = subst M (ap (λ (h : Head). frames_of h.channels samples) head) (count, wide_frames inside.head.channels n samples keeps.lawful.channels long, subst G c.as_str.ensures.value c.in-Ok.ensures.grown) in
    pushed_more (g.F.Files.complete inside.files.now) (g.F.Files.complete c.write_frames.new.files) old new (string_bytes inside.output) inside.head inside.bits inside.room inside.pushed (frames_of inside.head.channels (take inside.kept inside.cut.items)) before more
    n inside.started keeps.none_before c.requires.some fits none c.in-Ok.ensures.complete added.0 added.1 added.2
    (subst P (sym c.self.view_is) wrote)

pub returns-in-Ok-clause-rest : goal.returns-in-Ok-clause-rest
returns-in-Ok-clause-rest g c =
    let inside = c.self.inside in
    let E : List ℕ → Type 0 = λ name. SameElsewhere name (g.F.Files.held inside.files.now) (g.F.Files.held c.write_frames.new.files) in
    fixed_is _ _ _ c.in-Ok.ensures.complete (same_others (string_bytes inside.output) _ _ (subst E c.as_str.ensures.value c.in-Ok.ensures.others))
    ∙ ap (fixed_of g.F.Files.complete g.F.Files.held) c.self.view_is

pub returns-in-Err-clause-kept : goal.returns-in-Err-clause-kept
returns-in-Err-clause-kept g c = λ before wrote.
    let inside = c.self.inside in
    let samples = c.args.frames.now in
    let old = g.F.Files.held inside.files.now in
    let new = g.F.Files.held c.write_frames.new.files in
    let more = frames_of inside.head.channels samples in
    let P : Link g.row.F.Denot → Type 0 = λ link. Wrote g.F.Files.complete g.F.Files.held link before in
    let G : List ℕ → Type 0 = λ name. GrowsInPart (g.F.Files.complete inside.files.now) (told old name) (told new name) (frames_text inside.bits more) in
    let none = ap (λ (link : Link g.row.F.Denot). link.cut) c.self.view_is ∙ c.requires.whole in
    let kept = with_items_is inside.cut c.keep.new.kept (c.keep.ensures.long ∙ c.deref_mut-in-Err.ensures.len) in
    let is = ap (λ (l : List ℤ). frames_of inside.head.channels (take (length samples) l)) kept ∙ ap (frames_of inside.head.channels) c.keep.ensures.front in
    pushed_part (g.F.Files.complete inside.files.now) (g.F.Files.complete c.write_frames.new.files) old new (string_bytes inside.output) inside.head inside.bits inside.room inside.pushed (frames_of inside.head.channels (take inside.kept inside.cut.items)) before more
    inside.started _ none c.in-Err.ensures.complete is
    (subst G c.as_str.ensures.value c.in-Err.ensures.part)
    (subst P (sym c.self.view_is) wrote)

pub returns-in-Err-clause-rest : goal.returns-in-Err-clause-rest
returns-in-Err-clause-rest g c =
    let inside = c.self.inside in
    let E : List ℕ → Type 0 = λ name. SameElsewhere name (g.F.Files.held inside.files.now) (g.F.Files.held c.write_frames.new.files) in
    fixed_is _ _ _ c.in-Err.ensures.complete (same_others (string_bytes inside.output) _ _ (subst E c.as_str.ensures.value c.in-Err.ensures.others))
    ∙ ap (fixed_of g.F.Files.complete g.F.Files.held) c.self.view_is

use Rattle.std.proofs.Common.{[], Bool, take, inl, inr, refl, sym, ap, subst}
use Rattle.vh_files.specs.Store.{told, HasNow}
use Rattle.vh_answers.specs.declared.status.Place.TheVariants.{Output as OutputPlace}
use Rattle.vh_answers.specs.Outside.{store}
use Rattle.vh_host.proofs.Saved.{grown, file_cut, rose_there}
use Rattle.vh_host.proofs.preset_save.write_file.Goals as goal

pub returns-in_default-clause-ends : goal.returns-in_default-clause-ends
returns-in_default-clause-ends g c = λ said.
    file_cut _ (record { old = store g.F.Files c.args.files.now; new = store g.F.Files c.create.new.self; said = said; said_now = said })
    (record { place = OutputPlace; name = c.args.name.now; apart = []; text = c.args.bytes.now }) refl
    (λ apart. inl (ap (λ held. told held c.args.name.now) c.in_default.ensures.err)) c.in_default.ensures.cause.failed refl

pub returns-in-Err-clause-ends : goal.returns-in-Err-clause-ends
returns-in-Err-clause-ends g c = λ said.
    let name = c.args.name.now in
    let old = store g.F.Files c.args.files.now in
    let mid = store g.F.Files c.create.new.self in
    let new = store g.F.Files c.append_all.new.files in
    let part = c.in-Err.ensures.err in
    let has : HasNow mid.complete (told mid.held name) [] = subst (λ (b : Bool). HasNow b (told mid.held name) []) (sym c.create.ensures.complete) c.in-Ok.ensures.empty in
    let now : HasNow old.complete (told new.held name) (take part.0 c.args.bytes.now) = subst (λ (b : Bool). HasNow b (told new.held name) (take part.0 c.args.bytes.now)) c.create.ensures.complete
    (grown mid.complete (told mid.held name) (told new.held name) (take part.0 c.args.bytes.now) has part.2) in
    file_cut _ (record { old = old; new = new; said = said; said_now = said }) (record { place = OutputPlace; name = name; apart = []; text = c.args.bytes.now }) refl
    (λ apart. inr (part.0, part.1, now))
    (rose_there mid.complete (told mid.held name) old.writes mid.writes new.writes has c.create.ensures.cause.later c.in-Err.ensures.cause.failed) refl

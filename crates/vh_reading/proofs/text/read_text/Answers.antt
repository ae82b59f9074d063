use Rattle.std.proofs.Common.{◌≡◌, length, Some, ◌∙◌, inl, inr, refl, sym, ap, arith}
use Rattle.std.proofs.lemmas.Bool.{true≢false}
use Rattle.vh_files.specs.Store.{told}
use Rattle.vh_answers.specs.Outside.{store}
use Rattle.vh_reading.proofs.Readings.{read_as, whole}
use Rattle.vh_reading.proofs.text.read_text.Goals as goal

pub returns-then-size-limit-clause-stop : goal.returns-then-size-limit-clause-stop
returns-then-size-limit-clause-stop g c =
    inl (c.requires.refuses, inr (tt, refl, read_as (store g.F.Files c.args.files.now) c.args.name.now _ (λ lacks. true≢false (sym (c.in-Ok.ensures.lacking lacks))) (λ bytes is. let e = c.in-Ok.ensures.length bytes is in omega (arith, e, c.if-size-limit.true))))

pub returns-clause-gives : goal.returns-clause-gives
returns-clause-gives g c =
    read_as (store g.F.Files c.args.files.now) c.args.name.now _ (λ lacks. true≢false (sym (c.in-Ok.ensures.lacking lacks))) (λ bytes is.
    let size = c.in-Ok.ensures.length bytes is in
    let there : told (g.F.Files.held c.size.new.self) c.args.name.now ≡ Some bytes = ap (λ h. told h c.args.name.now) c.in-Ok.ensures.held ∙ is in
    let fills = c.in-Ok-fill.ensures.bytes bytes there in
    let room : c.in-Ok-vec.text.len ≡ length c.fill.new.buf = grind (arith, c.fill.auto.buf, c.as_mut_slice.ensures.len, c.as_mut_slice.ensures.value, c.in-Ok-vec.ensures.len, c.in-Ok-vec.ensures.items) in
    let long : length c.fill.new.buf ≡ length bytes = grind (arith, size, room, c.in-Ok-vec.ensures.len) in
    whole bytes c.fill.new.buf _ c.truncate.new.self.items c.in-Ok-vec.text.len c.in-Ok-fill.got c.truncate.ensures.items room fills long)

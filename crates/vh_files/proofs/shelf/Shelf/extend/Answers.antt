use Rattle.std.proofs.Common.{◌≡◌, Some, None, ap, sym, ◌∙◌}
use Rattle.std.specs.Option.{option_map, is_some}
use Rattle.std.proofs.lemmas.Bool.{false≢true}
use Rattle.vh_files.specs.Store.{told}
use Rattle.vh_files.specs.Shelf.{key_in, bytes_at}
use Rattle.vh_files.proofs.ShelfLemmas.{told-held, told-changed, told-elsewhere, OnOk-along, Grows-some}
use Rattle.vh_files.proofs.shelf.Shelf.extend.Goals as goal

pub returns-in-Some-clause-ok : goal.returns-in-Some-clause-ok
returns-in-Some-clause-ok c =
    let key : key_in c.self.inside.names.items c.args.name.now ≡ Some c.in-Some.key = cc in
    let before : told c.args.self.now c.args.name.now ≡ Some (bytes_at c.self.inside.bytes c.in-Some.key) = rw (← c.self.view_is) (told-held c.self.inside.bytes c.self.inside.names.items c.args.name.now ∙ ap (option_map (bytes_at c.self.inside.bytes)) key) in
    let after = told-changed c.self.inside.bytes c.extend_at.new.slab c.self.inside.names.items c.args.name.now c.in-Some.key c.self.invariant key c.extend_at.ensures.kept c.extend_at.ensures.others in
    OnOk-along c.extend_at.result _ _ (λ grown. Grows-some _ _ _ _ before (after ∙ ap Some grown)) c.extend_at.ensures.ok

pub returns-in-Some-clause-others : goal.returns-in-Some-clause-others
returns-in-Some-clause-others c = λ other apart.
    let key : key_in c.self.inside.names.items c.args.name.now ≡ Some c.in-Some.key = cc in
    rw (← c.self.view_is) (told-elsewhere c.self.inside.bytes c.extend_at.new.slab c.self.inside.names.items c.args.name.now c.in-Some.key c.self.invariant key c.extend_at.ensures.kept c.extend_at.ensures.others other apart)

pub returns-in-None-clause-ok : goal.returns-in-None-clause-ok
returns-in-None-clause-ok c =
    let none : key_in c.self.inside.names.items c.args.name.now ≡ None = cc in
    let gone : told c.args.self.now c.args.name.now ≡ None = rw (← c.self.view_is) (told-held c.self.inside.bytes c.self.inside.names.items c.args.name.now ∙ ap (option_map (bytes_at c.self.inside.bytes)) none) in
    absurd (false≢true (sym (ap is_some gone) ∙ c.requires))

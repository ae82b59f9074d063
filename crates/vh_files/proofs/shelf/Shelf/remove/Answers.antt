use Rattle.std.proofs.Common.{◌≡◌, Some, None, ap, ◌∙◌}
use Rattle.std.specs.Option.{option_map}
use Rattle.vh_files.specs.Shelf.{key_in, bytes_at}
use Rattle.vh_files.proofs.ShelfLemmas.{IsShelf-removed, told-held, told-removed, removed-elsewhere}
use Rattle.vh_files.proofs.shelf.Shelf.remove.Goals as goal

pub invariant_of-self : goal.invariant_of-self
invariant_of-self c =
    let key : key_in c.self.inside.names.items c.args.name.now ≡ Some c.in-Some.key = cc in
    IsShelf-removed c.self.inside.bytes c.remove.new.self c.self.inside.names.items c.forget.new.names.items c.args.name.now c.in-Some.key c.self.invariant key c.remove.ensures.updates c.forget.ensures

pub returns-in-Some-clause-gone : goal.returns-in-Some-clause-gone
returns-in-Some-clause-gone c =
    let key : key_in c.self.inside.names.items c.args.name.now ≡ Some c.in-Some.key = cc in
    told-removed c.self.inside.bytes c.remove.new.self c.self.inside.names.items c.forget.new.names.items c.args.name.now c.in-Some.key c.self.invariant key c.remove.ensures.updates c.forget.ensures

pub returns-in-Some-clause-others : goal.returns-in-Some-clause-others
returns-in-Some-clause-others c = λ other apart.
    let key : key_in c.self.inside.names.items c.args.name.now ≡ Some c.in-Some.key = cc in
    rw (← c.self.view_is) (removed-elsewhere c.self.inside.bytes c.remove.new.self c.self.inside.names.items c.forget.new.names.items c.args.name.now c.in-Some.key c.self.invariant key c.remove.ensures.updates c.forget.ensures other apart)

pub returns-in_default-clause-gone : goal.returns-in_default-clause-gone
returns-in_default-clause-gone c =
    let none : key_in c.self.inside.names.items c.args.name.now ≡ None = cc in
    rw (← c.self.view_is) (told-held c.self.inside.bytes c.self.inside.names.items c.args.name.now ∙ ap (option_map (bytes_at c.self.inside.bytes)) none)

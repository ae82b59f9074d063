use Rattle.std.proofs.Common.{◌≡◌, ◌++◌, ◌∷◌, [], Some, ap, sym, ◌∙◌}
use Rattle.vh_files.specs.Shelf.{key_in}
use Rattle.vh_files.proofs.ShelfLemmas.{told-changed, told-elsewhere, IsShelf-put, told-put, put-elsewhere}
use Rattle.vh_files.proofs.shelf.Shelf.put.Goals as goal

pub returns-in-Some-clause-ok : goal.returns-in-Some-clause-ok
returns-in-Some-clause-ok c =
    let key : key_in c.self.inside.names.items c.args.name.now ≡ Some c.in-Some.key = cc in
    told-changed c.self.inside.bytes c.replace_at.new.slab c.self.inside.names.items c.args.name.now c.in-Some.key c.self.invariant key c.replace_at.ensures.kept c.replace_at.ensures.others ∙ ap Some c.replace_at.ensures.bytes

pub returns-in-Some-clause-others : goal.returns-in-Some-clause-others
returns-in-Some-clause-others c = λ other apart.
    let key : key_in c.self.inside.names.items c.args.name.now ≡ Some c.in-Some.key = cc in
    rw (← c.self.view_is) (told-elsewhere c.self.inside.bytes c.replace_at.new.slab c.self.inside.names.items c.args.name.now c.in-Some.key c.self.invariant key c.replace_at.ensures.kept c.replace_at.ensures.others other apart)

pub invariant_of-self-in-None : goal.invariant_of-self-in-None
invariant_of-self-in-None c =
    IsShelf-put c.self.inside.bytes c.reserve-in-None.new.self c.insert_reserved-key.new.self c.self.inside.names.items c.push_reserved.new.self.items (record { name = c.in_ok-name-in-None.name; key = c.insert_reserved-key.result }) c.args.name.now c.self.invariant c.in_ok-name-in-None.ensures.ok (ap (λ ns. key_in ns c.args.name.now) (sym c.as_slice.ensures.value) ∙ sym c.in-None.ensures) c.in_ok-reserve-in-None-2.ensures.rest_kept c.insert_reserved-key.ensures.was_vacant c.args.bytes c.insert_reserved-key.ensures.updates (c.push_reserved.ensures.items ∙ ap (λ ns. ns ++ (record { name = c.in_ok-name-in-None.name; key = c.insert_reserved-key.result }) ∷ []) c.in_ok-reserve-in-None.ensures.items)

pub returns-in_ok-reserve-in-None-2-clause-ok : goal.returns-in_ok-reserve-in-None-2-clause-ok
returns-in_ok-reserve-in-None-2-clause-ok c =
    told-put c.self.inside.bytes c.reserve-in-None.new.self c.insert_reserved-key.new.self c.self.inside.names.items c.push_reserved.new.self.items (record { name = c.in_ok-name-in-None.name; key = c.insert_reserved-key.result }) c.args.name.now c.self.invariant c.in_ok-name-in-None.ensures.ok (ap (λ ns. key_in ns c.args.name.now) (sym c.as_slice.ensures.value) ∙ sym c.in-None.ensures) c.in_ok-reserve-in-None-2.ensures.rest_kept c.insert_reserved-key.ensures.was_vacant c.args.bytes c.insert_reserved-key.ensures.updates (c.push_reserved.ensures.items ∙ ap (λ ns. ns ++ (record { name = c.in_ok-name-in-None.name; key = c.insert_reserved-key.result }) ∷ []) c.in_ok-reserve-in-None.ensures.items)

pub returns-in_ok-reserve-in-None-2-clause-others : goal.returns-in_ok-reserve-in-None-2-clause-others
returns-in_ok-reserve-in-None-2-clause-others c = λ other apart.
    rw (← c.self.view_is) (put-elsewhere c.self.inside.bytes c.reserve-in-None.new.self c.insert_reserved-key.new.self c.self.inside.names.items c.push_reserved.new.self.items (record { name = c.in_ok-name-in-None.name; key = c.insert_reserved-key.result }) c.args.name.now c.self.invariant c.in_ok-name-in-None.ensures.ok (ap (λ ns. key_in ns c.args.name.now) (sym c.as_slice.ensures.value) ∙ sym c.in-None.ensures) c.in_ok-reserve-in-None-2.ensures.rest_kept c.insert_reserved-key.ensures.was_vacant c.args.bytes c.insert_reserved-key.ensures.updates (c.push_reserved.ensures.items ∙ ap (λ ns. ns ++ (record { name = c.in_ok-name-in-None.name; key = c.insert_reserved-key.result }) ∷ []) c.in_ok-reserve-in-None.ensures.items) other apart)

use Rattle.std.proofs.Common.{◌≡◌, Some, None, ap, sym, ◌∙◌}
use Rattle.std.specs.Option.{option_map}
use Rattle.vh_files.specs.Store.{told}
use Rattle.vh_files.specs.Shelf.{key_in, bytes_at}
use Rattle.vh_files.proofs.ShelfLemmas.{told-held, bytes_under, not_none}
use Rattle.vh_files.proofs.shelf.Shelf.get.Goals as goal

pub returns-in_err-key : goal.returns-in_err-key
returns-in_err-key c =
    let none : key_in c.self.inside.names.items c.args.name.now ≡ None = ap (λ ns. key_in ns c.args.name.now) (sym c.as_slice.ensures.value) ∙ sym c.in_err-key.ensures in
    let held = told-held c.self.inside.bytes c.self.inside.names.items c.args.name.now in
    let gone : told c.args.self.now c.args.name.now ≡ None = rw (← c.self.view_is) (held ∙ ap (option_map (bytes_at c.self.inside.bytes)) none) in
    rw c.from_residual.ensures (sym gone)

pub returns-in_err-bytes : goal.returns-in_err-bytes
returns-in_err-bytes c =
    let key : key_in c.self.inside.names.items c.args.name.now ≡ Some c.in_ok-key.key = ap (λ ns. key_in ns c.args.name.now) (sym c.as_slice.ensures.value) ∙ sym c.in_ok-key.ensures in
    absurd (not_none _ (c.self.invariant.found _ _ key) (sym c.in_err-bytes.ensures))

pub returns : goal.returns
returns c =
    let key : key_in c.self.inside.names.items c.args.name.now ≡ Some c.in_ok-key.key = ap (λ ns. key_in ns c.args.name.now) (sym c.as_slice.ensures.value) ∙ sym c.in_ok-key.ensures in
    let held = told-held c.self.inside.bytes c.self.inside.names.items c.args.name.now in
    let bytes = bytes_under c.self.inside.bytes c.in_ok-key.key c.in_ok-bytes.bytes.now (sym c.in_ok-bytes.ensures) in
    rw (← c.self.view_is) (ap Some (c.as_slice-2.ensures.value ∙ sym bytes) ∙ sym (held ∙ ap (option_map (bytes_at c.self.inside.bytes)) key))

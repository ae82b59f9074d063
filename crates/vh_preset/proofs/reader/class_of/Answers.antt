use Rattle.std.proofs.Common.{◌≡◌, ◌∙◌, ℕ, List, Ok, sym, subst}
use Rattle.std.specs.List.{AllPass}
use Rattle.hex.specs.Hex.{decode_of, is_hex_digit}
use Rattle.vh_preset.proofs.Classes.{digits_of}
use Rattle.vh_preset.proofs.Faults.{head_digits}
use Rattle.vh_preset.proofs.reader.class_of.Goals as goal

pub unwrap-requires : goal.unwrap-requires
unwrap-requires c =
    let P : List ℕ → Type 0 = λ xs. AllPass is_hex_digit xs in
    c.read.ensures.found.1 (subst P (sym c.copy_from_slice.ensures.after) (head_digits c.args.bytes.now c.requires.digits))

pub returns : goal.returns
returns c =
    subst (λ (xs : List ℕ). decode_of xs ≡ Ok c.unwrap.result.0) c.copy_from_slice.ensures.after
    (digits_of _ c.unwrap.result (sym c.unwrap.ensures ∙ c.read.ensures.value))

use Rattle.std.proofs.Common.{ℕ, List, Result, option_map, refl, sym, ap, ◌∙◌}
use Rattle.std.specs.Result.{is_ok, result_ok}
use Rattle.std.proofs.lemmas.Bool.{false≢true}
use Rattle.hex.specs.Hex.{decode_sized}
use Rattle.hex.specs.declared.error.FromHexError.{FromHexError}
use Rattle.hex.proofs.HexLemmas.{IsOk-decode_sized, decode_sized-twice}
use Rattle.vh_ids.specs.declared.tuid.Tuid.{Tuid}
use Rattle.vh_ids.proofs.tuid.Tuid.read.Goals as goal

pub returns-in-Ok-clause-found : goal.returns-in-Ok-clause-found
returns-in-Ok-clause-found c =
    let digits = IsOk-decode_sized c.args.text.now 16 in
    let read = ap (λ t. decode_sized t 16) (sym c.as_slice.ensures) ∙ sym c.from_hex.ensures ∙ c.in-Ok.is in
    (λ h. (digits.0 (ap is_ok read)).1, λ all. refl)

pub returns-in-Err-clause-found : goal.returns-in-Err-clause-found
returns-in-Err-clause-found c =
    let digits = IsOk-decode_sized c.args.text.now 16 in
    let read = ap (λ t. decode_sized t 16) (sym c.as_slice.ensures) ∙ sym c.from_hex.ensures ∙ c.in-Err.is in
    (λ h. absurd (false≢true h), λ all. sym (ap is_ok read) ∙ digits.1 (c.told-text, all))

pub returns-in-Ok-clause-value : goal.returns-in-Ok-clause-value
returns-in-Ok-clause-value c =
    let read = ap (λ t. decode_sized t 16) (sym c.as_slice.ensures) ∙ sym c.from_hex.ensures ∙ c.in-Ok.is in
    ap (λ (r : Result (List ℕ) FromHexError). option_map {U = Tuid} (λ bytes. record { 0 = bytes }) (result_ok r)) (sym read ∙ decode_sized-twice c.args.text.now 16 c.told-text)

pub returns-in-Err-clause-value : goal.returns-in-Err-clause-value
returns-in-Err-clause-value c =
    let read = ap (λ t. decode_sized t 16) (sym c.as_slice.ensures) ∙ sym c.from_hex.ensures ∙ c.in-Err.is in
    ap (λ (r : Result (List ℕ) FromHexError). option_map {U = Tuid} (λ bytes. record { 0 = bytes }) (result_ok r)) (sym read ∙ decode_sized-twice c.args.text.now 16 c.told-text)

-- The class that digits say.
use Rattle.std.proofs.Common.{◌≡◌, ℕ, Bool, true, false, List, Option, Some, None, Ok, Err, sym, ap, true≢false}
use Rattle.std.specs.Prelude.{Result}
use Rattle.std.specs.Option.{option_map}
use Rattle.std.specs.Result.{result_ok}
use Rattle.hex.specs.Hex.{decode_of}
use Rattle.vh_ids.specs.declared.tuid.Tuid.{Tuid}
use Rattle.vh_ids.specs.Texts.{id_in}

abbrev bytes_of : List ℕ → Option Tuid → List ℕ
bytes_of other None = other
bytes_of other (Some id) = id.0

abbrev is_there : Option Tuid → Bool
is_there None = false
is_there (Some id) = true

-- an identifier that is read of digits is what they decode to
pub digits_of : (text : List ℕ) (id : Tuid) → Some id ≡ id_in text → decode_of text ≡ Ok id.0
digits_of text id is = elim (decode_of text) as (λ r. Some id ≡ option_map (λ (bytes : List ℕ). record { 0 = bytes }) (result_ok r) → r ≡ Ok id.0) [
  | Ok bytes ↦ λ same. ap (λ (b : List ℕ). Ok b) (sym (ap (bytes_of id.0) same))
  | Err fault ↦ λ same. absurd (true≢false (ap is_there same))
] is

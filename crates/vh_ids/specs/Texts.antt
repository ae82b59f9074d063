-- Identifiers as texts.
use Rattle.std.specs.Prelude.{ℕ, List, Option}
use Rattle.std.specs.Option.{option_map}
use Rattle.std.specs.Result.{result_ok}
use Rattle.hex.specs.Hex.{decode_of}
use Rattle.vh_ids.specs.declared.tuid.Tuid.{Tuid}

-- the identifier whose hexadecimal digits these are, in either case; none where a byte is no digit
abbrev pub id_in : List ℕ → Option Tuid
id_in text = option_map (λ bytes. record { 0 = bytes }) (result_ok (decode_of text))

-- Laws of identifiers as texts.
use Rattle.std.specs.Prelude.{◌≡◌, ℕ, List, map, Ok}
use Rattle.std.specs.List.{AllPass}
use Rattle.std.specs.Char.{to_ascii_uppercase}
use Rattle.hex.specs.Hex.{IsBytes, decode_of, encode_upper, is_hex_digit}

abbrev pub ReadsBack : Type 0
ReadsBack = (bytes : List ℕ) → IsBytes bytes → decode_of (encode_upper bytes) ≡ Ok bytes

abbrev pub EitherCase : Type 0
EitherCase = (text : List ℕ) → AllPass is_hex_digit text → decode_of (map to_ascii_uppercase text) ≡ decode_of text

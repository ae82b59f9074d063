-- What a number of a value's text says.
use Rattle.std.specs.Prelude.{ℕ, List, take}
use Rattle.vh_params.specs.declared.value.Number.{Number}

abbrev pub text_of : Number → List ℕ
text_of number = take number.len number.bytes

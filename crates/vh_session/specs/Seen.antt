-- What stands behind references.
use Rattle.std.specs.Prelude.{Result, Ok, Err}
use Rattle.std.specs.Borrow.{Bor}

-- an answer by reference, as a value
abbrev pub seen : {A K : Type 0} → Result (Bor A) K → Result A K
seen (Ok reference) = Ok reference.now
seen (Err kind) = Err kind

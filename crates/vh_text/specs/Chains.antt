-- Rules one after the other, up to the first fault.
use Rattle.std.specs.Prelude.{Bool, true, false, Result, Ok, Err}

-- a rule, and what it hands to the next
abbrev pub given : {A B K : Type 0} → Result A K → (A → Result B K) → Result B K
given (Ok a) next = next a
given (Err kind) next = Err kind

-- a fault where this holds, else what follows
abbrev pub fault_if : {A K : Type 0} → Bool → K → Result A K → Result A K
fault_if true kind next = Err kind
fault_if false kind next = next

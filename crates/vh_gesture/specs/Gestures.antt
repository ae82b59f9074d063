-- What callers see of an editor's gestures.
use Rattle.std.specs.Prelude.{◌≤◌, ◌+◌, All}
use Rattle.vh_gesture.specs.declared.gestures.Gestures.TheInside.{Inside}
use Rattle.vh_gesture.specs.Tables.{Table}

abbrev pub table_of : Inside → Table
table_of gestures = record { references = gestures.references.items; gates = gestures.gates.items }

-- no reference was given back that wasn't taken
abbrev pub AreBacked : Inside → Type 0
AreBacked gestures = All (λ references. references.held ≤ references.holds + 1) gestures.references.items

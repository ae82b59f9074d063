-- Two sets of plug-ins as one.
use Rattle.std.specs.Prelude.{ℕ, ◌+◌, ◌*◌, ◌/◌, ◌%◌, ◌==◌, if◌then◌else◌}
use Rattle.vh_plugin.specs.Class.{Class}
use Rattle.vh_plugin.specs.declared.one_of.OneOf.{OneOf}
use Rattle.vh_plugin.specs.declared.one_of.OneOf.TheVariants.{First, Second}

-- what is meant of an object of either type
abbrev pub either : {A B R : Type 0} → (A → R) → (B → R) → OneOf A B → R
either first second (First a) = first a
either first second (Second b) = second b

-- the same where the two mean different things
abbrev pub each : {A B R S : Type 0} → (A → R) → (B → S) → OneOf A B → OneOf R S
each first second (First a) = First (first a)
each first second (Second b) = Second (second b)

-- the even codes are the first set's, the odd ones the second's
abbrev pub both_classes : (ℕ → Class) → (ℕ → Class) → ℕ → Class
both_classes first second code = if code % 2 == 0 then first (code / 2) else second (code / 2)

abbrev pub both_codes : {A B : Type 0} → (A → ℕ) → (B → ℕ) → OneOf A B → ℕ
both_codes first second (First a) = 2 * first a
both_codes first second (Second b) = 2 * second b + 1

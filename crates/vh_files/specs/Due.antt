-- Calls that fail where a list says so, by their numbers, which count from 1 for each kind of call.
use Rattle.std.specs.Prelude.{ℕ, ◌+◌, ◌-◌, ◌^◌, min, List, Contains}
use Rattle.vh_files.specs.declared.due.Op.{Op}
use Rattle.vh_files.specs.declared.due.Op.TheVariants.{Size, Read, Create, Append}
use Rattle.vh_files.specs.declared.due.Calls.{Calls}

-- a count that stays at its last value
abbrev pub next_number : ℕ → ℕ
next_number count = min (count + 1) (2 ^ 64 - 1)

-- no call was made
abbrev pub no_calls : Calls
no_calls = record { size = 0; read = 0; create = 0; append = 0 }

-- how many calls of a kind were made
abbrev pub made : Calls → Op → ℕ
made calls Size = calls.size
made calls Read = calls.read
made calls Create = calls.create
made calls Append = calls.append

-- the calls so far and one more of this kind
abbrev pub counted : Calls → Op → Calls
counted calls Size = record calls { size = next_number calls.size }
counted calls Read = record calls { read = next_number calls.read }
counted calls Create = record calls { create = next_number calls.create }
counted calls Append = record calls { append = next_number calls.append }

-- the next call of this kind is listed
abbrev pub IsDue : List (Op × ℕ) → Calls → Op → Type 0
IsDue failing calls op = Contains failing (op, next_number (made calls op))

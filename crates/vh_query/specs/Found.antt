-- What a query finds, and what it does.
use Rattle.std.specs.Prelude.{◌≡◌, ℕ, ◌+◌, ◌<◌, List, [], ◌∷◌, take, Option, Some, None, IsSome, Result, Ok, Err, if◌then◌else◌}
use Rattle.std.specs.Str.{bytes_eq}
use Rattle.vh_ids.specs.declared.interface.Interface.{Interface}
use Rattle.vh_ids.specs.declared.tuid.Tuid.{Tuid}
use Rattle.vh_ids.specs.Interfaces.{iid_of}
use Rattle.vh_counted.specs.declared.numbers.Numbers.{Numbers}
use Rattle.vh_counted.specs.Steps.{added}
use Rattle.vh_counted.specs.Objects.{CountsFor}
use Rattle.vh_query.specs.declared.interfaces.Interfaces.{Interfaces}
use Rattle.vh_query.specs.declared.interfaces.QueryRefused.{QueryRefused}
use Rattle.vh_query.specs.declared.interfaces.QueryRefused.TheVariants.{NoInterface, TooMany}

abbrev pub interfaces_of : Interfaces → List Interface
interfaces_of interfaces = take interfaces.len interfaces.list

-- the position of an identifier in a table
abbrev pub found_from : ℕ → List Interface → List ℕ → Option ℕ
found_from at [] id = None
found_from at (k ∷ ks) id = if bytes_eq (iid_of k) id then Some at else found_from (at + 1) ks id

abbrev pub found : List Interface → Tuid → Option ℕ
found interfaces id = found_from 0 interfaces id.0

-- a query: one reference is added at the position found, or the table lacks the identifier, or no room is left
abbrev pub IsQueried : ℕ → List Interface → Tuid → Numbers → Numbers → Result ℕ QueryRefused → Type 0
IsQueried cap interfaces id old new (Ok position) =
    (found interfaces id ≡ Some position) × (0 < old.room) × ((n : ℕ) × CountsFor cap old n × (new ≡ added position (n + 1) old))
IsQueried cap interfaces id old new (Err NoInterface) = (found interfaces id ≡ None) × (new ≡ old)
IsQueried cap interfaces id old new (Err TooMany) = IsSome (found interfaces id) × (old.room ≡ 0) × (new ≡ old)

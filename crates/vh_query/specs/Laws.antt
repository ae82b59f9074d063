-- COM's rules for queryInterface, over the tables: whoever asks and from where has no part in what is found.
use Rattle.std.specs.Prelude.{◌≡◌, ℕ, ◌<◌, List, length, slice_index_or, Some}
use Rattle.vh_ids.specs.declared.interface.Interface.{Interface}
use Rattle.vh_ids.specs.declared.interface.Interface.TheVariants.{Unknown}
use Rattle.vh_ids.specs.declared.tuid.Tuid.{Tuid}
use Rattle.vh_ids.specs.Interfaces.{iid_of}
use Rattle.vh_query.specs.Tables.{IsTable}
use Rattle.vh_query.specs.Found.{found}

-- FUnknown is found at position 0 of every table: it is the object's identity
abbrev pub UnknownIsFirst : Type 0
UnknownIsFirst = (interfaces : List Interface) (id : Tuid) → IsTable interfaces → id.0 ≡ iid_of Unknown → found interfaces id ≡ Some 0

-- each interface of a table is found, at its own position, whichever interface is asked
abbrev pub EachIsFound : Type 0
EachIsFound = (interfaces : List Interface) (id : Tuid) (position : ℕ) (d : Interface) → IsTable interfaces → position < length interfaces
    → id.0 ≡ iid_of (slice_index_or interfaces position d) → found interfaces id ≡ Some position

-- and what is found has the identifier that was asked for
abbrev pub FoundIsAsked : Type 0
FoundIsAsked = (interfaces : List Interface) (id : Tuid) (position : ℕ) (d : Interface) → found interfaces id ≡ Some position
    → (position < length interfaces) × (id.0 ≡ iid_of (slice_index_or interfaces position d))

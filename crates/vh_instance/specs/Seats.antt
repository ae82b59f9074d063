-- Who holds the objects of a band.
use Rattle.std.specs.Prelude.{◌≡◌, ℕ, ◌-◌, ◌<◌, List, [], ◌∷◌, ◌++◌, length, map, take, slice_index_or, All, Vec, vec_capacity, Some}
use Rattle.std.specs.declared.alloc.Global.{Global}
use Rattle.vh_component.specs.declared.states.Processing.{Processing}
use Rattle.vh_component.specs.States.{of_processing}
use Rattle.vh_counted.specs.declared.numbers.Numbers.{Numbers}
use Rattle.vh_counted.specs.declared.object.Object.{Object}
use Rattle.vh_counted.specs.declared.object.Holder.{Holder}
use Rattle.vh_counted.specs.declared.object.Opened.{Opened}
use Rattle.vh_counted.specs.Held.{object_of_holder, numbers_of, object_of_opened, numbers_of_opened}
use Rattle.vh_counted.specs.Steps.{at_interface, first_numbers, added}
use Rattle.vh_counted.specs.Objects.{IsObject}
use Rattle.vh_ids.specs.declared.interface.Interface.{Interface}
use Rattle.vh_ids.specs.Interfaces.{iid_of}
use Rattle.vh_query.specs.Found.{found_from}

-- a holder as callers see it: of which object it is, and its numbers
pub record Seat : Type 0 where
  pub object : Object
  pub numbers : Numbers

abbrev pub opener_seat : {T : Type 0} → Opened T → Seat
opener_seat opened = record { object = object_of_opened opened; numbers = numbers_of_opened opened }

abbrev pub processor_seat : {T : Type 0} → Processing T → Seat
processor_seat processor = opener_seat (of_processing processor)

abbrev pub holder_seat : {T : Type 0} → Holder T → Seat
holder_seat holder = record { object = object_of_holder holder; numbers = numbers_of holder }

abbrev pub row_seats : {T : Type 0} → Vec (Holder T) Global → List Seat
row_seats row = map holder_seat row.items

abbrev pub no_object : Object
no_object = record { interfaces = 0; cap = 0 }

abbrev pub no_seat : Seat
no_seat = record { object = no_object; numbers = first_numbers 0 }

-- the holders of a node: of each of these rows of holders that of its number
abbrev pub holders_at : List (List Seat) → ℕ → List Seat
holders_at rows node = map (λ row. slice_index_or row node no_seat) rows

-- of each of these rows the last holder, and what stands before it
abbrev pub last_holders : List (List Seat) → List Seat
last_holders rows = map (λ row. slice_index_or row (length row - 1) no_seat) rows

abbrev pub without_last : List (List Seat) → List (List Seat)
without_last rows = map (λ row. take (length row - 1) row) rows

-- these rows, and behind each of them a holder more
abbrev pub pushed_rows : List Seat → List (List Seat) → List (List Seat)
pushed_rows [] rows = []
pushed_rows (seat ∷ seats) [] = []
pushed_rows (seat ∷ seats) (row ∷ rows) = (row ++ seat ∷ []) ∷ pushed_rows seats rows

-- these rows are others with a holder more behind each, one for each row
pub record ArePushed (seats : List Seat) (old new : List (List Seat)) : Type 0 where
  pub each : length seats ≡ length old
  pub pushed : new ≡ pushed_rows seats old

-- of these rows each is empty, or has a place left in its memory
abbrev pub AreEmpty : {T : Type 0} → List (Vec (Holder T) Global) → Type 0
AreEmpty rows = All (λ row. length row.items ≡ 0) rows

abbrev pub HaveRoom : {T : Type 0} → List (Vec (Holder T) Global) → Type 0
HaveRoom rows = All (λ row. length row.items < vec_capacity row) rows

-- the holders of an object, together whole
pub record AreTogether (object : Object) (holders : List Seat) : Type 0 where
  pub of : All (λ seat. seat.object ≡ object) holders
  pub whole : IsObject object.cap (map (λ seat. seat.numbers) holders)

-- In each of these rows stands a holder of each of these objects, and all holders of an object are together whole.
pub record AreHeld (objects : List Object) (rows : List (List Seat)) : Type 0 where
  pub long : All (λ row. length row ≡ length objects) rows
  pub each : (node : ℕ) → node < length objects → AreTogether (slice_index_or objects node no_object) (holders_at rows node)

-- a reference was added at the position of this interface in a table
pub record IsFound (table : List Interface) (interface : Interface) (old new : Numbers) : Type 0 where
  pub position : ℕ
  pub seen : ℕ
  pub found : found_from 0 table (iid_of interface) ≡ Some position
  pub added : new ≡ added position seen old

-- a holder has so many references at each of these interfaces, and so much room
pub record Has (table : List Interface) (references : Interface → ℕ) (adds : ℕ) (seat : Seat) : Type 0 where
  pub at : (position : ℕ) (d : Interface) → position < length table → at_interface seat.numbers position ≡ references (slice_index_or table position d)
  pub room : seat.numbers.room ≡ adds

-- Tables of interfaces.
use Rattle.std.specs.Prelude.{◌≡◌, ◌≢◌, ℕ, ◌<◌, ◌≤◌, List, length, slice_index_or}
use Rattle.vh_ids.specs.declared.interface.Interface.{Interface}
use Rattle.vh_ids.specs.declared.interface.Interface.TheVariants.{Unknown}

-- at least one interface, the first is FUnknown, and they differ
pub record IsTable (interfaces : List Interface) : Type 0 where
  pub some : 1 ≤ length interfaces
  pub first : (d : Interface) → slice_index_or interfaces 0 d ≡ Unknown
  pub differ : (i j : ℕ) (d : Interface) → i < j → j < length interfaces → slice_index_or interfaces i d ≢ slice_index_or interfaces j d

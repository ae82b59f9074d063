-- What controllers keep.
use Rattle.std.specs.Prelude.{◌≡◌, ◌≢◌, ℕ, ◌≤◌, ◌^◌, Bool, true, false, ◌&&◌, ◌==◌, nat_le, List, [], ◌∷◌, if◌then◌else◌}
use Rattle.std.specs.List.{list_any}
use Rattle.vh_plugin.specs.Class.{Param}

-- a parameter has this id
abbrev pub has_id : List Param → ℕ → Bool
has_id params id = list_any (λ param. param.id == id) params

-- the value of the parameter of this id
abbrev pub value_in : List Param → List ℕ → ℕ → ℕ
value_in [] values id = 0
value_in (param ∷ params) [] id = 0
value_in (param ∷ params) (value ∷ values) id = if param.id == id then value else value_in params values id

-- the values, of which that of this id is another
abbrev pub with_value : List Param → List ℕ → ℕ → ℕ → List ℕ
with_value [] values id other = values
with_value (param ∷ params) [] id other = []
with_value (param ∷ params) (value ∷ values) id other = if param.id == id then other ∷ values else value ∷ with_value params values id other

-- the values after a parameter was set: as before where no parameter has the id, or the value is above 1.0
abbrev pub normalized_to : List Param → List ℕ → ℕ → ℕ → List ℕ
normalized_to params values id other = if has_id params id && nat_le other (2 ^ 24) then with_value params values id other else values

-- a controller's state: the number 1 and the mode, each of 4 bytes, the least first
abbrev pub mode_text : ℕ → List ℕ
mode_text mode = 1 ∷ 0 ∷ 0 ∷ 0 ∷ mode ∷ 0 ∷ 0 ∷ 0 ∷ []

-- the mode that bytes hold was taken, or they hold none
abbrev pub IsModeSet : List ℕ → ℕ → ℕ → Bool → Type 0
IsModeSet bytes old new true = (new ≤ 1) × (bytes ≡ mode_text new)
IsModeSet bytes old new false = (bytes ≢ mode_text 0) × (bytes ≢ mode_text 1) × (new ≡ old)

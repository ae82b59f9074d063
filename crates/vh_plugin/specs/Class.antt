-- What a class of plug-ins means.
use Rattle.std.specs.Prelude.{◌≡◌, ℕ, ◌<◌, ◌≤◌, ◌^◌, slice_index_or, Bool, true, false, ◌&&◌, ◌==◌, List, [], ◌∷◌, length, Option, Some, None, All, ℤ, if◌then◌else◌}
use Rattle.std.specs.List.{list_any}
pub use Rattle.vh_num.specs.Frames.{Frame}
use Rattle.vh_params.specs.declared.param.ParamInfo.{ParamInfo}
use Rattle.vh_params.specs.Flags.{is_read_only, is_writable}

-- what a processor keeps between samples
abbrev pub State : Type 0
State = List ℤ

-- a parameter: what of it bears on a class's meaning
pub record Param : Type 0 where
  pub id : ℕ
  pub steps : ℕ
  pub first : ℕ
  pub flags : ℕ

abbrev pub param_of : ParamInfo → Param
param_of info = record { id = info.id; steps = info.steps; first = info.first; flags = info.flags }

-- a class: its parameters by rising id, whether it has an aux bus, and what its processors do
pub record Class : Type 0 where
  pub params : List Param
  pub aux : Bool
  pub start : State
  -- the state after a sample, and the frame that it gives: of the channels, the state, the parameters' values,
  -- the main frame, and the aux frame where there is one
  pub next : ℕ → State → List ℕ → Frame → Option Frame → State
  pub output : ℕ → State → List ℕ → Frame → Option Frame → Frame
  -- the state after a message, and the reply: of the state, the values and the message
  pub told : State → List ℕ → List ℕ → State
  pub reply : State → List ℕ → List ℕ → List ℕ
  -- the value that a read-only parameter shows
  pub shown : State → ℕ → ℕ
  -- the values of the writable parameters that these bytes hold, and the bytes of these values
  pub state_of : List ℕ → Option (List ℕ)
  pub state_text : List ℕ → List ℕ
  -- the identifier of its controllers' class
  pub partner : List ℕ

-- the id is that of a parameter that can be set, or of one that is only shown
abbrev pub has_writable : List Param → ℕ → Bool
has_writable params id = list_any (λ param. (param.id == id) && is_writable param.flags) params

abbrev pub has_shown : List Param → ℕ → Bool
has_shown params id = list_any (λ param. (param.id == id) && is_read_only param.flags) params

-- of these values, one for each parameter, those of the writable ones
abbrev pub writable_of : List Param → List ℕ → List ℕ
writable_of [] values = []
writable_of (param ∷ params) [] = []
writable_of (param ∷ params) (value ∷ values) = if is_writable param.flags then value ∷ writable_of params values else writable_of params values

-- these values, of which the writable ones are others
abbrev pub with_writable : List Param → List ℕ → List ℕ → List ℕ
with_writable [] values others = []
with_writable (param ∷ params) [] others = []
with_writable (param ∷ params) (value ∷ values) [] = value ∷ values
with_writable (param ∷ params) (value ∷ values) (other ∷ others) =
    if is_writable param.flags then other ∷ with_writable params values others else value ∷ with_writable params values (other ∷ others)

-- the defaults
abbrev pub firsts_of : List Param → List ℕ
firsts_of [] = []
firsts_of (param ∷ params) = param.first ∷ firsts_of params

-- one value for each parameter, none above 1.0
pub record AreValues (params : List Param) (values : List ℕ) : Type 0 where
  pub each : length values ≡ length params
  pub within : All (λ value. value ≤ 2 ^ 24) values

-- what a class keeps to
pub record IsLawful (class : Class) : Type 0 where
  pub rising : (i j : ℕ) (d : Param) → i < j → j < length class.params → (slice_index_or class.params i d).id < (slice_index_or class.params j d).id
  pub few : length class.params ≤ 64
  pub starts : All (λ param. is_read_only param.flags ≡ true → class.shown class.start param.id ≡ param.first) class.params
  pub held : (bytes values : List ℕ) → class.state_of bytes ≡ Some values → (length values ≡ length (writable_of class.params (firsts_of class.params))) × All (λ value. value ≤ 2 ^ 24) values
  pub reads_back : (values : List ℕ) → AreValues class.params values → class.state_of (class.state_text values) ≡ Some (writable_of class.params values)
  pub short : (values : List ℕ) → AreValues class.params values → length (class.state_text values) ≤ 1048576
  pub replies : (state : State) (values words : List ℕ) → length words ≤ 4 → length (class.reply state values words) ≤ 4
  pub partner : length class.partner ≡ 16

-- the writable parameters were given the values that bytes hold, or these hold none
abbrev pub IsSet : Class → List ℕ → List ℕ → List ℕ → Bool → Type 0
IsSet class bytes old new true = (held : List ℕ) × (class.state_of bytes ≡ Some held) × (new ≡ with_writable class.params old held)
IsSet class bytes old new false = (class.state_of bytes ≡ None) × (new ≡ old)

-- Runs of a machine.
use Rattle.std.specs.Prelude.{◌≡◌, ℕ, Bool, List, [], ◌∷◌}
use Rattle.vh_core.specs.declared.event.Event.{Event}
use Rattle.vh_core.specs.State.{Setting, State}
use Rattle.vh_core.specs.Steps.{next}

-- an event may lead from one state to another: it is open which changes are told at once, and which wait
abbrev pub MayFollow : Setting → Event → State → State → Type 0
MayFollow setting event before after = (tells : ℕ → Bool) × (after ≡ next setting tells event before)

-- so may events, one after another
abbrev pub MayRun : Setting → List Event → State → State → Type 0
MayRun setting [] before after = after ≡ before
MayRun setting (event ∷ events) before after = (between : State) × MayFollow setting event before between × MayRun setting events between after

-- A step for each of so many nodes.
use Rattle.std.specs.Prelude.{◌≡◌, ℕ, zero, suc, ◌+◌, ◌<◌, List, [], ◌∷◌, ◌++◌, length, slice_index_or, ◌⊎◌}
use Rattle.vh_answers.specs.declared.status.Status.{Status}
use Rattle.vh_answers.specs.declared.status.Status.TheVariants as status
use Rattle.vh_answers.specs.Outside.{Store}
use Rattle.vh_answers.specs.Refusals.{IsRefusal}
use Rattle.vh_answers.specs.Steps.{Step, Steps, Then, Gives, StopsAt}

-- From a node on so many steps, one behind the other, and then what follows from the values of all.
abbrev pub each_then : {X : Type 0} → (ℕ → Step X) → ℕ → ℕ → List X → (List X → Steps) → Steps
each_then step from zero given next = next given
each_then {X} step from (suc left) given next = Then X (step from) (λ x. each_then step (from + 1) left (given ++ x ∷ []) next)

-- the steps of the first nodes, so many, gave these values
pub record AllGive {X : Type 0} (old : Store) (step : ℕ → Step X) (count : ℕ) (xs : List X) : Type 0 where
  pub each : length xs ≡ count
  pub gives : (node : ℕ) (d : X) → node < count → Gives old (step node) (slice_index_or xs node d)

-- that of one of the nodes stopped the command, and those before it gave values
pub record OneStops {X : Type 0} (old new : Store) (step : ℕ → Step X) (count : ℕ) (answer : Status) : Type 0 where
  pub node : ℕ
  pub within : node < count
  pub before : List X
  pub given : AllGive old step node before
  pub stops : StopsAt old new (step node) answer

-- by a refusal, or there was no memory
abbrev pub OneHalts : {X : Type 0} → Store → Store → (ℕ → Step X) → ℕ → Status → Type 0
OneHalts old new step count answer = (IsRefusal answer × OneStops old new step count answer) ⊎ (answer ≡ status.Memory)

-- A command as the list of its steps, and how it ends.
use Rattle.std.specs.Prelude.{◌≡◌, ◌≢◌, ⊤, ℕ, ◌<◌, List, [], ◌∷◌, take, length, All, Some, ◌⊎◌}
use Rattle.vh_files.specs.Causes.{Rose}
use Rattle.vh_files.specs.Store.{told, HasNow, SaysMore, SaysInPart}
use Rattle.vh_answers.specs.declared.status.Place.{Place}
use Rattle.vh_answers.specs.declared.status.Place.TheVariants.{Report}
use Rattle.vh_answers.specs.declared.status.Status.{Status}
use Rattle.vh_answers.specs.declared.status.Status.TheVariants as status
use Rattle.vh_answers.specs.Outside.{Store, Outside, ReadAs, Unread, Untouched}
use Rattle.vh_answers.specs.Refusals.{IsRefusal, SaysLine}

-- A step reads a file, or judges what was given: what holds of its value, the answer for a fault, and what holds of the
-- fault.
pub data Step (X : Type 0) : Type 1 where
  Reads : (E : Type 0) → Place → List ℕ → (List ℕ → X → Type 0) → (E → Status) → (List ℕ → E → Type 0) → Step X
  Judges : (E : Type 0) → (X → Type 0) → (E → Status) → (E → Type 0) → Step X

-- a file that is written: its place, its name, the names from which its name has to differ for its text to be told, and
-- its text
pub record Output : Type 0 where
  pub place : Place
  pub name : List ℕ
  pub apart : List (List ℕ)
  pub text : List ℕ

-- Each step from what those before gave. Last the outputs in order, what is said, and how often processors are called.
pub data Steps : Type 1 where
  Then : (X : Type 0) → Step X → (X → Steps) → Steps
  Last : List Output → List ℕ → ℕ → Steps

-- a step gave this value
abbrev pub Gives : {X : Type 0} → Store → Step X → X → Type 0
Gives old (Reads E place name Says refusal Faults) x = ReadAs old name (λ bytes. Says bytes x)
Gives old (Judges E Says refusal Faults) x = Says x

-- and is told to give it
abbrev pub IsGiven : {X : Type 0} → Store → Step X → X → Type 0
IsGiven old (Reads E place name Says refusal Faults) x = (bytes : List ℕ) × (told old.held name ≡ Some bytes) × Says bytes x
IsGiven old (Judges E Says refusal Faults) x = Says x

-- a step stopped the command with this answer
abbrev pub StopsAt : {X : Type 0} → Store → Store → Step X → Status → Type 0
StopsAt old new (Reads E place name Says refusal Faults) answer =
    ((answer ≡ status.ReadFault place) × Unread old new name) ⊎ ((fault : E) × (answer ≡ refusal fault) × ReadAs old name (λ bytes. Faults bytes fault))
StopsAt old new (Judges E Says refusal Faults) answer = (fault : E) × (answer ≡ refusal fault) × Faults fault

-- by a refusal, or there was no memory
abbrev pub Halts : {X : Type 0} → Store → Store → Step X → Status → Type 0
Halts old new step answer = (IsRefusal answer × StopsAt old new step answer) ⊎ (answer ≡ status.Memory)

-- one of the steps did
abbrev pub Stopped : Store → Store → Steps → Status → Type 0
Stopped old new (Then X step next) answer = StopsAt old new step answer ⊎ ((x : X) × Gives old step x × Stopped old new (next x) answer)
Stopped old new (Last outputs report calls) answer = ⊥

abbrev pub Halted : Store → Store → Steps → Status → Type 0
Halted old new steps answer = (IsRefusal answer × Stopped old new steps answer) ⊎ (answer ≡ status.Memory)

-- all were passed, and this holds of what they came to
abbrev pub Passed : Store → Steps → (List Output → List ℕ → ℕ → Type 0) → Type 0
Passed old (Then X step next) Holds = (x : X) × Gives old step x × Passed old (next x) Holds
Passed old (Last outputs report calls) Holds = Holds outputs report calls

-- all are told to be passed
abbrev pub AllGiven : Store → Steps → Type 0
AllGiven old (Then X step next) = (x : X) × IsGiven old step x × AllGiven old (next x)
AllGiven old (Last outputs report calls) = ⊤

-- an output's name differs from those that it has to
abbrev pub IsApart : Output → Type 0
IsApart output = All (λ name. name ≢ output.name) output.apart

-- it has its text; it is as before, or has a front part of its text; it is as before: each where its name is apart
abbrev pub IsWhole : Store → Store → Output → Type 0
IsWhole old new output = IsApart output → HasNow old.complete (told new.held output.name) output.text

abbrev pub IsBegun : Store → Store → Output → Type 0
IsBegun old new output = IsApart output
    → (told new.held output.name ≡ told old.held output.name) ⊎ ((n : ℕ) × (n < length output.text) × HasNow old.complete (told new.held output.name) (take n output.text))

abbrev pub IsAsBefore : Store → Store → Output → Type 0
IsAsBefore old new output = IsApart output → told new.held output.name ≡ told old.held output.name

abbrev pub AllWhole : Store → Store → List Output → Type 0
AllWhole old new outputs = All (IsWhole old new) outputs

-- outputs before the one of this place are whole, that one is begun, and those behind it are as before
abbrev pub IsCut : Place → Store → Store → List Output → Type 0
IsCut place old new [] = ⊥
IsCut place old new (output ∷ outputs) =
    ((output.place ≡ place) × IsBegun old new output × All (IsAsBefore old new) outputs) ⊎ (IsWhole old new output × IsCut place old new outputs)

-- How a command ends, where this is known of the line that is said of a refusal and of the calls of processors.
pub data Ends (Line : Status → Type 0) (Counts : ℕ → Type 0) (o : Outside) (steps : Steps) (answer : Status) : Type 0 where
  Done : answer ≡ status.Ok → Passed o.old steps (λ outputs report calls. AllWhole o.old o.new outputs × SaysMore o.said.text o.said_now.text report × Counts calls)
      → Ends Line Counts o steps answer
  Refused : IsRefusal answer → Stopped o.old o.new steps answer → Untouched o → Line answer → Ends Line Counts o steps answer
  Cut : (place : Place) → answer ≡ status.WriteFault place → IsRefusal answer → Passed o.old steps (λ outputs report calls. IsCut place o.old o.new outputs)
      → Rose o.old.writes o.new.writes → Line answer → Ends Line Counts o steps answer
  Unsaid : answer ≡ status.WriteFault Report → Passed o.old steps (λ outputs report calls. AllWhole o.old o.new outputs × SaysInPart o.said.text o.said_now.text report)
      → Rose o.said.faults o.said_now.faults → Ends Line Counts o steps answer
  NoMemory : answer ≡ status.Memory → Untouched o → o.said_now.text ≡ o.said.text → Ends Line Counts o steps answer

-- before a refusal's line is said
abbrev pub EndsUnsaid : (ℕ → Type 0) → Outside → Steps → Status → Type 0
EndsUnsaid Counts o steps answer = Ends (λ _. o.said_now.text ≡ o.said.text) Counts o steps answer

-- and then
abbrev pub Answers : (ℕ → Type 0) → Outside → Steps → Status → Type 0
Answers Counts o steps answer = Ends (SaysLine o.said o.said_now) Counts o steps answer

-- all files are told and accepted, and no count of faults rose
pub record IsUnhindered (o : Outside) (steps : Steps) : Type 0 where
  pub given : AllGiven o.old steps
  pub reads : Rose o.old.reads o.new.reads → ⊥
  pub writes : Rose o.old.writes o.new.writes → ⊥
  pub faults : Rose o.said.faults o.said_now.faults → ⊥

-- it was done, or there was no memory
abbrev pub IsDone : Status → Type 0
IsDone answer = (answer ≡ status.Ok) ⊎ (answer ≡ status.Memory)

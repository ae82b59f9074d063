use Rattle.std.proofs.Common.{◌≡◌, ℕ, ◌+◌, ◌^◌, ◌≤◌, ◌<◌, ◌-◌, min, Bool, List, [], ◌∷◌, take, length, get_or, Option, Some, None, ◌⊎◌, inl, inr, ⊎_elim, sym, ap, subst, ◌∙◌, arith}
use Rattle.std.specs.Prelude.{All, ⊤}
use Rattle.vh_files.specs.Causes.{Rose}
use Rattle.vh_files.specs.Store.{told, Lacks, HasNow, SaysMore, SaysInPart}
use Rattle.vh_answers.specs.declared.status.Place.{Place}
use Rattle.vh_answers.specs.declared.status.Status.{Status}
use Rattle.vh_answers.specs.Outside.{Store, Said, Outside, ReadAs, Unread, OnlyReads, Untouched}
use Rattle.vh_answers.specs.Refusals.{IsRefusal, SaysLine, SaysOf, refused_text}
use Rattle.vh_answers.specs.Steps.{Step, Reads, Judges, Output, Steps, Then, Last, Gives, IsGiven, StopsAt, Halts, Stopped, Halted, Passed, AllGiven, IsWhole, IsBegun, IsAsBefore, AllWhole, IsCut, Ends, Done, Refused, Cut, Unsaid, NoMemory, EndsUnsaid, Answers, IsUnhindered, IsDone}

-- an ending of what follows a step that gave a value is an ending from that step on
pub after : (Line : Status → Type 0) (Counts : ℕ → Type 0) (o : Outside) (X : Type 0) (step : Step X) (next : X → Steps) (x : X) (answer : Status)
    → Gives o.old step x → Ends Line Counts o (next x) answer → Ends Line Counts o (Then X step next) answer
after Line Counts o X step next x answer given (Done e passed) = Done e (x, given, passed)
after Line Counts o X step next x answer given (Refused refuses stopped same line) = Refused refuses (inr (x, given, stopped)) same line
after Line Counts o X step next x answer given (Cut place e refuses passed rose line) = Cut place e refuses (x, given, passed) rose line
after Line Counts o X step next x answer given (Unsaid e passed rose) = Unsaid e (x, given, passed) rose
after Line Counts o X step next x answer given (NoMemory e same unsaid) = NoMemory e same unsaid

-- the first step halts, or one behind it
pub first_halted : (old new : Store) (X : Type 0) (step : Step X) (next : X → Steps) (answer : Status) → Halts old new step answer → Halted old new (Then X step next) answer
first_halted old new X step next answer (inl stops) = inl (stops.0, inl stops.1)
first_halted old new X step next answer (inr none) = inr none

pub later_halted : (old new : Store) (X : Type 0) (step : Step X) (next : X → Steps) (x : X) (answer : Status) → Gives old step x → Halted old new (next x) answer → Halted old new (Then X step next) answer
later_halted old new X step next x answer given (inl stopped) = inl (stopped.0, inr (x, given, stopped.1))
later_halted old new X step next x answer given (inr none) = inr none

-- a step that halts ends the command, where nothing was changed or said
pub ended : (Counts : ℕ → Type 0) (o : Outside) (steps : Steps) (answer : Status) → Untouched o → o.said_now.text ≡ o.said.text → Halted o.old o.new steps answer → EndsUnsaid Counts o steps answer
ended Counts o steps answer same unsaid (inl stopped) = Refused stopped.0 stopped.1 same unsaid
ended Counts o steps answer same unsaid (inr none) = NoMemory none same unsaid

-- ---- from before a reading
rose_since : (first before now : ℕ) → first ≤ before → Rose before now → Rose first now
rose_since first before now early rose = let e : min (before + 1) (2 ^ 64 - 1) ≤ now = rose in omega (arith, early, e)

read_since : (a b : Store) (name : List ℕ) (Holds : List ℕ → Type 0) → OnlyReads a b → ReadAs b name Holds → ReadAs a name Holds
read_since a b name Holds only (inl there) = inl (there.0, ap (λ held. told held name) (sym only.held) ∙ there.1, there.2)
read_since a b name Holds only (inr gone) = inr (sym only.complete ∙ gone.0, ap (λ held. told held name) (sym only.held) ∙ gone.1)

pub gives_since : (a b : Store) (X : Type 0) (step : Step X) (x : X) → OnlyReads a b → Gives b step x → Gives a step x
gives_since a b X (Reads E place name Says refusal Faults) x only given = read_since a b name (λ bytes. Says bytes x) only given
gives_since a b X (Judges E Says refusal Faults) x only given = given

lacks_since : (a b : Store) (name : List ℕ) → OnlyReads a b → Lacks b.complete b.held name → Lacks a.complete a.held name
lacks_since a b name only lacks = (sym only.complete ∙ lacks.0, ap (λ held. told held name) (sym only.held) ∙ lacks.1)

unread_since : (a b new : Store) (name : List ℕ) → OnlyReads a b → Unread b new name → Unread a new name
unread_since a b new name only (inl lacks) = inl (lacks_since a b name only lacks)
unread_since a b new name only (inr rose) = inr (rose_since a.reads b.reads new.reads only.later rose)

pub stops_since : (a b new : Store) (X : Type 0) (step : Step X) (answer : Status) → OnlyReads a b → StopsAt b new step answer → StopsAt a new step answer
stops_since a b new X (Reads E place name Says refusal Faults) answer only (inl failed) = inl (failed.0, unread_since a b new name only failed.1)
stops_since a b new X (Reads E place name Says refusal Faults) answer only (inr faulty) = inr (faulty.0, faulty.1, read_since a b name (λ bytes. Faults bytes faulty.0) only faulty.2)
stops_since a b new X (Judges E Says refusal Faults) answer only faulty = faulty

pub halts_since : (a b new : Store) (X : Type 0) (step : Step X) (answer : Status) → OnlyReads a b → Halts b new step answer → Halts a new step answer
halts_since a b new X step answer only (inl stops) = inl (stops.0, stops_since a b new X step answer only stops.1)
halts_since a b new X step answer only (inr none) = inr none

stopped_since : (a b new : Store) (steps : Steps) (answer : Status) → OnlyReads a b → Stopped b new steps answer → Stopped a new steps answer
stopped_since a b new (Then X step next) answer only (inl stops) = inl (stops_since a b new X step answer only stops)
stopped_since a b new (Then X step next) answer only (inr more) = inr (more.0, gives_since a b X step more.0 only more.1, stopped_since a b new (next more.0) answer only more.2)
stopped_since a b new (Last outputs report calls) answer only stopped = stopped

pub halted_since : (a b new : Store) (steps : Steps) (answer : Status) → OnlyReads a b → Halted b new steps answer → Halted a new steps answer
halted_since a b new steps answer only (inl stopped) = inl (stopped.0, stopped_since a b new steps answer only stopped.1)
halted_since a b new steps answer only (inr none) = inr none

passed_since : (a b : Store) (steps : Steps) (Holds Then_ : List Output → List ℕ → ℕ → Type 0) → OnlyReads a b
    → ((outputs : List Output) (report : List ℕ) (calls : ℕ) → Holds outputs report calls → Then_ outputs report calls) → Passed b steps Holds → Passed a steps Then_
passed_since a b (Then X step next) Holds Then_ only onto passed = (passed.0, gives_since a b X step passed.0 only passed.1, passed_since a b (next passed.0) Holds Then_ only onto passed.2)
passed_since a b (Last outputs report calls) Holds Then_ only onto passed = onto outputs report calls passed

pub passed_onto : (a : Store) (steps : Steps) (Holds Then_ : List Output → List ℕ → ℕ → Type 0)
    → ((outputs : List Output) (report : List ℕ) (calls : ℕ) → Holds outputs report calls → Then_ outputs report calls) → Passed a steps Holds → Passed a steps Then_
passed_onto a (Then X step next) Holds Then_ onto passed = (passed.0, passed.1, passed_onto a (next passed.0) Holds Then_ onto passed.2)
passed_onto a (Last outputs report calls) Holds Then_ onto passed = onto outputs report calls passed

now_since : (a b : Store) (now : Option (List ℕ)) (bytes : List ℕ) → OnlyReads a b → HasNow b.complete now bytes → HasNow a.complete now bytes
now_since a b now bytes only has = let P : Bool → Type 0 = λ c. HasNow c now bytes in subst P only.complete has

whole_since : (a b new : Store) (output : Output) → OnlyReads a b → IsWhole b new output → IsWhole a new output
whole_since a b new output only whole = λ apart. now_since a b (told new.held output.name) output.text only (whole apart)

all_whole_since : (a b new : Store) (outputs : List Output) → OnlyReads a b → AllWhole b new outputs → AllWhole a new outputs
all_whole_since a b new outputs only all = λ k d lt. whole_since a b new (get_or outputs k d) only (all k d lt)

same_since : (a b new : Store) (name : List ℕ) → OnlyReads a b → told new.held name ≡ told b.held name → told new.held name ≡ told a.held name
same_since a b new name only same = same ∙ ap (λ held. told held name) only.held

as_before_since : (a b new : Store) (output : Output) → OnlyReads a b → IsAsBefore b new output → IsAsBefore a new output
as_before_since a b new output only same = λ apart. same_since a b new output.name only (same apart)

all_as_before_since : (a b new : Store) (outputs : List Output) → OnlyReads a b → All (IsAsBefore b new) outputs → All (IsAsBefore a new) outputs
all_as_before_since a b new outputs only all = λ k d lt. as_before_since a b new (get_or outputs k d) only (all k d lt)

abbrev Begun : Store → Store → Output → Type 0
Begun old new output = (told new.held output.name ≡ told old.held output.name) ⊎ ((n : ℕ) × (n < length output.text) × HasNow old.complete (told new.held output.name) (take n output.text))

begun_more : (a b new : Store) (output : Output) → OnlyReads a b → Begun b new output → Begun a new output
begun_more a b new output only (inl same) = inl (same_since a b new output.name only same)
begun_more a b new output only (inr part) = inr (part.0, part.1, now_since a b (told new.held output.name) (take part.0 output.text) only part.2)

begun_since : (a b new : Store) (output : Output) → OnlyReads a b → IsBegun b new output → IsBegun a new output
begun_since a b new output only begun = λ apart. begun_more a b new output only (begun apart)

cut_since : (place : Place) (a b new : Store) (outputs : List Output) → OnlyReads a b → IsCut place b new outputs → IsCut place a new outputs
cut_since place a b new [] only cut = cut
cut_since place a b new (output ∷ outputs) only (inl here) = inl (here.0, begun_since a b new output only here.1, all_as_before_since a b new outputs only here.2)
cut_since place a b new (output ∷ outputs) only (inr later) = inr (whole_since a b new output only later.0, cut_since place a b new outputs only later.1)

abbrev since_o : Store → Outside → Outside
since_o first o = record { old = first; new = o.new; said = o.said; said_now = o.said_now }

-- an ending from behind a reading is one from before it
pub since : (Line : Status → Type 0) (Counts : ℕ → Type 0) (first : Store) (o : Outside) (steps : Steps) (answer : Status)
    → OnlyReads first o.old → Ends Line Counts o steps answer → Ends Line Counts (since_o first o) steps answer
since Line Counts first o steps answer only (Done e passed) =
    Done e (passed_since first o.old steps _ _ only (λ outputs report calls holds. (all_whole_since first o.old o.new outputs only holds.0, holds.1, holds.2)) passed)
since Line Counts first o steps answer only (Refused refuses stopped same line) =
    Refused refuses (stopped_since first o.old o.new steps answer only stopped) (same ∙ only.held) line
since Line Counts first o steps answer only (Cut place e refuses passed rose line) =
    Cut place e refuses (passed_since first o.old steps _ _ only (λ outputs report calls cut. cut_since place first o.old o.new outputs only cut) passed)
    (subst (λ writes. Rose writes o.new.writes) only.writes rose) line
since Line Counts first o steps answer only (Unsaid e passed rose) =
    Unsaid e (passed_since first o.old steps _ _ only (λ outputs report calls holds. (all_whole_since first o.old o.new outputs only holds.0, holds.1)) passed) rose
since Line Counts first o steps answer only (NoMemory e same unsaid) = NoMemory e (same ∙ only.held) unsaid

-- what is known of the calls may be told otherwise
pub recounted : (Line : Status → Type 0) (Counts Others : ℕ → Type 0) (o : Outside) (steps : Steps) (answer : Status)
    → ((calls : ℕ) → Counts calls → Others calls) → Ends Line Counts o steps answer → Ends Line Others o steps answer
recounted Line Counts Others o steps answer onto (Done e passed) = Done e (passed_onto o.old steps _ _ (λ outputs report calls holds. (holds.0, holds.1, onto calls holds.2)) passed)
recounted Line Counts Others o steps answer onto (Refused refuses stopped same line) = Refused refuses stopped same line
recounted Line Counts Others o steps answer onto (Cut place e refuses passed rose line) = Cut place e refuses passed rose line
recounted Line Counts Others o steps answer onto (Unsaid e passed rose) = Unsaid e passed rose
recounted Line Counts Others o steps answer onto (NoMemory e same unsaid) = NoMemory e same unsaid

-- ---- the line is said
abbrev said_o : Outside → Said → Outside
said_o o said_now = record { old = o.old; new = o.new; said = o.said; said_now = said_now }

line_since : (said before now : Said) (answer : Status) → before.text ≡ said.text → said.faults ≤ before.faults → SaysLine before now answer → SaysLine said now answer
line_since said before now answer same later (inl more) = let P : Option (List ℕ) → Type 0 = λ text. SaysMore text now.text (refused_text answer) in inl (subst P same more)
line_since said before now answer same later (inr part) =
    let P : Option (List ℕ) → Type 0 = λ text. SaysInPart text now.text (refused_text answer) in
    inr (rose_since said.faults before.faults now.faults later part.0, subst P same part.1)

with_line : (Counts : ℕ → Type 0) (o : Outside) (steps : Steps) (answer : Status) (said_now : Said) → o.said.faults ≤ o.said_now.faults
    → EndsUnsaid Counts o steps answer → IsRefusal answer → SaysLine o.said_now said_now answer → Answers Counts (said_o o said_now) steps answer
with_line Counts o steps answer said_now later (Done e passed) refuses line = absurd (subst IsRefusal e refuses)
with_line Counts o steps answer said_now later (Refused _ stopped same unsaid) refuses line = Refused refuses stopped same (line_since o.said o.said_now said_now answer unsaid later line)
with_line Counts o steps answer said_now later (Cut place e _ passed rose unsaid) refuses line = Cut place e refuses passed rose (line_since o.said o.said_now said_now answer unsaid later line)
with_line Counts o steps answer said_now later (Unsaid e passed rose) refuses line = absurd (subst IsRefusal e refuses)
with_line Counts o steps answer said_now later (NoMemory e same unsaid) refuses line = absurd (subst IsRefusal e refuses)

without_line : (Counts : ℕ → Type 0) (o : Outside) (steps : Steps) (answer : Status) → EndsUnsaid Counts o steps answer → (IsRefusal answer → ⊥) → Answers Counts o steps answer
without_line Counts o steps answer (Done e passed) quiet = Done e passed
without_line Counts o steps answer (Refused refuses stopped same unsaid) quiet = absurd (quiet refuses)
without_line Counts o steps answer (Cut place e refuses passed rose unsaid) quiet = absurd (quiet refuses)
without_line Counts o steps answer (Unsaid e passed rose) quiet = Unsaid e passed rose
without_line Counts o steps answer (NoMemory e same unsaid) quiet = NoMemory e same unsaid

-- an ending, of which then the line is said where it refuses
pub settled : (Counts : ℕ → Type 0) (o : Outside) (steps : Steps) (answer : Status) (said_now : Said) → o.said.faults ≤ o.said_now.faults
    → EndsUnsaid Counts o steps answer → SaysOf answer o.said_now said_now → Answers Counts (said_o o said_now) steps answer
settled Counts o steps answer said_now later ends (inl said) = with_line Counts o steps answer said_now later ends said.0 said.1
settled Counts o steps answer said_now later ends (inr quiet) =
    let P : Said → Type 0 = λ said. Answers Counts (said_o o said) steps answer in
    subst P (sym quiet.1) (without_line Counts o steps answer ends quiet.0)

-- ---- completeness
-- a step never gives both a value and a fault
abbrev pub NeverBoth : {X : Type 0} → Step X → Type 0
NeverBoth {X} (Reads E place name Says refusal Faults) = (bytes : List ℕ) (x : X) (fault : E) → Says bytes x → Faults bytes fault → ⊥
NeverBoth {X} (Judges E Says refusal Faults) = (x : X) (fault : E) → Says x → Faults fault → ⊥

-- and gives one value at most
abbrev pub GivesOne : {X : Type 0} → Step X → Type 0
GivesOne {X} (Reads E place name Says refusal Faults) = (bytes : List ℕ) (x y : X) → Says bytes x → Says bytes y → x ≡ y
GivesOne {X} (Judges E Says refusal Faults) = (x y : X) → Says x → Says y → x ≡ y

-- no step is left
abbrev pub IsLast : Steps → Type 0
IsLast (Then X step next) = ⊥
IsLast (Last outputs report calls) = ⊤

-- each step is decided by its file; one that may give several values is the last
abbrev pub AllDecided : Steps → Type 0
AllDecided (Then X step next) = NeverBoth step × (GivesOne step ⊎ ((x : X) → IsLast (next x))) × ((x : X) → AllDecided (next x))
AllDecided (Last outputs report calls) = ⊤

some_is : (a b : List ℕ) → Some a ≡ Some b → a ≡ b
some_is a b e = cc

none_isnt : (a : List ℕ) (o : Option (List ℕ)) → o ≡ Some a → o ≡ None → ⊥
none_isnt a o some none = let e : Some a ≡ None = sym some ∙ none in cc

gives_given : (a : Store) (X : Type 0) (step : Step X) (x y : X) → GivesOne step → IsGiven a step x → Gives a step y → x ≡ y
gives_given a X (Reads E place name Says refusal Faults) x y one given (inl there) =
    let same : there.0 ≡ given.0 = some_is there.0 given.0 (sym there.1 ∙ given.1) in
    one given.0 x y given.2 (subst (λ bytes. Says bytes y) same there.2)
gives_given a X (Reads E place name Says refusal Faults) x y one given (inr gone) = absurd (none_isnt given.0 (told a.held name) given.1 gone.1)
gives_given a X (Judges E Says refusal Faults) x y one given gives = one x y given gives

given_stops : (a new : Store) (X : Type 0) (step : Step X) (x : X) (answer : Status) → NeverBoth step → IsGiven a step x → (Rose a.reads new.reads → ⊥) → StopsAt a new step answer → ⊥
given_stops a new X (Reads E place name Says refusal Faults) x answer never given calm (inl (e, inl lacks)) = none_isnt given.0 (told a.held name) given.1 lacks.1
given_stops a new X (Reads E place name Says refusal Faults) x answer never given calm (inl (e, inr rose)) = calm rose
given_stops a new X (Reads E place name Says refusal Faults) x answer never given calm (inr (fault, e, inl there)) =
    let same : there.0 ≡ given.0 = some_is there.0 given.0 (sym there.1 ∙ given.1) in
    never given.0 x fault given.2 (subst (λ bytes. Faults bytes fault) same there.2)
given_stops a new X (Reads E place name Says refusal Faults) x answer never given calm (inr (fault, e, inr gone)) = none_isnt given.0 (told a.held name) given.1 gone.1
given_stops a new X (Judges E Says refusal Faults) x answer never given calm faulty = never x faulty.0 given faulty.2

last_goes : (a new : Store) (steps : Steps) (answer : Status) → IsLast steps → Stopped a new steps answer → ⊥
last_goes a new (Then X step next) answer last stopped = last
last_goes a new (Last outputs report calls) answer last stopped = stopped

never_stopped : (a new : Store) (steps : Steps) (answer : Status) → AllDecided steps → AllGiven a steps → (Rose a.reads new.reads → ⊥) → Stopped a new steps answer → ⊥
never_stopped a new (Then X step next) answer decided given calm (inl stops) = given_stops a new X step given.0 answer decided.0 given.1 calm stops
never_stopped a new (Then X step next) answer decided given calm (inr more) = ⊎_elim
    (λ one.
    let same : given.0 ≡ more.0 = gives_given a X step given.0 more.0 one given.1 more.1 in
    let P : X → Type 0 = λ x. Stopped a new (next x) answer in
    never_stopped a new (next given.0) answer (decided.2 given.0) given.2 calm (subst P (sym same) more.2))
    (λ last. last_goes a new (next more.0) answer (last more.0) more.2) decided.1
never_stopped a new (Last outputs report calls) answer decided given calm stopped = stopped

-- what is read from files that are told and accepted, while no count rises, is done
pub done : (Counts : ℕ → Type 0) (o : Outside) (steps : Steps) (answer : Status) → AllDecided steps → IsUnhindered o steps → Answers Counts o steps answer → IsDone answer
done Counts o steps answer decided free (Done e passed) = inl e
done Counts o steps answer decided free (Refused refuses stopped same line) = absurd (never_stopped o.old o.new steps answer decided free.given free.reads stopped)
done Counts o steps answer decided free (Cut place e refuses passed rose line) = absurd (free.writes rose)
done Counts o steps answer decided free (Unsaid e passed rose) = absurd (free.faults rose)
done Counts o steps answer decided free (NoMemory e same unsaid) = inr e

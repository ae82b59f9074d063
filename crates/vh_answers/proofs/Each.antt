-- A step for each of so many nodes: how a command goes on behind them, and how it ends at one.
use Rattle.std.proofs.Common.{◌≡◌, ◌∙◌, ℕ, zero, suc, ◌+◌, ◌<◌, List, [], ◌∷◌, ◌++◌, length, get_or, inl, inr, sym, ap, subst, arith, below_more}
use Rattle.std.proofs.lemmas.List.{append_assoc, append-nil, length_push, get_or_push, get_or_append_left}
use Rattle.vh_answers.specs.declared.status.Status.{Status}
use Rattle.vh_answers.specs.Outside.{Store, Outside, OnlyReads}
use Rattle.vh_answers.specs.Steps.{Step, Steps, Gives, StopsAt, Halts, Stopped, Halted, Ends}
use Rattle.vh_answers.specs.Each.{each_then, AllGive, OneHalts}
use Rattle.vh_answers.proofs.Stages.{after, halts_since}

-- from a node on
abbrev Give : {X : Type 0} → Store → (ℕ → Step X) → ℕ → List X → Type 0
Give old step from xs = (k : ℕ) → k < length xs → (d : _) → Gives old (step (from + k)) (get_or xs k d)

give_first : {X : Type 0} (old : Store) (step : ℕ → Step X) (from : ℕ) (x : X) (xs : List X) → Give old step from (x ∷ xs) → Gives old (step from) x
give_first old step from x xs give =
    let here : from + 0 ≡ from = omega arith in
    subst (λ (n : ℕ). Gives old (step n) x) here (give 0 (omega arith) x)

give_rest : {X : Type 0} (old : Store) (step : ℕ → Step X) (from : ℕ) (x : X) (xs : List X) → Give old step from (x ∷ xs) → Give old step (from + 1) xs
give_rest old step from x xs give k lt d =
    let next : from + suc k ≡ (from + 1) + k = omega arith in
    subst (λ (n : ℕ). Gives old (step n) (get_or xs k d)) next (give (suc k) (omega (arith, lt)) d)

goes_on : {X : Type 0} (Line : Status → Type 0) (Counts : ℕ → Type 0) (o : Outside) (step : ℕ → Step X) (from left : ℕ) (given xs : List X) (next : List X → Steps) (answer : Status)
    → length xs ≡ left → Give o.old step from xs → Ends Line Counts o (next (given ++ xs)) answer → Ends Line Counts o (each_then step from left given next) answer
goes_on Line Counts o step from zero given [] next answer long give ends = subst (λ list. Ends Line Counts o (next list) answer) (append-nil given) ends
goes_on Line Counts o step from zero given (x ∷ xs) next answer long give ends = absurd (omega (arith, long))
goes_on Line Counts o step from (suc left) given [] next answer long give ends = absurd (omega (arith, long))
goes_on {X} Line Counts o step from (suc left) given (x ∷ xs) next answer long give ends =
    after Line Counts o X (step from) (λ x. each_then step (from + 1) left (given ++ x ∷ []) next) x answer (give_first o.old step from x xs give)
    (goes_on Line Counts o step (from + 1) left (given ++ x ∷ []) xs next answer (omega (arith, long)) (give_rest o.old step from x xs give)
    (subst (λ list. Ends Line Counts o (next list) answer) (sym (append_assoc given (x ∷ []) xs)) ends))

-- an ending of what follows the steps of all nodes is one from the first step on
pub each_after : {X : Type 0} (Line : Status → Type 0) (Counts : ℕ → Type 0) (o : Outside) (step : ℕ → Step X) (count : ℕ) (xs : List X) (next : List X → Steps) (answer : Status)
    → AllGive o.old step count xs → Ends Line Counts o (next xs) answer → Ends Line Counts o (each_then step 0 count [] next) answer
each_after Line Counts o step count xs next answer all ends =
    goes_on Line Counts o step 0 count [] xs next answer all.each (λ k lt d.
    let within : k < count = omega (arith, lt, all.each) in
    let here : k ≡ 0 + k = omega arith in
    subst (λ (n : ℕ). Gives o.old (step n) (get_or xs k d)) here (all.gives k d within)) ends

stops_there : {X : Type 0} (old new : Store) (step : ℕ → Step X) (from left : ℕ) (given xs : List X) (next : List X → Steps) (answer : Status)
    → length xs < left → Give old step from xs → StopsAt old new (step (from + length xs)) answer → Stopped old new (each_then step from left given next) answer
stops_there old new step from zero given xs next answer lt give stops = absurd (omega (arith, lt))
stops_there {X} old new step from (suc left) given [] next answer lt give stops =
    let here : from + 0 ≡ from = omega arith in
    inl (subst (λ (n : ℕ). StopsAt old new (step n) answer) here stops)
stops_there {X} old new step from (suc left) given (x ∷ xs) next answer lt give stops =
    let there : from + suc (length xs) ≡ (from + 1) + length xs = omega arith in
    inr (
      x,
      give_first old step from x xs give,
      stops_there old new step (from + 1) left (given ++ x ∷ []) xs next answer (omega (arith, lt)) (give_rest old step from x xs give)
          (subst (λ (n : ℕ). StopsAt old new (step n) answer) there stops),
    )

-- the steps of all nodes halt where one does
pub each_halted : {X : Type 0} (old new : Store) (step : ℕ → Step X) (count : ℕ) (next : List X → Steps) (answer : Status) → OneHalts old new step count answer → Halted old new (each_then step 0 count [] next) answer
each_halted old new step count next answer (inr none) = inr none
each_halted old new step count next answer (inl one) =
    let stop = one.1 in
    let before = stop.before in
    let many = stop.given.each in
    let within = stop.within in
    let here : stop.node ≡ 0 + length before = omega (arith, many) in
    inl (
      one.0,
      stops_there old new step 0 count [] before next answer (omega (arith, many, within)) (λ k lt d.
          let less : k < stop.node = omega (arith, lt, many) in
          let is : k ≡ 0 + k = omega arith in
          subst (λ (n : ℕ). Gives old (step n) (get_or before k d)) is (stop.given.gives k d less))
          (subst (λ (n : ℕ). StopsAt old new (step n) answer) here stop.stops),
    )

-- ---- over the nodes, one by one

-- the next node gives a value, too
pub one_more_gives : {X : Type 0} (old : Store) (step : ℕ → Step X) (count : ℕ) (xs : List X) (x : X) → AllGive old step count xs → Gives old (step count) x → AllGive old step (count + 1) (xs ++ x ∷ [])
one_more_gives {X} old step count xs x all given = record {
  each = length_push xs x ∙ ap (λ (n : ℕ). n + 1) all.each;
  gives = λ node d lt. below_more (λ (node : ℕ). Gives old (step node) (get_or (xs ++ x ∷ []) node d)) count
      (λ node before.
      let within : node < length xs = omega (arith, before, all.each) in
      subst (λ (y : X). Gives old (step node) y) (sym (get_or_append_left xs (x ∷ []) d node within)) (all.gives node d before))
      (subst (λ (y : X). Gives old (step count) y) (sym (get_or_push xs x d count all.each)) given) node lt;
}

stops_in : {X : Type 0} (old new : Store) (step : ℕ → Step X) (count node : ℕ) (before : List X) (answer : Status) → AllGive old step node before → node < count → Halts old new (step node) answer → OneHalts old new step count answer
stops_in old new step count node before answer given within (inl (refuses, stops)) = inl (refuses, record { node = node; within = within; before = before; given = given; stops = stops })
stops_in old new step count node before answer given within (inr none) = inr none

-- or halts, where those before it have only read
pub one_halts : {X : Type 0} (old mid new : Store) (step : ℕ → Step X) (count node : ℕ) (before : List X) (answer : Status)
    → OnlyReads old mid → AllGive old step node before → node < count → Halts mid new (step node) answer → OneHalts old new step count answer
one_halts {X} old mid new step count node before answer only given within halts = stops_in old new step count node before answer given within (halts_since old mid new X (step node) answer only halts)

-- files were read, and then others
pub only_then : (a b c : Store) → OnlyReads a b → OnlyReads b c → OnlyReads a c
only_then a b c first other = record {
  held = other.held ∙ first.held;
  complete = other.complete ∙ first.complete;
  writes = other.writes ∙ first.writes;
  later = let early = first.later in let late = other.later in omega (arith, early, late);
}

goes_to : {X : Type 0} (old new : Store) (step : ℕ → Step X) (from left : ℕ) (given xs : List X) (next : List X → Steps) (answer : Status)
    → length xs ≡ left → Give old step from xs → Stopped old new (next (given ++ xs)) answer → Stopped old new (each_then step from left given next) answer
goes_to old new step from zero given [] next answer long give stopped = subst (λ list. Stopped old new (next list) answer) (append-nil given) stopped
goes_to old new step from zero given (x ∷ xs) next answer long give stopped = absurd (omega (arith, long))
goes_to old new step from (suc left) given [] next answer long give stopped = absurd (omega (arith, long))
goes_to {X} old new step from (suc left) given (x ∷ xs) next answer long give stopped =
    inr (
      x,
      give_first old step from x xs give,
      goes_to old new step (from + 1) left (given ++ x ∷ []) xs next answer (omega (arith, long)) (give_rest old step from x xs give)
          (subst (λ list. Stopped old new (next list) answer) (sym (append_assoc given (x ∷ []) xs)) stopped),
    )

-- what halts behind the steps of all nodes halts from the first step on
pub each_later : {X : Type 0} (old new : Store) (step : ℕ → Step X) (count : ℕ) (xs : List X) (next : List X → Steps) (answer : Status)
    → AllGive old step count xs → Halted old new (next xs) answer → Halted old new (each_then step 0 count [] next) answer
each_later old new step count xs next answer all (inr none) = inr none
each_later old new step count xs next answer all (inl stopped) = inl (
  stopped.0,
  goes_to old new step 0 count [] xs next answer all.each (λ k lt d.
      let within : k < count = omega (arith, lt, all.each) in
      let here : k ≡ 0 + k = omega arith in
      subst (λ (n : ℕ). Gives old (step n) (get_or xs k d)) here (all.gives k d within)) stopped.1,
)

-- What holds of each value that rules hand on.
use Rattle.std.proofs.Common.{◌≡◌, Bool, true, false, refl, sym, ap, subst, Ok, Err, Result}
use Rattle.std.specs.Prelude.{⊤, if◌then◌else◌}
use Rattle.vh_text.specs.Chains.{given, fault_if}

-- the value, or this one
abbrev value_or : {A K : Type 0} → A → Result A K → A
value_or a (Ok b) = b
value_or a (Err kind) = a

abbrev IsValue : {A K : Type 0} → Result A K → Type 0
IsValue (Ok a) = ⊤
IsValue (Err kind) = ⊥

pub same_value : {A K : Type 0} (a b : A) → (let left : Result A K = Ok a in left ≡ Ok b) → a ≡ b
same_value a b is = ap (value_or a) is

pub no_value : {A K : Type 0} (a : A) (kind : K) → (let left : Result A K = Err kind in left ≡ Ok a) → ⊥
no_value a kind is = subst IsValue (sym is) tt

abbrev pub Gives : {A K : Type 0} → (A → Type 0) → Result A K → Type 0
Gives {A = A} Holds said = (a : A) → said ≡ Ok a → Holds a

pub gives_ok : {A K : Type 0} (Holds : A → Type 0) (a : A) → Holds a → (let said : Result A K = Ok a in Gives Holds said)
gives_ok Holds a holds b is = subst Holds (same_value a b is) holds

pub gives_err : {A K : Type 0} (Holds : A → Type 0) (kind : K) → Gives Holds (Err kind)
gives_err Holds kind b is = absurd (no_value b kind is)

pub gives_given : {A B K : Type 0} (Holds : B → Type 0) (said : Result A K) (next : A → Result B K) → ((a : A) → said ≡ Ok a → Gives Holds (next a)) → Gives Holds (given said next)
gives_given Holds (Ok a) next gives = gives a refl
gives_given Holds (Err kind) next gives = gives_err Holds kind

pub gives_fault_if : {A K : Type 0} (Holds : A → Type 0) (test : Bool) (kind : K) (said : Result A K) → (test ≡ false → Gives Holds said) → Gives Holds (fault_if test kind said)
gives_fault_if Holds true kind said gives = gives_err Holds kind
gives_fault_if Holds false kind said gives = gives refl

pub gives_if : {A K : Type 0} (Holds : A → Type 0) (test : Bool) (yes_ no_ : Result A K) → Gives Holds yes_ → Gives Holds no_ → Gives Holds (if test then yes_ else no_)
gives_if Holds true yes_ no_ gives others = gives
gives_if Holds false yes_ no_ gives others = others

-- one step of a chain

pub then_ : {A B K : Type 0} {said : Result A K} (next : A → Result B K) (a : A) → said ≡ Ok a → given said next ≡ next a
then_ next a is = ap (λ r. given r next) is

pub passes_ : {A K : Type 0} (test : Bool) (kind : K) (said : Result A K) → test ≡ false → fault_if test kind said ≡ said
passes_ test kind said is = ap (λ t. fault_if t kind said) is

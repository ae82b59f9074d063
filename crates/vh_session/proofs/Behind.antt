-- Lists in which each stands rightly behind those before it.
use Rattle.std.proofs.Common.{zero, suc, List, [], ◌∷◌, ◌++◌, sym, subst, arith}
use Rattle.std.specs.Prelude.{All}
use Rattle.std.proofs.lemmas.List.{append_assoc, append-nil}
use Rattle.vh_session.specs.Keeps.{EachBehind}

-- one more at the end
pub behind_more : {A : Type 0} (Stands : List A → A → Type 0) (before xs : List A) (x : A) → EachBehind Stands before xs → Stands (before ++ xs) x → EachBehind Stands before (xs ++ x ∷ [])
behind_more Stands before [] x each stands = (subst (λ bs. Stands bs x) (append-nil before) stands, tt)
behind_more Stands before (y ∷ ys) x each stands = (each.0, behind_more Stands (before ++ y ∷ []) ys x each.1 (subst (λ bs. Stands bs x) (sym (append_assoc before (y ∷ []) ys)) stands))

-- under a weaker rule
pub behind_weaker : {A : Type 0} (Stands Weaker : List A → A → Type 0) (before xs : List A) → ((bs : List A) (x : A) → Stands bs x → Weaker bs x) → EachBehind Stands before xs → EachBehind Weaker before xs
behind_weaker Stands Weaker before [] weaken each = tt
behind_weaker Stands Weaker before (x ∷ xs) weaken each = (weaken before x each.0, behind_weaker Stands Weaker (before ++ x ∷ []) xs weaken each.1)

-- what each comes to by itself
pub behind_all : {A : Type 0} (Stands : List A → A → Type 0) (Holds : A → Type 0) (before xs : List A) → ((bs : List A) (x : A) → Stands bs x → Holds x) → EachBehind Stands before xs → All Holds xs
behind_all Stands Holds before [] holds each k d lt = absurd (omega (arith, lt))
behind_all Stands Holds before (x ∷ xs) holds each zero d lt = holds before x each.0
behind_all Stands Holds before (x ∷ xs) holds each (suc k) d lt = behind_all Stands Holds (before ++ x ∷ []) xs holds each.1 k d (omega (arith, lt))

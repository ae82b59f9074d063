-- Texts that are said one after the other.
use Rattle.std.proofs.Common.{◌≡◌, ◌∙◌, ℕ, suc, ◌+◌, ◌-◌, ◌^◌, ◌<◌, ◌≤◌, min, List, [], ◌∷◌, ◌++◌, take, drop, length, get_or, Option, Some, None, Result, Ok, Err, inl, inr, refl, ap, sym, subst, arith}
use Rattle.std.proofs.lemmas.List.{append_assoc, append-nil, length-append, take-append-le}
use Rattle.std.proofs.Math.Seq.{take-append-add, drop-cons}
use Rattle.vh_files.specs.Causes.{Rose}
use Rattle.vh_files.specs.Store.{SaysMore, SaysInPart}
use Rattle.vh_answers.specs.declared.status.Status.{Status}
use Rattle.vh_answers.specs.Outside.{Said}
use Rattle.vh_answers.specs.Refusals.{IsRefusal, SaysOf, refused_text}
use Rattle.vh_answers.specs.Told.{IsTold}

rose_since : (first before now : ℕ) → first ≤ before → Rose before now → Rose first now
rose_since first before now early rose = let e : min (before + 1) (2 ^ 64 - 1) ≤ now = rose in omega (arith, early, e)

-- one text and then another
pub told_then : (a b c : Option (List ℕ)) (text rest : List ℕ) → SaysMore a b text → SaysMore b c rest → SaysMore a c (text ++ rest)
told_then None None c text rest one other = other
told_then None (Some had) c text rest one other = cc
told_then (Some had) None c text rest one other = cc
told_then (Some had) (Some more) c text rest one other =
    let e : more ≡ had ++ text = cc in
    other ∙ ap (λ t. Some (t ++ rest)) e ∙ ap (λ t. Some t) (append_assoc had text rest)

-- one text and a front part of another
pub told_part : (a b c : Option (List ℕ)) (text rest : List ℕ) → SaysMore a b text → SaysInPart b c rest → SaysInPart a c (text ++ rest)
told_part a b c text rest one part =
    let n = part.0 in
    let long = length-append text rest in
    let lt = part.1 in
    let P : List ℕ → Type 0 = λ t. SaysMore a c t in
    (length text + n, omega (arith, long, lt), subst P (sym (take-append-add text rest n)) (told_then a b c text (take n rest) one part.2))

-- a front part of the first alone
pub told_cut : (a b : Option (List ℕ)) (text rest : List ℕ) → SaysInPart a b text → SaysInPart a b (text ++ rest)
told_cut a b text rest part =
    let n = part.0 in
    let long = length-append text rest in
    let lt = part.1 in
    let P : List ℕ → Type 0 = λ t. SaysMore a b t in
    (n, omega (arith, long, lt), subst P (sym (take-append-le n text rest (omega (arith, lt)))) part.2)

-- the line of an answer that refuses
pub says_line : {T E : Type 0} (result : Result T E) (answer given : Status) (a b : Said) → answer ≡ given → IsRefusal given → IsTold result a b (refused_text given) → SaysOf answer a b
says_line (Ok done) answer given a b is refuses told = subst (λ s. SaysOf s a b) (sym is) (inl (refuses, inl told.whole))
says_line (Err failed) answer given a b is refuses told = subst (λ s. SaysOf s a b) (sym is) (inl (refuses, inr (told.cause.failed, told.part)))

-- A text is being said: a front part is, and this is left.
pub record IsOnTheWay (said said_now : Said) (whole left : List ℕ) : Type 0 where
  pub done : List ℕ
  pub says : SaysMore said.text said_now.text done
  pub joins : done ++ left ≡ whole
  pub later : said.faults ≤ said_now.faults

nothing_more : (text : Option (List ℕ)) → SaysMore text text []
nothing_more None = refl
nothing_more (Some had) = ap (λ t. Some t) (sym (append-nil had))

pub not_begun : (said : Said) (whole left : List ℕ) → left ≡ whole → IsOnTheWay said said whole left
not_begun said whole left is = record { done = []; says = nothing_more said.text; joins = is; later = omega arith }

-- a further part is said
pub goes_on : {T E : Type 0} (a b c : Said) (whole left text rest : List ℕ) (result : Result T E) (value : T) → result ≡ Ok value → IsOnTheWay a b whole left → left ≡ text ++ rest → IsTold result b c text → IsOnTheWay a c whole rest
goes_on {T} {E} a b c whole left text rest result value ok way is told =
    let said : IsTold {T = T} {E = E} (Ok value) b c text = subst (λ r. IsTold r b c text) ok told in
    record {
      done = way.done ++ text;
      says = told_then a.text b.text c.text way.done text way.says said.whole;
      joins = append_assoc way.done text rest ∙ ap (λ t. way.done ++ t) (sym is) ∙ way.joins;
      later = let before = way.later in let more = said.cause.later in omega (arith, before, more);
    }

-- or a front part of it alone
pub breaks_off : {T U E : Type 0} (a b c : Said) (whole left text rest : List ℕ) (answer : Result T E) (result : Result U E) (error : E) → answer ≡ Err error → result ≡ Err error
    → IsOnTheWay a b whole left → left ≡ text ++ rest → IsTold result b c text → IsTold answer a c whole
breaks_off {T} {U} {E} a b c whole left text rest answer result error is err way joins told =
    let said : IsTold {T = U} {E = E} (Err error) b c text = subst (λ r. IsTold r b c text) err told in
    let broken : IsTold {T = T} {E = E} (Err error) a c whole = record {
      whole = tt;
      part = subst (λ t. SaysInPart a.text c.text t) (ap (λ t. way.done ++ t) (sym joins) ∙ way.joins) (told_part a.text b.text c.text way.done (text ++ rest) way.says (told_cut b.text c.text text rest said.part));
      cause = record {
        later = let before = way.later in let more = said.cause.later in omega (arith, before, more);
        failed = rose_since a.faults b.faults c.faults way.later said.cause.failed;
      };
    } in
    subst (λ r. IsTold r a c whole) (sym is) broken

-- or nothing is left
pub all_said : {T E : Type 0} (a b : Said) (whole left : List ℕ) (value : T) → IsOnTheWay a b whole left → left ≡ [] → IsTold {T = T} {E = E} (Ok value) a b whole
all_said a b whole left value way is = record {
  whole = subst (λ t. SaysMore a.text b.text t) (sym (append-nil way.done) ∙ ap (λ t. way.done ++ t) (sym is) ∙ way.joins) way.says;
  part = tt;
  cause = record { later = way.later; failed = tt };
}

-- or the last part decides
pub ends_with : {T E : Type 0} (a b c : Said) (whole left : List ℕ) (result : Result T E) → IsOnTheWay a b whole left → IsTold result b c left → IsTold result a c whole
ends_with a b c whole left (Ok value) way told = all_said a c whole [] value (goes_on a b c whole left left [] (Ok value) value refl way (sym (append-nil left)) told) refl
ends_with a b c whole left (Err error) way told = breaks_off a b c whole left left [] (Err error) (Err error) error refl refl way (sym (append-nil left)) told

-- the item whose turn it is
pub next_at : {A : Type 0} (xs : List A) (i : ℕ) (d : A) → i < length xs → drop i xs ≡ get_or xs i d ∷ drop (i + 1) xs
next_at xs i d lt = let e : suc i ≡ i + 1 = omega arith in drop-cons xs i d lt ∙ ap (λ n. get_or xs i d ∷ drop n xs) e

pub next_item : {A : Type 0} (xs : List A) (i : ℕ) (x : A) → i < length xs → x ≡ get_or xs i x → drop i xs ≡ x ∷ drop (i + 1) xs
next_item xs i x lt is = next_at xs i x lt ∙ ap (λ y. y ∷ drop (i + 1) xs) (sym is)

pub told_as : {T E : Type 0} (a b : Said) (text other : List ℕ) (result : Result T E) → text ≡ other → IsTold result a b text → IsTold result a b other
told_as a b text other result is told = subst (λ t. IsTold result a b t) is told

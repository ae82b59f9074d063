-- Queues that are taken from the front, and lists that grow at the back.
use Rattle.std.proofs.Common.{◌≡◌, ◌∙◌, ℕ, suc, ◌+◌, Bool, cond, List, [], ◌∷◌, ◌++◌, map, filter, take, drop, sym, ap, arith, get_or, ◌<◌, length, add-one, drop-cons}
use Rattle.std.specs.List.{range_with_len}
use Rattle.std.proofs.lemmas.List.{append_assoc, map-append}
use Rattle.std.proofs.lemmas.List.Elements.{filter-append}
use Rattle.vh_core.proofs.Lists.{range_plus}

-- what is left to drop, and to take, behind the first
pub drop_next : {A : Type 0} (items rest : List A) (first : A) (left next : ℕ) → items ≡ first ∷ rest → left ≡ suc next → drop next rest ≡ drop left items
drop_next items rest first left next is more = ap (λ n. drop n (first ∷ rest)) (sym more) ∙ ap (drop left) (sym is)

pub take_next : {A B : Type 0} (f : A → B) (items rest : List A) (first : A) (done : List B) (left next : ℕ) → items ≡ first ∷ rest → left ≡ suc next
    → (done ++ f first ∷ []) ++ map f (take next rest) ≡ done ++ map f (take left items)
take_next f items rest first done left next is more =
    append_assoc done (f first ∷ []) (map f (take next rest))
    ∙ ap (λ n. done ++ map f (take n (first ∷ rest))) (sym more)
    ∙ ap (λ l. done ++ map f (take left l)) (sym is)

-- one place more of those that a test picks
pub pick_next : {A : Type 0} (f : ℕ → A) (test : ℕ → Bool) (place next : ℕ) → next ≡ place + 1
    → map f (filter test (range_with_len 0 next)) ≡ map f (filter test (range_with_len 0 place)) ++ map f (cond (test place) (place ∷ []) [])
pick_next f test place next more =
    let at : 0 + place ≡ place = omega arith in
    ap (λ n. map f (filter test (range_with_len 0 n))) more
    ∙ ap (λ l. map f (filter test l)) (range_plus 0 place 1 ∙ ap (λ n. range_with_len 0 place ++ n ∷ []) at)
    ∙ ap (map f) (filter-append test (range_with_len 0 place) (place ∷ []))
    ∙ map-append f (filter test (range_with_len 0 place)) (cond (test place) (place ∷ []) [])

-- the next of a list, and what is left behind it
pub drop_at : {A : Type 0} (xs : List A) (i : ℕ) (x : A) → x ≡ get_or xs i x → i < length xs → drop i xs ≡ x ∷ drop (i + 1) xs
drop_at xs i x is within = rw (add-one, drop-cons xs i x) (ap (λ y. y ∷ drop (suc i) xs) (sym is))

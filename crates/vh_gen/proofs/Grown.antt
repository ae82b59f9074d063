-- Lists that grow by one.
use Rattle.std.proofs.Common.{◌≡◌, ◌∙◌, ℕ, zero, suc, ◌+◌, ◌<◌, List, [], ◌∷◌, ◌++◌, map, sym, ap, subst, arith}
use Rattle.std.specs.List.{range_with_len}
use Rattle.std.proofs.lemmas.List.{append_assoc, append-nil}
use Rattle.std.proofs.lemmas.List.FromFn.{map-range_with_len_more}
use Rattle.vh_session.specs.Keeps.{EachBehind}
use Rattle.vh_session.proofs.Behind.{behind_more}

-- what is given for each number below another, and for that one
pub one_more : {A : Type 0} (f : ℕ → A) (before after : List A) (x : A) (n : ℕ) → before ≡ map f (range_with_len 0 n) → after ≡ before ++ x ∷ [] → x ≡ f n → after ≡ map f (range_with_len 0 (n + 1))
one_more f before after x n was is same =
    is ∙ ap (λ l. l ++ x ∷ []) was ∙ ap (λ y. map f (range_with_len 0 n) ++ y ∷ []) same ∙ sym (map-range_with_len_more f 0 n n (omega arith))

-- so behind others
pub one_behind : {A : Type 0} (f : ℕ → A) (first before after : List A) (x : A) (n : ℕ) → before ≡ first ++ map f (range_with_len 0 n) → after ≡ before ++ x ∷ [] → x ≡ f n → after ≡ first ++ map f (range_with_len 0 (n + 1))
one_behind f first before after x n was is same =
    is ∙ ap (λ l. l ++ x ∷ []) was ∙ append_assoc first (map f (range_with_len 0 n)) (x ∷ [])
    ∙ ap (λ y. first ++ (map f (range_with_len 0 n) ++ y ∷ [])) same ∙ ap (λ l. first ++ l) (sym (map-range_with_len_more f 0 n n (omega arith)))

-- each that is given for a number stands rightly behind those before it
pub behind_range : {A : Type 0} (Stands : List A → A → Type 0) (first : List A) (f : ℕ → A) (n : ℕ) → ((i : ℕ) → i < n → Stands (first ++ map f (range_with_len 0 i)) (f i)) → EachBehind Stands first (map f (range_with_len 0 n))
behind_range Stands first f zero each = tt
behind_range Stands first f (suc n) each =
    let more : map f (range_with_len 0 (n + 1)) ≡ map f (range_with_len 0 n) ++ f n ∷ [] = map-range_with_len_more f 0 n n (omega arith) in
    let same : n + 1 ≡ suc n = omega arith in
    subst (EachBehind Stands first) (sym more ∙ ap (λ m. map f (range_with_len 0 m)) same)
    (behind_more Stands first (map f (range_with_len 0 n)) (f n) (behind_range Stands first f n (λ i lt. each i (omega (arith, lt)))) (each n (omega arith)))

-- and others behind these
pub behind_append : {A : Type 0} (Stands : List A → A → Type 0) (first xs ys : List A) → EachBehind Stands first xs → EachBehind Stands (first ++ xs) ys → EachBehind Stands first (xs ++ ys)
behind_append Stands first [] ys each more = subst (λ l. EachBehind Stands l ys) (append-nil first) more
behind_append Stands first (x ∷ xs) ys each more = (each.0, behind_append Stands (first ++ x ∷ []) xs ys each.1 (subst (λ l. EachBehind Stands l ys) (sym (append_assoc first (x ∷ []) xs)) more))

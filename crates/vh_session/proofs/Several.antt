-- Numbers that are read one after the other.
use Rattle.std.proofs.Common.{◌≡◌, ◌∙◌, ℕ, ◌+◌, ◌<◌, Bool, List, [], ◌∷◌, ◌++◌, take, drop, set, length, get_or, refl, sym, ap, subst, Ok, Err, true, false, true≢false}
use Rattle.std.proofs.lemmas.List.{take_more, take_more_set, take-append-drop}
use Rattle.std.proofs.Math.ListN.{get_or-map}
use Rattle.std.proofs.lemmas.List.{length-map}
use Rattle.std.specs.Borrow.{Bor}
use Rattle.vh_text.specs.Tokens.{texts}
use Rattle.vh_session.specs.declared.fault.SessionKind.{SessionKind}
use Rattle.vh_session.specs.Rules.{Checked, number_that, numbers_that}
use Rattle.vh_text.specs.Chains.{given}

is_ok_ : {A : Type 0} → Checked A → Bool
is_ok_ (Ok a) = true
is_ok_ (Err kind) = false

ok_not_err : {A : Type 0} → (a : A) (kind : SessionKind) → ¬ (◌≡◌ {A = Checked A} (Ok a) (Err kind))
unfolding is_ok_
ok_not_err a kind same = true≢false (ap is_ok_ same)

push_given : (first : Checked ℕ) (rest last : Checked (List ℕ)) (n : Checked ℕ) → last ≡ given rest (λ ns. given n (λ m. Ok (ns ++ m ∷ [])))
    → given first (λ x. given last (λ xs. Ok (x ∷ xs))) ≡ given (given first (λ x. given rest (λ xs. Ok (x ∷ xs)))) (λ ns. given n (λ m. Ok (ns ++ m ∷ [])))
push_given (Err kind) rest last n is = refl
push_given (Ok x) (Err kind) last n is = ap (λ l. given l (λ xs. Ok (x ∷ xs))) is
push_given (Ok x) (Ok ns) last (Err kind) is = ap (λ l. given l (λ xs. Ok (x ∷ xs))) is
push_given (Ok x) (Ok ns) last (Ok m) is = ap (λ l. given l (λ xs. Ok (x ∷ xs))) is

push : (passes : ℕ → Bool) (words : List (List ℕ)) (w : List ℕ) → numbers_that passes (words ++ w ∷ []) ≡ given (numbers_that passes words) (λ ns. given (number_that passes w) (λ n. Ok (ns ++ n ∷ [])))
push passes [] w = refl
push passes (x ∷ xs) w = push_given (number_that passes x) (numbers_that passes xs) (numbers_that passes (xs ++ w ∷ [])) (number_that passes w) (push passes xs w)

-- the numbers so far, and a further one
pub one_more : (passes : ℕ → Bool) (words : List (List ℕ)) (i n : ℕ) (numbers : List ℕ) (d : List ℕ) → i < length words → i < length numbers → numbers_that passes (take i words) ≡ Ok (take i numbers)
    → number_that passes (get_or words i d) ≡ Ok n → numbers_that passes (take (i + 1) words) ≡ Ok (take (i + 1) (set numbers i n))
one_more passes words i n numbers d lt room before now =
    ap (λ ws. numbers_that passes ws) (take_more words i d lt)
    ∙ push passes (take i words) (get_or words i d)
    ∙ ap (λ r. given r (λ ns. given (number_that passes (get_or words i d)) (λ m. Ok (ns ++ m ∷ [])))) before
    ∙ ap (λ r. given r (λ m. Ok (take i numbers ++ m ∷ []))) now
    ∙ ap (λ ns. Ok ns) (sym (take_more_set numbers i n room))

stays_given : (first : Checked ℕ) (rest all : Checked (List ℕ)) (kind : SessionKind) → (rest ≡ Err kind → all ≡ Err kind) → given first (λ x. given rest (λ xs. Ok (x ∷ xs))) ≡ Err kind → given first (λ x. given all (λ xs. Ok (x ∷ xs))) ≡ Err kind
stays_given (Err k) rest all kind stays is = is
stays_given (Ok x) (Err k) all kind stays is = ap (λ l. given l (λ xs. Ok (x ∷ xs))) (stays is)
stays_given (Ok x) (Ok ns) all kind stays is = absurd (ok_not_err (x ∷ ns) kind is)

-- a fault stays the first, whatever follows
stays : (passes : ℕ → Bool) (words more : List (List ℕ)) (kind : SessionKind) → numbers_that passes words ≡ Err kind → numbers_that passes (words ++ more) ≡ Err kind
stays passes [] more kind is = absurd (ok_not_err [] kind is)
stays passes (x ∷ xs) more kind is = stays_given (number_that passes x) (numbers_that passes xs) (numbers_that passes (xs ++ more)) kind (stays passes xs more kind) is

-- the first fault is that of the next word
pub first_fault : (passes : ℕ → Bool) (words : List (List ℕ)) (i : ℕ) (numbers : List ℕ) (d : List ℕ) (kind : SessionKind) → i < length words → numbers_that passes (take i words) ≡ Ok (take i numbers)
    → number_that passes (get_or words i d) ≡ Err kind → numbers_that passes words ≡ Err kind
first_fault passes words i numbers d kind lt before now =
    let here : numbers_that passes (take (i + 1) words) ≡ Err kind =
    ap (λ ws. numbers_that passes ws) (take_more words i d lt)
    ∙ push passes (take i words) (get_or words i d)
    ∙ ap (λ r. given r (λ ns. given (number_that passes (get_or words i d)) (λ m. Ok (ns ++ m ∷ [])))) before
    ∙ ap (λ r. given r (λ m. Ok (take i numbers ++ m ∷ []))) now in
    subst (λ ws. numbers_that passes ws ≡ Err kind) (take-append-drop (i + 1) words) (stays passes (take (i + 1) words) (drop (i + 1) words) kind here)

-- a word by its place
pub text_at : (words : List (Bor (List ℕ))) (i : ℕ) → get_or (texts words) i [] ≡ (get_or words i (record { ref_ptr = (0, 0); now = [] })).now
text_at words i = get_or-map (λ (w : Bor (List ℕ)). w.now) words i (record { ref_ptr = (0, 0); now = [] })

pub texts_long : (words : List (Bor (List ℕ))) → length (texts words) ≡ length words
texts_long words = length-map words (λ (w : Bor (List ℕ)). w.now)

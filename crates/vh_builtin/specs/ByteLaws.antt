-- State bytes read back.
use Rattle.std.specs.Prelude.{◌≡◌, ℕ, ◌+◌, ◌*◌, ◌^◌, ◌<◌, ◌≤◌, Bool, true, false, ◌&&◌, ◌==◌, nat_le, List, [], ◌∷◌, ◌++◌, length, take, drop, Some, None, All, if◌then◌else◌}
use Rattle.std.proofs.Common.{zero, suc, get_or, set, refl, sym, ap, ap₂, subst, ◌∙◌, arith}
use Rattle.std.proofs.lemmas.Bool.{le-leb, leb-true, eq-eqb, eqb-true, true≢false}
use Rattle.std.proofs.lemmas.List.{take_at, take_all, drop_at, length-append, append_assoc}
use Rattle.vh_files.specs.Fields.{number_of, field_at}
use Rattle.vh_builtin.specs.Bytes.{word_bytes, pair_bytes, text_of, is_pair, are_pairs, pair_values, is_form, held_in}

number_word : (n : ℕ) → n < 2 ^ 32 → number_of (word_bytes n) ≡ n
number_word n fits = omega (arith, fits)

-- the number behind so many bytes
field_behind : (front : List ℕ) (n at : ℕ) (rest : List ℕ) → n < 2 ^ 32 → length front ≡ at → field_at (front ++ (word_bytes n ++ rest)) at 4 ≡ n
field_behind front n at rest fits long =
    ap (λ (bytes : List ℕ). number_of (take 4 bytes)) (drop_at front (word_bytes n ++ rest) at long)
    ∙ ap number_of (take_at (word_bytes n) rest 4 refl) ∙ number_word n fits

-- the pairs behind some bytes
record ArePairsOf (ids values bytes : List ℕ) (at : ℕ) : Type 0 where
  pub form : are_pairs ids bytes at ≡ true
  pub held : pair_values ids bytes at ≡ values

length_pairs : (ids values : List ℕ) → length values ≡ length ids → length (pair_bytes ids values) ≡ 8 * length ids
length_pairs [] values long = refl
length_pairs (id ∷ ids) [] long = absurd (omega (arith, long))
length_pairs (id ∷ ids) (value ∷ values) long = let rest = length_pairs ids values (omega (arith, long)) in omega (arith, rest)

pub all_rest : (x : ℕ) (xs : List ℕ) (n : ℕ) → All (λ k. k ≤ n) (x ∷ xs) → All (λ k. k ≤ n) xs
all_rest x xs n are i d lt = are (suc i) d (omega (arith, lt))

pairs_back : (ids values front : List ℕ) (at : ℕ) → length front ≡ at → length values ≡ length ids → All (λ id. id ≤ 2 ^ 24) ids → All (λ value. value ≤ 2 ^ 24) values → ArePairsOf ids values (front ++ pair_bytes ids values) at
pairs_back [] [] front at long same small within = record {
  form = eq-eqb (length (front ++ [])) at (let e = length-append front [] in omega (arith, e, long));
  held = refl;
}
pairs_back [] (value ∷ values) front at long same small within = absurd (omega (arith, same))
pairs_back (id ∷ ids) [] front at long same small within = absurd (omega (arith, same))
pairs_back (id ∷ ids) (value ∷ values) front at long same small within =
    let rest = pair_bytes ids values in
    let bytes = front ++ (word_bytes id ++ (word_bytes value ++ rest)) in
    let first : field_at bytes at 4 ≡ id = field_behind front id at (word_bytes value ++ rest) (let s = small 0 0 (omega arith) in omega (arith, s)) long in
    let longer : length (front ++ word_bytes id) ≡ at + 4 = length-append front (word_bytes id) ∙ (let e : length front + 4 ≡ at + 4 = omega (arith, long) in e) in
    let split : bytes ≡ (front ++ word_bytes id) ++ (word_bytes value ++ rest) = sym (append_assoc front (word_bytes id) (word_bytes value ++ rest)) in
    let second : field_at bytes (at + 4) 4 ≡ value = ap (λ (bs : List ℕ). field_at bs (at + 4) 4) split
    ∙ field_behind (front ++ word_bytes id) value (at + 4) rest (let s = within 0 0 (omega arith) in omega (arith, s)) longer in
    let longest : length ((front ++ word_bytes id) ++ word_bytes value) ≡ at + 8 = length-append (front ++ word_bytes id) (word_bytes value) ∙ (let e : length (front ++ word_bytes id) + 4 ≡ at + 8 = omega (arith, longer) in e) in
    let whole : bytes ≡ ((front ++ word_bytes id) ++ word_bytes value) ++ rest = split ∙ sym (append_assoc (front ++ word_bytes id) (word_bytes value) rest) in
    let behind = subst (λ (bs : List ℕ). ArePairsOf ids values bs (at + 8)) (sym whole)
    (pairs_back ids values ((front ++ word_bytes id) ++ word_bytes value) (at + 8) longest (omega (arith, same)) (all_rest id ids (2 ^ 24) small) (all_rest value values (2 ^ 24) within)) in
    let size : at + 8 ≤ length bytes = (let e = ap (λ (bs : List ℕ). length bs) whole in let f = length-append ((front ++ word_bytes id) ++ word_bytes value) rest in omega (arith, e, f, longest)) in
    record {
      form = rw (le-leb (at + 8) (length bytes) size) (rw (eq-eqb (field_at bytes at 4) id first) (rw (le-leb (field_at bytes (at + 4) 4) (2 ^ 24) (let w = within 0 0 (omega arith) in omega (arith, second, w))) behind.form));
      held = ap₂ (λ (v : ℕ) (vs : List ℕ). v ∷ vs) second behind.held;
    }

-- bytes that were written hold what they were written of
pub text_held : (ids values : List ℕ) → length values ≡ length ids → All (λ id. id ≤ 2 ^ 24) ids → All (λ value. value ≤ 2 ^ 24) values → held_in ids (text_of ids values) ≡ Some values
text_held ids values same small within =
    let bytes = text_of ids values in
    let pairs = pairs_back ids values (word_bytes 1) 4 refl same small within in
    let one : field_at bytes 0 4 ≡ 1 = field_behind [] 1 0 (pair_bytes ids values) (omega arith) refl in
    let form : is_form ids bytes ≡ true = rw (le-leb 4 (length bytes) (omega arith)) (rw (eq-eqb (field_at bytes 0 4) 1 one) pairs.form) in
    ap (λ t. if t then Some (pair_values ids bytes 4) else None) form ∙ ap (λ (vs : List ℕ). Some vs) pairs.held

pub length_text : (ids values : List ℕ) → length values ≡ length ids → length (text_of ids values) ≡ 4 + 8 * length ids
length_text ids values same = let e = length_pairs ids values same in omega (arith, e)

pub length_held : (ids bytes : List ℕ) (at : ℕ) → length (pair_values ids bytes at) ≡ length ids
length_held [] bytes at = refl
length_held (id ∷ ids) bytes at = ap (λ n. suc n) (length_held ids bytes (at + 8))

both : (a b : Bool) → (a && b) ≡ true → (a ≡ true) × (b ≡ true)
both true true e = (refl, refl)
both true false e = absurd (true≢false (sym e))
both false b e = absurd (true≢false (sym e))

pub all_more : (x : ℕ) (xs : List ℕ) (n : ℕ) → x ≤ n → All (λ k. k ≤ n) xs → All (λ k. k ≤ n) (x ∷ xs)
all_more x xs n le are zero d lt = le
all_more x xs n le are (suc i) d lt = are i d (omega (arith, lt))

pub none_le : (n : ℕ) → All (λ k. k ≤ n) []
none_le n i d lt = absurd (omega (arith, lt))

held_within : (ids bytes : List ℕ) (at : ℕ) → are_pairs ids bytes at ≡ true → All (λ value. value ≤ 2 ^ 24) (pair_values ids bytes at)
held_within [] bytes at form = none_le (2 ^ 24)
held_within (id ∷ ids) bytes at form =
    let one = both (is_pair bytes at id) (are_pairs ids bytes (at + 8)) form in
    let two = both (nat_le (at + 8) (length bytes)) _ one.0 in
    let three = both (field_at bytes at 4 == id) _ two.1 in
    all_more (field_at bytes (at + 4) 4) (pair_values ids bytes (at + 8)) (2 ^ 24) (leb-true (field_at bytes (at + 4) 4) (2 ^ 24) three.1) (held_within ids bytes (at + 8) one.1)

pub form_within : (ids bytes : List ℕ) → is_form ids bytes ≡ true → All (λ value. value ≤ 2 ^ 24) (pair_values ids bytes 4)
form_within ids bytes form = held_within ids bytes 4 (both (field_at bytes 0 4 == 1) _ (both (nat_le 4 (length bytes)) _ form).1).1

some_same : (a b : List ℕ) → Some a ≡ Some b → a ≡ b
some_same a b e = cc

none_some : (a : List ℕ) → None ≡ Some a → ⊥
none_some a e = cc

-- what bytes hold is a value for each id, none above 1.0
pub held_values : (ids bytes values : List ℕ) → held_in ids bytes ≡ Some values → (length values ≡ length ids) × All (λ value. value ≤ 2 ^ 24) values
held_values ids bytes values e =
    elim (is_form ids bytes) as (λ t. is_form ids bytes ≡ t → (if t then Some (pair_values ids bytes 4) else None) ≡ Some values → (length values ≡ length ids) × All (λ value. value ≤ 2 ^ 24) values) [
      | true ↦ λ test h. subst (λ (vs : List ℕ). (length vs ≡ length ids) × All (λ value. value ≤ 2 ^ 24) vs) (some_same (pair_values ids bytes 4) values h) (length_held ids bytes 4, form_within ids bytes test)
      | false ↦ λ test h. absurd (none_some values h)
    ] refl e

-- bytes of the form have a length
pairs_long : (ids bytes : List ℕ) (at : ℕ) → are_pairs ids bytes at ≡ true → length bytes ≡ at + 8 * length ids
pairs_long [] bytes at form = let e = eqb-true (length bytes) at form in omega (arith, e)
pairs_long (id ∷ ids) bytes at form = let rest = pairs_long ids bytes (at + 8) (both (is_pair bytes at id) (are_pairs ids bytes (at + 8)) form).1 in omega (arith, rest)

pub form_long : (ids bytes : List ℕ) → is_form ids bytes ≡ true → length bytes ≡ 4 + 8 * length ids
form_long ids bytes form = pairs_long ids bytes 4 (both (field_at bytes 0 4 == 1) _ (both (nat_le 4 (length bytes)) _ form).1).1

get_held : (ids bytes : List ℕ) (at k : ℕ) → k < length ids → get_or (pair_values ids bytes at) k 0 ≡ field_at bytes (at + 8 * k + 4) 4
get_held [] bytes at k lt = absurd (omega (arith, lt))
get_held (id ∷ ids) bytes at zero lt = ap (λ n. field_at bytes n 4) (let e : at + 4 ≡ at + 8 * 0 + 4 = omega arith in e)
get_held (id ∷ ids) bytes at (suc k) lt = get_held ids bytes (at + 8) k (omega (arith, lt)) ∙ ap (λ n. field_at bytes n 4) (let e : at + 8 + 8 * k + 4 ≡ at + 8 * suc k + 4 = omega arith in e)

-- one value more in the place of another
replaced : (new old : List ℕ) (k value : ℕ) → value ≡ get_or new k 0 → k < length new → k < length old → set (take k new ++ drop k old) k value ≡ take (suc k) new ++ drop (suc k) old
replaced [] old k value is lt too = absurd (omega (arith, lt))
replaced (n ∷ new) [] k value is lt too = absurd (omega (arith, too))
replaced (n ∷ new) (o ∷ old) zero value is lt too = ap (λ v. v ∷ old) is
replaced (n ∷ new) (o ∷ old) (suc k) value is lt too = ap (λ (vs : List ℕ). n ∷ vs) (replaced new old k value is (omega (arith, lt)) (omega (arith, too)))

pub held_more : (ids bytes values old : List ℕ) (k value : ℕ) → values ≡ take k (pair_values ids bytes 4) ++ drop k old → k < length ids → length ids ≤ length old → value ≡ field_at bytes (8 + 8 * k) 4
    → set values k value ≡ take (k + 1) (pair_values ids bytes 4) ++ drop (k + 1) old
held_more ids bytes values old k value are lt most is =
    ap (λ (vs : List ℕ). set vs k value) are
    ∙ replaced (pair_values ids bytes 4) old k value (is ∙ ap (λ n. field_at bytes n 4) (let e : 8 + 8 * k ≡ 4 + 8 * k + 4 = omega arith in e) ∙ sym (get_held ids bytes 4 k lt))
    (let e = length_held ids bytes 4 in omega (arith, e, lt)) (omega (arith, lt, most))
    ∙ (let e : suc k ≡ k + 1 = omega arith in ap (λ n. take n (pair_values ids bytes 4) ++ drop n old) e)

pub held_all : (ids bytes values old : List ℕ) (k : ℕ) → values ≡ take k (pair_values ids bytes 4) ++ drop k old → length ids ≤ k → k ≤ length ids → values ≡ pair_values ids bytes 4 ++ drop (length ids) old
held_all ids bytes values old k are le most =
    let here : k ≡ length ids = omega (arith, le, most) in
    are ∙ ap (λ n. take n (pair_values ids bytes 4) ++ drop n old) here ∙ ap (λ (vs : List ℕ). vs ++ drop (length ids) old) (take_all (length ids) (pair_values ids bytes 4) (let e = length_held ids bytes 4 in omega (arith, e)))

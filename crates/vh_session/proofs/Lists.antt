-- Lists that are mapped.
use Rattle.std.proofs.Common.{◌≡◌, ◌∙◌, ℕ, suc, ◌<◌, ◌-◌, ◌+◌, Bool, List, [], ◌∷◌, ◌++◌, map, set, take, length, get_or, refl, sym, ap, arith}
use Rattle.std.specs.Prelude.{◌||◌}
use Rattle.std.specs.Prelude.{Option, Some, None}
use Rattle.std.specs.List.{list_any, filter_map, cons_option}
use Rattle.std.proofs.lemmas.List.Elements.{filter_map-append}
use Rattle.std.proofs.Math.ListN.{get_or-map}
use Rattle.std.proofs.lemmas.List.{length-map, map-set, take_more, append-nil}
use Rattle.vh_session.specs.Entry.{with_last}

pub list_any_map : {A B : Type 0} → (p : B → Bool) (f : A → B) (xs : List A) → list_any p (map f xs) ≡ list_any (λ x. p (f x)) xs
list_any_map p f [] = refl
list_any_map p f (x ∷ xs) = ap (λ t. p (f x) || t) (list_any_map p f xs)

-- the last of a list, changed in its place
pub last_set : {A : Type 0} → (f : A → A) (xs : List A) (d : A) → 0 < length xs → with_last f xs ≡ set xs (length xs - 1) (f (get_or xs (length xs - 1) d))
last_set f [] d some = absurd (omega (arith, some))
last_set f (x ∷ []) d some = refl
last_set f (x ∷ (y ∷ ys)) d some =
    let rest = last_set f (y ∷ ys) d (omega arith) in
    let e : suc (length ys) - 1 ≡ length ys = omega arith in
    let g : suc (suc (length ys)) - 1 ≡ suc (length ys) = omega arith in
    ap (λ zs. x ∷ zs) (rest ∙ ap (λ n. set (y ∷ ys) n (f (get_or (y ∷ ys) n d))) e)
    ∙ sym (ap (λ n. set (x ∷ (y ∷ ys)) n (f (get_or (x ∷ (y ∷ ys)) n d))) g)

-- the last of a list that is mapped, changed in its place
pub last_mapped : {A B : Type 0} → (g : A → B) (f : B → B) (xs : List A) (new d : A) → 0 < length xs → g new ≡ f (g (get_or xs (length xs - 1) d)) → map g (set xs (length xs - 1) new) ≡ with_last f (map g xs)
last_mapped g f xs new d some is =
    let long = length-map xs g in
    let more : 0 < length (map g xs) = omega (arith, some, long) in
    let here : length (map g xs) - 1 ≡ length xs - 1 = ap (λ n. n - 1) long in
    map-set g xs (length xs - 1) new
    ∙ ap (λ y. set (map g xs) (length xs - 1) y) (is ∙ ap f (sym (get_or-map g xs (length xs - 1) d)))
    ∙ sym (last_set f (map g xs) (g d) more ∙ ap (λ n. set (map g xs) n (f (get_or (map g xs) n (g d)))) here)

-- what a test gives of one element more
filter_more : {X Y : Type 0} → (h : X → Option Y) (xs : List X) (i : ℕ) (d : X) → i < length xs → filter_map h (take (i + 1) xs) ≡ filter_map h (take i xs) ++ cons_option (h (get_or xs i d)) []
filter_more h xs i d lt = ap (λ ys. filter_map h ys) (take_more xs i d lt) ∙ filter_map-append h (take i xs) (get_or xs i d ∷ [])

pub none_more : {X Y : Type 0} → (h : X → Option Y) (xs : List X) (i : ℕ) (d : X) → i < length xs → h (get_or xs i d) ≡ None → filter_map h (take (i + 1) xs) ≡ filter_map h (take i xs)
none_more h xs i d lt is = filter_more h xs i d lt ∙ ap (λ o. filter_map h (take i xs) ++ cons_option o []) is ∙ append-nil (filter_map h (take i xs))

pub some_more : {X Y : Type 0} → (h : X → Option Y) (xs : List X) (i : ℕ) (d : X) (y : Y) → i < length xs → h (get_or xs i d) ≡ Some y → filter_map h (take (i + 1) xs) ≡ filter_map h (take i xs) ++ y ∷ []
some_more h xs i d y lt is = filter_more h xs i d lt ∙ ap (λ o. filter_map h (take i xs) ++ cons_option o []) is

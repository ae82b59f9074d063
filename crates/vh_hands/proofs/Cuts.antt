-- The editors' holders, row by row.
use Rattle.std.proofs.Common.{◌≡◌, ℕ, ◌+◌, ◌-◌, ◌<◌, ◌≤◌, List, [], ◌∷◌, ◌++◌, length, take, drop, map, get_or, set, Vec, vec_capacity, refl, sym, ap, subst, ◌∙◌, arith, append_assoc}
use Rattle.std.specs.Prelude.{All}
use Rattle.std.specs.declared.alloc.Global.{Global}
use Rattle.std.proofs.lemmas.List.{length-take-le, get_or-take, take-take, take_all, length-map, map_more, drop_more, set-append_right, get_or-append-add, get_or-map, map-set, set-get_or}
use Rattle.std.proofs.lemmas.List.Elements.{All-head, All-tail, All-cons, All-push}
use Rattle.std.proofs.lemmas.List.Sorted.{IsPermutation-cons, IsPermutation-sym, IsPermutation-to_front}
use Rattle.vh_counted.specs.declared.numbers.Numbers.{Numbers}
use Rattle.vh_counted.specs.declared.object.Object.{Object}
use Rattle.vh_counted.specs.declared.object.Holder.{Holder}
use Rattle.vh_counted.specs.Objects.{IsObject, Keeps}
use Rattle.vh_counted.proofs.Sums.{law_any_holder_first}
use Rattle.vh_instance.specs.Seats.{Seat, no_seat, holder_seat, row_seats, holders_at, last_holders, without_last, AreTogether}

-- of each row the first holders, so many
abbrev pub cut : ℕ → List (List Seat) → List (List Seat)
cut n rows = map (λ row. take n row) rows

pub cut_all : (n : ℕ) (rows : List (List Seat)) → All (λ row. length row ≡ n) rows → cut n rows ≡ rows
cut_all n [] long = refl
cut_all n (row ∷ rows) long =
    let size = All-head (λ (row : List Seat). length row ≡ n) row rows long in
    ap (λ (r : List Seat). r ∷ cut n rows) (take_all n row (omega (arith, size))) ∙ ap (λ (rs : List (List Seat)). row ∷ rs) (cut_all n rows (All-tail (λ (row : List Seat). length row ≡ n) row rows long))

pub lasts_cut : (n : ℕ) (rows : List (List Seat)) → All (λ row. n < length row) rows → last_holders (cut (n + 1) rows) ≡ holders_at rows n
lasts_cut n [] long = refl
lasts_cut n (row ∷ rows) long =
    let more = All-head (λ (row : List Seat). n < length row) row rows long in
    let size = length-take-le (n + 1) row (omega (arith, more)) in
    let last : length (take (n + 1) row) - 1 ≡ n = omega (arith, size) in
    ap (λ (m : ℕ). get_or (take (n + 1) row) m no_seat ∷ last_holders (cut (n + 1) rows)) last
    ∙ ap (λ (seat : Seat). seat ∷ last_holders (cut (n + 1) rows)) (get_or-take (n + 1) row n no_seat (omega arith))
    ∙ ap (λ (seats : List Seat). get_or row n no_seat ∷ seats) (lasts_cut n rows (All-tail (λ (row : List Seat). n < length row) row rows long))

pub cut_less : (n : ℕ) (rows : List (List Seat)) → All (λ row. n < length row) rows → without_last (cut (n + 1) rows) ≡ cut n rows
cut_less n [] long = refl
cut_less n (row ∷ rows) long =
    let more = All-head (λ (row : List Seat). n < length row) row rows long in
    let size = length-take-le (n + 1) row (omega (arith, more)) in
    let last : length (take (n + 1) row) - 1 ≡ n = omega (arith, size) in
    ap (λ (m : ℕ). take m (take (n + 1) row) ∷ without_last (cut (n + 1) rows)) last
    ∙ ap (λ (r : List Seat). r ∷ without_last (cut (n + 1) rows)) (take-take n (n + 1) row (omega arith))
    ∙ ap (λ (rs : List (List Seat)). take n row ∷ rs) (cut_less n rows (All-tail (λ (row : List Seat). n < length row) row rows long))

pub cut_some : (n : ℕ) (rows : List (List Seat)) → All (λ row. n < length row) rows → All (λ row. 1 ≤ length row) (cut (n + 1) rows)
cut_some n [] long = λ k d lt. absurd (omega (arith, lt))
cut_some n (row ∷ rows) long =
    let more = All-head (λ (row : List Seat). n < length row) row rows long in
    let size = length-take-le (n + 1) row (omega (arith, more)) in
    All-cons (λ (row : List Seat). 1 ≤ length row) (take (n + 1) row) (cut (n + 1) rows) (omega (arith, size)) (cut_some n rows (All-tail (λ (row : List Seat). n < length row) row rows long))

-- what holds of all holders holds of a node's
pub each_at : (P : Seat → Type 0) (n : ℕ) (rows : List (List Seat)) → All (λ row. n < length row) rows → All (λ row. All P row) rows → All P (holders_at rows n)
each_at P n [] long all = λ k d lt. absurd (omega (arith, lt))
each_at P n (row ∷ rows) long all =
    let more = All-head (λ (row : List Seat). n < length row) row rows long in
    All-cons P (get_or row n no_seat) (holders_at rows n) (All-head (λ (row : List Seat). All P row) row rows all n no_seat more)
    (each_at P n rows (All-tail (λ (row : List Seat). n < length row) row rows long) (All-tail (λ (row : List Seat). All P row) row rows all))

-- no holder is left
pub none_left : {C : Type 0} (rows : List (Vec (Holder C) Global)) (seats : List (List Seat)) → map row_seats rows ≡ cut 0 seats → All (λ row. length row.items ≡ 0) rows
none_left {C} [] seats is = λ k d lt. absurd (omega (arith, lt))
none_left {C} (row ∷ rows) [] is = absurd (omega (arith, ap (λ (xs : List (List Seat)). length xs) is))
none_left {C} (row ∷ rows) (first ∷ seats) is =
    let here : length (row_seats row) ≡ 0 = ap (λ (xs : List (List Seat)). length (get_or xs 0 [])) is in
    let size = length-map row.items (λ (holder : Holder C). holder_seat holder) in
    All-cons (λ (r : Vec (Holder C) Global). length r.items ≡ 0) row rows (omega (arith, here, size)) (none_left rows seats (ap (λ (xs : List (List Seat)). drop 1 xs) is))

-- ---- a list of which the first, so many, have changed
module _ {X A : Type 0} (f g : X → A) (xs : List X) (rows : List A) (k : ℕ) (d : X) (lt : k < length xs) (is : rows ≡ map g (take k xs) ++ map f (drop k xs)) where
  front_size : length (map g (take k xs)) ≡ k
  front_size = length-map (take k xs) g ∙ length-take-le k xs (omega (arith, lt))

  rest_is : map f (drop k xs) ≡ f (get_or xs k d) ∷ map f (drop (k + 1) xs)
  rest_is = ap (λ (ys : List X). map f ys) (drop_more xs k d lt)

  parts : rows ≡ map g (take k xs) ++ (f (get_or xs k d) ∷ map f (drop (k + 1) xs))
  parts = is ∙ ap (λ (ys : List A). map g (take k xs) ++ ys) rest_is

  pub left_at : (e : A) → get_or rows k e ≡ f (get_or xs k d)
  left_at e =
      let here : length (map g (take k xs)) + 0 ≡ k = omega (arith, front_size) in
      ap (λ (j : ℕ). get_or rows j e) (sym here)
      ∙ ap (λ (ys : List A). get_or ys (length (map g (take k xs)) + 0) e) parts
      ∙ get_or-append-add (map g (take k xs)) (f (get_or xs k d) ∷ map f (drop (k + 1) xs)) 0 e

  pub one_more : set rows k (g (get_or xs k d)) ≡ map g (take (k + 1) xs) ++ map f (drop (k + 1) xs)
  one_more =
      let none : k - k ≡ 0 = omega arith in
      ap (λ (ys : List A). set ys k (g (get_or xs k d))) parts
      ∙ set-append_right (map g (take k xs)) (f (get_or xs k d) ∷ map f (drop (k + 1) xs)) k k (g (get_or xs k d)) front_size (omega arith)
      ∙ ap (λ (j : ℕ). map g (take k xs) ++ set (f (get_or xs k d) ∷ map f (drop (k + 1) xs)) j (g (get_or xs k d))) none
      ∙ sym (append_assoc (map g (take k xs)) (g (get_or xs k d) ∷ []) (map f (drop (k + 1) xs)))
      ∙ ap (λ (ys : List A). ys ++ map f (drop (k + 1) xs)) (sym (map_more g xs k d lt))

-- capacities stay where a row takes a holder more within its own
pub capacities_same : {C : Type 0} (rows : List (Vec (Holder C) Global)) (k : ℕ) (row : Vec (Holder C) Global) (d : Vec (Holder C) Global) → k < length rows → vec_capacity row ≡ vec_capacity (get_or rows k d) → map vec_capacity (set rows k row) ≡ map vec_capacity rows
capacities_same {C} rows k row d lt same =
    map-set (λ (r : Vec (Holder C) Global). vec_capacity r) rows k row
    ∙ ap (λ (n : ℕ). set (map vec_capacity rows) k n) (same ∙ sym (get_or-map (λ (r : Vec (Holder C) Global). vec_capacity r) rows k d 0 lt))
    ∙ set-get_or (map vec_capacity rows) k 0

-- a holder more is put last
parted_last : (cap : ℕ) (opener new part : Numbers) (others : List Numbers) → Keeps cap (opener ∷ []) (new ∷ part ∷ []) → IsObject cap (opener ∷ others) → IsObject cap (new ∷ (others ++ part ∷ []))
parted_last cap opener new part others keeps is =
    (law_any_holder_first cap (new ∷ part ∷ others) (new ∷ (others ++ part ∷ [])) (IsPermutation-cons new (part ∷ others) (others ++ part ∷ []) (IsPermutation-sym (others ++ part ∷ []) (part ∷ others) (IsPermutation-to_front others part))) (keeps others is)).0

pub parted_together : (object : Object) (opener new part : Seat) (seats all : List Seat) → AreTogether object (opener ∷ seats) → Keeps object.cap (opener.numbers ∷ []) (new.numbers ∷ part.numbers ∷ []) → new.object ≡ opener.object → part.object ≡ opener.object
    → all ≡ seats ++ part ∷ [] → AreTogether object (new ∷ all)
parted_together object opener new part seats all held keeps first second is =
    let IsOf : Seat → Type 0 = λ seat. seat.object ≡ object in
    let mine = All-head IsOf opener seats held.of in
    subst (λ (others : List Seat). AreTogether object (new ∷ others)) (sym is)
    (record {
      of = All-cons IsOf new (seats ++ part ∷ []) (first ∙ mine) (All-push IsOf seats part (All-tail IsOf opener seats held.of) (second ∙ mine));
      whole = subst (λ (others : List Numbers). IsObject object.cap (new.numbers ∷ others)) (sym (map-push seats part))
          (parted_last object.cap opener.numbers new.numbers part.numbers (map (λ (seat : Seat). seat.numbers) seats) keeps held.whole);
    })
  where
    map-push : (ss : List Seat) (s : Seat) → map (λ (seat : Seat). seat.numbers) (ss ++ s ∷ []) ≡ map (λ (seat : Seat). seat.numbers) ss ++ s.numbers ∷ []
    map-push [] s = refl
    map-push (first ∷ ss) s = ap (λ (ns : List Numbers). first.numbers ∷ ns) (map-push ss s)

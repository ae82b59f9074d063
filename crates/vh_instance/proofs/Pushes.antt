-- Lists by node that grow by one node.
use Rattle.std.proofs.Common.{◌≡◌, ℕ, ◌+◌, ◌<◌, inl, inr, List, [], ◌∷◌, ◌++◌, length, map, get_or, refl, sym, ap, subst, ◌∙◌, arith, length-append}
use Rattle.std.specs.Prelude.{All}
use Rattle.std.proofs.lemmas.List.{map-append, get_or_push}
use Rattle.std.proofs.lemmas.List.Elements.{All-same, All-push, All-cons, All-head, All-tail, All-nil}
use Rattle.std.proofs.lemmas.List.FromFn.{map-range_with_len_more}
use Rattle.std.proofs.lemmas.Bool.{cases_lt}
use Rattle.std.proofs.Math.ListN.{get_or-append}
use Rattle.vh_counted.specs.declared.object.Object.{Object}
use Rattle.vh_instance.specs.Seats.{Seat, no_seat, no_object, holders_at, pushed_rows, AreTogether, AreHeld}
use Rattle.vh_instance.specs.Band.{by_node}

pub pushed_map : {X A : Type 0} (f : X → A) (g : ℕ → A) (xs : List X) (x : X) (k : ℕ) → map f xs ≡ by_node k g → f x ≡ g k → map f (xs ++ x ∷ []) ≡ by_node (k + 1) g
pushed_map {X} {A} f g xs x k rest here =
    map-append f xs (x ∷ []) ∙ ap (λ (ys : List A). ys ++ f x ∷ []) rest ∙ ap (λ (y : A). by_node k g ++ y ∷ []) here ∙ sym (map-range_with_len_more g 0 k k (omega arith))

pub pushed_all : {X A : Type 0} (P : A → Type 0) (f : X → A) (xs : List X) (x : X) → All P (map f xs) → P (f x) → All P (map f (xs ++ x ∷ []))
pushed_all P f xs x all here = All-same P (map f (xs ++ x ∷ [])) (map f xs ++ f x ∷ []) (map-append f xs (x ∷ [])) (All-push P (map f xs) (f x) all here)

-- a holder more behind each row

module _ (n : ℕ) where
  before_pushed : (node : ℕ) (seats : List Seat) (rows : List (List Seat)) → length seats ≡ length rows → All (λ row. length row ≡ n) rows → node < n → holders_at (pushed_rows seats rows) node ≡ holders_at rows node
  before_pushed node [] [] same long lt = refl
  before_pushed node [] (row ∷ rows) same long lt = absurd (omega arith)
  before_pushed node (seat ∷ seats) [] same long lt = absurd (omega arith)
  before_pushed node (seat ∷ seats) (row ∷ rows) same long lt =
      let here = All-head (λ (other : List Seat). length other ≡ n) row rows long in
      let there = before_pushed node seats rows (omega arith) (All-tail (λ (other : List Seat). length other ≡ n) row rows long) lt in
      ap (λ (s : Seat). s ∷ holders_at (pushed_rows seats rows) node) (get_or-append row (seat ∷ []) no_seat node (omega arith))
      ∙ ap (λ (ss : List Seat). get_or row node no_seat ∷ ss) there

  at_pushed : (seats : List Seat) (rows : List (List Seat)) → length seats ≡ length rows → All (λ row. length row ≡ n) rows → holders_at (pushed_rows seats rows) n ≡ seats
  at_pushed [] [] same long = refl
  at_pushed [] (row ∷ rows) same long = absurd (omega arith)
  at_pushed (seat ∷ seats) [] same long = absurd (omega arith)
  at_pushed (seat ∷ seats) (row ∷ rows) same long =
      let here = All-head (λ (other : List Seat). length other ≡ n) row rows long in
      let there = at_pushed seats rows (omega arith) (All-tail (λ (other : List Seat). length other ≡ n) row rows long) in
      ap (λ (s : Seat). s ∷ holders_at (pushed_rows seats rows) n) (get_or_push row seat no_seat n here)
      ∙ ap (λ (ss : List Seat). seat ∷ ss) there

  long_pushed : (seats : List Seat) (rows : List (List Seat)) → length seats ≡ length rows → All (λ row. length row ≡ n) rows → All (λ row. length row ≡ n + 1) (pushed_rows seats rows)
  long_pushed [] [] same long = All-nil (λ (other : List Seat). length other ≡ n + 1)
  long_pushed [] (row ∷ rows) same long = absurd (omega arith)
  long_pushed (seat ∷ seats) [] same long = absurd (omega arith)
  long_pushed (seat ∷ seats) (row ∷ rows) same long =
      let here = All-head (λ (other : List Seat). length other ≡ n) row rows long in
      let there = long_pushed seats rows (omega arith) (All-tail (λ (other : List Seat). length other ≡ n) row rows long) in
      All-cons (λ (other : List Seat). length other ≡ n + 1) (row ++ seat ∷ []) (pushed_rows seats rows) (omega (arith, here, length-append row (seat ∷ []))) there

pub held_pushed : (objects : List Object) (object : Object) (seats : List Seat) (rows : List (List Seat)) → length seats ≡ length rows → AreHeld objects rows → AreTogether object seats → AreHeld (objects ++ object ∷ []) (pushed_rows seats rows)
held_pushed objects object seats rows same held together =
    let n = length objects in
    let size : length (objects ++ object ∷ []) ≡ n + 1 = length-append objects (object ∷ []) in
    record {
      long = subst (λ (m : ℕ). All (λ (row : List Seat). length row ≡ m) (pushed_rows seats rows)) (sym size) (long_pushed n seats rows same held.long);
      each = λ node lt.
          elim (cases_lt node n) [
            | inl before ↦
                subst (λ (o : Object). AreTogether o (holders_at (pushed_rows seats rows) node)) (sym (get_or-append objects (object ∷ []) no_object node before))
                (subst (λ (ss : List Seat). AreTogether (get_or objects node no_object) ss) (sym (before_pushed n node seats rows same held.long before)) (held.each node before))
            | inr past ↦
                let last : n ≡ node = omega (arith, size) in
                subst (λ (k : ℕ). AreTogether (get_or (objects ++ object ∷ []) k no_object) (holders_at (pushed_rows seats rows) k)) last
                (subst (λ (o : Object). AreTogether o (holders_at (pushed_rows seats rows) n)) (sym (get_or_push objects object no_object n refl))
                (subst (λ (ss : List Seat). AreTogether object ss) (sym (at_pushed n seats rows same held.long)) together))
          ];
    }

-- Rows of holders, of which the last of each is taken.
use Rattle.std.proofs.Common.{◌≡◌, ℕ, ◌+◌, ◌<◌, List, [], ◌∷◌, ◌++◌, length, take, map, get_or, refl, sym, ap, subst, ◌∙◌, arith, length-append}
use Rattle.std.proofs.lemmas.List.{get_or-take, get_or_push, length-take-le}
use Rattle.std.proofs.lemmas.List.Elements.{All-map, All-weaker, All-head}
use Rattle.std.proofs.Math.ListN.{get_or-append}
use Rattle.std.proofs.Math.Seq.{take-append_seam}
use Rattle.vh_counted.specs.declared.object.Object.{Object}
use Rattle.vh_instance.specs.Seats.{Seat, no_seat, no_object, holders_at, AreTogether, AreHeld}

-- the first places of each row
abbrev pub fronts : ℕ → List (List Seat) → List (List Seat)
fronts n rows = map (λ row. take n row) rows

holders_in_fronts : (n node : ℕ) (rows : List (List Seat)) → node < n → holders_at (fronts n rows) node ≡ holders_at rows node
holders_in_fronts n node [] lt = refl
holders_in_fronts n node (row ∷ rows) lt =
    ap (λ (seat : Seat). seat ∷ holders_at (fronts n rows) node) (get_or-take n row node no_seat lt)
    ∙ ap (λ (seats : List Seat). get_or row node no_seat ∷ seats) (holders_in_fronts n node rows lt)

-- without the last object and the last of each row the others are held
pub held_fronts : (objects : List Object) (object : Object) (rows : List (List Seat)) → AreHeld (objects ++ object ∷ []) rows → AreHeld objects (fronts (length objects) rows)
held_fronts objects object rows held =
    let long : length (objects ++ object ∷ []) ≡ length objects + 1 = length-append objects (object ∷ []) in
    record {
      long = All-map (λ (row : List Seat). length row ≡ length objects) (λ (row : List Seat). take (length objects) row) rows
          (All-weaker (λ (row : List Seat). length row ≡ length (objects ++ object ∷ [])) (λ (row : List Seat). length (take (length objects) row) ≡ length objects)
          (λ row size. length-take-le (length objects) row (omega (arith, size, long))) rows held.long);
      each = λ node lt.
          subst (λ (seats : List Seat). AreTogether (get_or objects node no_object) seats) (sym (holders_in_fronts (length objects) node rows lt))
          (subst (λ (o : Object). AreTogether o (holders_at rows node)) (get_or-append objects (object ∷ []) no_object node lt) (held.each node (omega (arith, long))));
    }

-- and the holders of the last object are together
pub held_last : (objects : List Object) (object : Object) (rows : List (List Seat)) → AreHeld (objects ++ object ∷ []) rows → AreTogether object (holders_at rows (length objects))
held_last objects object rows held =
    let long : length (objects ++ object ∷ []) ≡ length objects + 1 = length-append objects (object ∷ []) in
    subst (λ (o : Object). AreTogether o (holders_at rows (length objects))) (get_or_push objects object no_object (length objects) refl) (held.each (length objects) (omega (arith, long)))

-- where the openers alone hold
openers_long : (objects : List Object) (object : Object) (openers : List Seat) (opener : Seat) (rows : List (List Seat)) → AreHeld (objects ++ object ∷ []) ((openers ++ opener ∷ []) ∷ rows) → length openers ≡ length objects
openers_long objects object openers opener rows held =
    let size = All-head (λ (row : List Seat). length row ≡ length (objects ++ object ∷ [])) (openers ++ opener ∷ []) rows held.long in
    omega (arith, size, length-append objects (object ∷ []), length-append openers (opener ∷ []))

pub held_openers : (objects : List Object) (object : Object) (openers : List Seat) (opener : Seat) → AreHeld (objects ++ object ∷ []) ((openers ++ opener ∷ []) ∷ []) → AreHeld objects (openers ∷ [])
held_openers objects object openers opener held =
    let size = openers_long objects object openers opener [] held in
    let front : take (length objects) (openers ++ opener ∷ []) ≡ openers = ap (λ (n : ℕ). take n (openers ++ opener ∷ [])) (sym size) ∙ take-append_seam openers (opener ∷ []) in
    subst (λ (row : List Seat). AreHeld objects (row ∷ [])) front (held_fronts objects object ((openers ++ opener ∷ []) ∷ []) held)

pub last_opener : (objects : List Object) (object : Object) (openers : List Seat) (opener : Seat) → AreHeld (objects ++ object ∷ []) ((openers ++ opener ∷ []) ∷ []) → AreTogether object (opener ∷ [])
last_opener objects object openers opener held =
    let size = openers_long objects object openers opener [] held in
    subst (λ (seat : Seat). AreTogether object (seat ∷ [])) (get_or_push openers opener no_seat (length objects) size) (held_last objects object ((openers ++ opener ∷ []) ∷ []) held)

-- What was handed out, node by node.
use Rattle.std.proofs.Common.{◌≡◌, ℕ, ◌+◌, ◌<◌, List, [], ◌∷◌, ◌++◌, length, map, get_or, refl, sym, ap, subst, ◌∙◌, arith}
use Rattle.std.specs.Prelude.{All, Vec}
use Rattle.std.specs.declared.alloc.Global.{Global}
use Rattle.std.specs.List.{sum_by}
use Rattle.std.proofs.lemmas.List.Elements.{All-cons, All-head, All-tail, All-from_get_or}
use Rattle.std.proofs.lemmas.List.FromFn.{get_or-map-range_with_len, length-map-range_with_len, map-range_with_len_more}
use Rattle.std.proofs.lemmas.List.Sums.{sum_by-cons}
use Rattle.vh_params.specs.Nodes.{Node}
use Rattle.vh_params.specs.declared.command.Word.{Word}
use Rattle.vh_counted.specs.declared.object.Holder.{Holder}
use Rattle.vh_counted.specs.declared.object.Object.{Object}
use Rattle.vh_counted.specs.Steps.{total, split_part}
use Rattle.vh_instance.specs.Seats.{Seat, no_seat, no_object, holder_seat, row_seats, holders_at, AreTogether, AreHeld, Has}
use Rattle.vh_instance.specs.Band.{controller_object, controller_table, kept_beside}
use Rattle.vh_hands.specs.Hands.{in_hand, not_held, AreInHand}
use Rattle.vh_hands.specs.Parts.{part_for, row_for}

-- a controller whose holders were handed out
pub record IsHandedOut (nodes : List Node) (scripts : List (List Word)) (node : ℕ) (opener : Seat) : Type 0 where
  pub held : AreTogether (controller_object (length scripts)) (opener ∷ map (part_for (length scripts) nodes node) scripts)
  pub references : Has controller_table (kept_beside 0) 0 opener

part_total : (n room : ℕ) → total (split_part 2 n room) ≡ n
part_total n room = omega arith

sum_parts : (editors : ℕ) (nodes : List Node) (node : ℕ) (scripts : List (List Word)) → sum_by (λ seat. total seat.numbers) (map (part_for editors nodes node) scripts) ≡ sum_by (in_hand nodes node) scripts
sum_parts editors nodes node [] = refl
sum_parts editors nodes node (script ∷ scripts) =
    let part = part_for editors nodes node script in
    let rest = sum_parts editors nodes node scripts in
    let here = part_total (in_hand nodes node script) (not_held nodes node script) in
    omega (arith, rest, here, sum_by-cons (λ (seat : Seat). total seat.numbers) part (map (part_for editors nodes node) scripts), sum_by-cons (in_hand nodes node) script scripts)

sum_rooms : (editors : ℕ) (nodes : List Node) (node : ℕ) (scripts : List (List Word)) → sum_by (λ seat. seat.numbers.room) (map (part_for editors nodes node) scripts) ≡ sum_by (not_held nodes node) scripts
sum_rooms editors nodes node [] = refl
sum_rooms editors nodes node (script ∷ scripts) =
    let part = part_for editors nodes node script in
    let rest = sum_rooms editors nodes node scripts in
    omega (arith, rest, sum_by-cons (λ (seat : Seat). seat.numbers.room) part (map (part_for editors nodes node) scripts), sum_by-cons (not_held nodes node) script scripts)

-- of each row the holder of a node
at_rows : (editors : ℕ) (nodes : List Node) (count node : ℕ) (scripts : List (List Word)) → node < count → holders_at (map (row_for editors nodes count) scripts) node ≡ map (part_for editors nodes node) scripts
at_rows editors nodes count node [] lt = refl
at_rows editors nodes count node (script ∷ scripts) lt =
    ap (λ (seat : Seat). seat ∷ holders_at (map (row_for editors nodes count) scripts) node) (get_or-map-range_with_len (λ (k : ℕ). part_for editors nodes k script) 0 count node node no_seat lt (omega arith))
    ∙ ap (λ (seats : List Seat). part_for editors nodes node script ∷ seats) (at_rows editors nodes count node scripts lt)

rows_long : (editors : ℕ) (nodes : List Node) (count : ℕ) (scripts : List (List Word)) → All (λ row. length row ≡ count) (map (row_for editors nodes count) scripts)
rows_long editors nodes count [] = λ k d lt. absurd (omega (arith, lt))
rows_long editors nodes count (script ∷ scripts) =
    All-cons (λ (row : List Seat). length row ≡ count) (row_for editors nodes count script) (map (row_for editors nodes count) scripts)
    (length-map-range_with_len (λ (k : ℕ). part_for editors nodes k script) 0 count) (rows_long editors nodes count scripts)

pub row_size : (editors : ℕ) (nodes : List Node) (count : ℕ) (script : List Word) → length (row_for editors nodes count script) ≡ count
row_size editors nodes count script = length-map-range_with_len (λ (k : ℕ). part_for editors nodes k script) 0 count

-- a row with one holder more
pub row_more : (editors : ℕ) (nodes : List Node) (count : ℕ) (script : List Word) → row_for editors nodes (count + 1) script ≡ row_for editors nodes count script ++ part_for editors nodes count script ∷ []
row_more editors nodes count script = map-range_with_len_more (λ (k : ℕ). part_for editors nodes k script) 0 count count (omega arith)

-- all rows were handed out
module _ (nodes : List Node) (scripts : List (List Word)) (count : ℕ) (rows : List (List Seat)) (is : rows ≡ map (row_for (length scripts) nodes count) scripts) where
  pub are_in_hand : length nodes ≡ count → AreInHand nodes scripts rows
  are_in_hand size = record {
    references = λ node lt.
        ap (λ (seats : List (List Seat)). sum_by (λ (seat : Seat). total seat.numbers) (holders_at seats node)) is
        ∙ ap (λ (seats : List Seat). sum_by (λ (seat : Seat). total seat.numbers) seats) (at_rows (length scripts) nodes count node scripts (omega (arith, lt, size)))
        ∙ sum_parts (length scripts) nodes node scripts;
    room = λ node lt.
        ap (λ (seats : List (List Seat)). sum_by (λ (seat : Seat). seat.numbers.room) (holders_at seats node)) is
        ∙ ap (λ (seats : List Seat). sum_by (λ (seat : Seat). seat.numbers.room) seats) (at_rows (length scripts) nodes count node scripts (omega (arith, lt, size)))
        ∙ sum_rooms (length scripts) nodes node scripts;
  }

  pub are_held : (objects : List Object) (openers : List Seat) → length objects ≡ count → length openers ≡ count → All (λ object. object ≡ controller_object (length scripts)) objects
      → ((k : ℕ) → k < count → IsHandedOut nodes scripts k (get_or openers k no_seat)) → AreHeld objects (openers ∷ rows)
  are_held objects openers size sizes same out = record {
    long = All-cons (λ (row : List Seat). length row ≡ length objects) openers rows (sizes ∙ sym size)
        (subst (λ (seats : List (List Seat)). All (λ (row : List Seat). length row ≡ length objects) seats) (sym is)
        (subst (λ (n : ℕ). All (λ (row : List Seat). length row ≡ n) (map (row_for (length scripts) nodes count) scripts)) (sym size) (rows_long (length scripts) nodes count scripts)));
    each = λ node lt.
        let within : node < count = omega (arith, lt, size) in
        subst (λ (object : Object). AreTogether object (get_or openers node no_seat ∷ holders_at rows node)) (sym (same node no_object lt))
        (subst (λ (seats : List (List Seat)). AreTogether (controller_object (length scripts)) (get_or openers node no_seat ∷ holders_at seats node)) (sym is)
        (subst (λ (seats : List Seat). AreTogether (controller_object (length scripts)) (get_or openers node no_seat ∷ seats)) (sym (at_rows (length scripts) nodes count node scripts within)) (out node within).held));
  }

pub have_their_own : (nodes : List Node) (scripts : List (List Word)) (openers : List Seat) → ((k : ℕ) → k < length openers → IsHandedOut nodes scripts k (get_or openers k no_seat)) → All (Has controller_table (kept_beside 0) 0) openers
have_their_own nodes scripts openers out = All-from_get_or (Has controller_table (kept_beside 0) 0) openers no_seat (λ k lt. (out k lt).references)

-- ---- before any controller
empty_items : {X : Type 0} (xs : List X) → length xs ≡ 0 → xs ≡ []
empty_items [] none = refl
empty_items (x ∷ xs) none = absurd (omega (arith, none))

pub rows_none : {C : Type 0} (editors : ℕ) (nodes : List Node) (rows : List (Vec (Holder C) Global)) (scripts : List (List Word)) → length rows ≡ length scripts → All (λ row. length row.items ≡ 0) rows → map row_seats rows ≡ map (row_for editors nodes 0) scripts
rows_none editors nodes [] [] same none = refl
rows_none editors nodes [] (script ∷ scripts) same none = absurd (omega (arith, same))
rows_none editors nodes (row ∷ rows) [] same none = absurd (omega (arith, same))
rows_none {C} editors nodes (row ∷ rows) (script ∷ scripts) same none =
    ap (λ (holders : List (Holder C)). map holder_seat holders ∷ map row_seats rows) (empty_items row.items (All-head (λ (r : Vec (Holder C) Global). length r.items ≡ 0) row rows none))
    ∙ ap (λ (seats : List (List Seat)). [] ∷ seats) (rows_none editors nodes rows scripts (omega (arith, same)) (All-tail (λ (r : Vec (Holder C) Global). length r.items ≡ 0) row rows none))

-- What an editor's holds and drops come to.
use Rattle.std.proofs.Common.{◌≡◌, ◌∙◌, ℕ, ◌+◌, ◌-◌, ◌*◌, ◌<◌, ◌≤◌, List, [], ◌∷◌, ◌++◌, length, take, drop, map, get_or, sym, ap, subst, arith}
use Rattle.std.specs.Prelude.{All, Vec, vec_len, vec_capacity}
use Rattle.std.specs.List.{sum_by}
use Rattle.std.specs.declared.alloc.Global.{Global}
use Rattle.std.proofs.lemmas.List.{drop_more, get_or-map, length-map, map_push}
use Rattle.std.proofs.lemmas.List.Elements.{All-cons}
use Rattle.std.proofs.lemmas.List.Sums.{sum_by-cons, sum_by_more}
use Rattle.vh_params.specs.Nodes.{Node}
use Rattle.vh_params.specs.declared.command.Word.{Word}
use Rattle.vh_counted.specs.declared.numbers.Numbers.{Numbers}
use Rattle.vh_counted.specs.declared.object.Object.{Object}
use Rattle.vh_counted.specs.declared.object.Holder.{Holder}
use Rattle.vh_counted.specs.Objects.{IsObject}
use Rattle.vh_counted.specs.Steps.{split_part}
use Rattle.vh_instance.specs.Seats.{Seat, holder_seat, row_seats, AreTogether}
use Rattle.vh_instance.specs.Band.{controller_object}
use Rattle.vh_hands.specs.Hands.{at_script_end, in_hand, not_held}
use Rattle.vh_hands.specs.Parts.{part_for}
use Rattle.vh_hands.proofs.Holds.{holds_few, held_few}

-- a holder that is all there is of an object
pub alone : (object : Object) (seat : Seat) → seat.object ≡ object → IsObject object.cap (seat.numbers ∷ []) → AreTogether object (seat ∷ [])
alone object seat same whole = record { of = All-cons (λ (s : Seat). s.object ≡ object) seat [] same (λ k d lt. absurd (omega (arith, lt))); whole = whole }

-- an editor of these scripts, how many holds it made of a node, and what it holds of it
module _ (nodes : List Node) (node : ℕ) (scripts : List (List Word)) (k holds held : ℕ) (lt : k < length scripts)
    (holds_are : holds ≡ (at_script_end nodes (get_or scripts k [])).holds node) (held_is : held ≡ (at_script_end nodes (get_or scripts k [])).held node) where
  script : List Word
  script = get_or scripts k []

  pub few : holds ≤ 64
  few = let most = holds_few nodes (get_or scripts k []) node in omega (arith, most, holds_are)

  pub within : held ≤ 1 + holds
  within = let most = held_few nodes (get_or scripts k []) node in omega (arith, most, holds_are, held_is)

  hand : in_hand nodes node (get_or scripts k []) ≡ held + 1
  hand = ap (λ (n : ℕ). n + 1) (sym held_is)

  free : not_held nodes node (get_or scripts k []) ≡ 64 - holds
  free = ap (λ (n : ℕ). 64 - n) (sym holds_are)

  -- while all are gathered: references and room before this editor's holds and drops, and behind them
  pub some_references : 2 ≤ 2 * (length scripts - k) + sum_by (in_hand nodes node) (take k scripts)
  some_references = omega (arith, lt)

  pub some_room : holds ≤ 64 * (length scripts - k) + sum_by (not_held nodes node) (take k scripts)
  some_room = let most = few in omega (arith, lt, most)

  pub references_next : 2 * (length scripts - k) + sum_by (in_hand nodes node) (take k scripts) + holds ≡ 2 * (length scripts - (k + 1)) + sum_by (in_hand nodes node) (take (k + 1) scripts) + (1 + holds - held)
  references_next = let more = sum_by_more (in_hand nodes node) scripts k [] lt in let most = within in let here = hand in omega (arith, more, most, here, lt)

  pub room_next : 64 * (length scripts - k) + sum_by (not_held nodes node) (take k scripts) - holds ≡ 64 * (length scripts - (k + 1)) + sum_by (not_held nodes node) (take (k + 1) scripts)
  room_next = let more = sum_by_more (not_held nodes node) scripts k [] lt in let most = few in let here = free in omega (arith, more, most, here, lt)

  -- while the parts are handed out: what is left for this editor and those behind it
  pub references_left : sum_by (in_hand nodes node) (drop k scripts) ≡ sum_by (in_hand nodes node) (drop (k + 1) scripts) + (held + 1)
  references_left =
      let cons = sum_by-cons (in_hand nodes node) (get_or scripts k []) (drop (k + 1) scripts) in
      let here = hand in
      ap (sum_by (in_hand nodes node)) (drop_more scripts k [] lt) ∙ omega (arith, cons, here)

  pub room_left : sum_by (not_held nodes node) (drop k scripts) ≡ sum_by (not_held nodes node) (drop (k + 1) scripts) + (64 - holds)
  room_left =
      let cons = sum_by-cons (not_held nodes node) (get_or scripts k []) (drop (k + 1) scripts) in
      let here = free in
      ap (sum_by (not_held nodes node)) (drop_more scripts k [] lt) ∙ omega (arith, cons, here)

  -- the part that it gets
  pub part_is : (part : Seat) → part.object ≡ controller_object (length scripts) → part.numbers ≡ split_part 2 (held + 1) (64 - holds) → part ≡ part_for (length scripts) nodes node (get_or scripts k [])
  part_is part object numbers =
      ap (λ (o : Object). seat_of o part.numbers) object
      ∙ ap (seat_of (controller_object (length scripts))) (numbers ∙ ap (λ (n : ℕ). split_part 2 n (64 - holds)) (sym hand) ∙ ap (split_part 2 (in_hand nodes node (get_or scripts k []))) (sym free))
    where
      seat_of : Object → Numbers → Seat
      seat_of o n = record { object = o; numbers = n }

-- ---- rows
pub seats_at : {C : Type 0} (rows : List (Vec (Holder C) Global)) (k : ℕ) (d : Vec (Holder C) Global) → k < length rows → get_or (map row_seats rows) k (row_seats d) ≡ row_seats (get_or rows k d)
seats_at {C} rows k d lt = get_or-map (λ (row : Vec (Holder C) Global). row_seats row) rows k d (row_seats d) lt

-- a row of so many holders has a place for one more
pub has_place : {C : Type 0} (rows old : List (Vec (Holder C) Global)) (seats : List Seat) (n k : ℕ) (d : Vec (Holder C) Global) → k < length rows → map vec_capacity rows ≡ map vec_capacity old
    → row_seats (get_or rows k d) ≡ seats → length seats ≡ n → All (λ room. n < room) (map vec_capacity old) → vec_len (get_or rows k d) < vec_capacity (get_or rows k d)
has_place {C} rows old seats n k d lt capacities now sized room =
    let counts = ap length now in
    let here = length-map (get_or rows k d).items (λ (holder : Holder C). holder_seat holder) in
    let within : k < length (map vec_capacity rows) = let e = length-map rows (λ (r : Vec (Holder C) Global). vec_capacity r) in omega (arith, lt, e) in
    let place : n < get_or (map vec_capacity rows) k 0 = subst (λ (caps : List ℕ). All (λ (room : ℕ). n < room) caps) (sym capacities) room k 0 within in
    let same = get_or-map (λ (r : Vec (Holder C) Global). vec_capacity r) rows k d 0 lt in
    let ok = (get_or rows k d).ok in
    omega (arith, counts, sized, here, place, same, ok.0)

-- a row with a holder more
pub row_pushed : {C : Type 0} (row old : Vec (Holder C) Global) (part : Holder C) → row.items ≡ old.items ++ part ∷ [] → row_seats row ≡ row_seats old ++ holder_seat part ∷ []
row_pushed {C} row old part is = ap (λ (holders : List (Holder C)). map holder_seat holders) is ∙ map_push (λ (holder : Holder C). holder_seat holder) old.items part

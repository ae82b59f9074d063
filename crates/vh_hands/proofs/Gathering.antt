-- The editors' holders are gathered.
use Rattle.std.proofs.Common.{◌≡◌, ◌≢◌, ◌∙◌, ℕ, ◌+◌, ◌-◌, ◌*◌, ◌<◌, List, [], ◌∷◌, ◌++◌, length, drop, map, get_or, set, Vec, sym, ap, subst, arith}
use Rattle.std.specs.Prelude.{All}
use Rattle.std.specs.declared.alloc.Global.{Global}
use Rattle.std.proofs.lemmas.List.{drop_more, get_or_push, map_push, length_push, length-map, get_or-map, map-set, get_or-set_other, get_or-set_same}
use Rattle.std.proofs.lemmas.List.Elements.{All-head, All-tail}
use Rattle.vh_counted.specs.declared.numbers.Numbers.{Numbers}
use Rattle.vh_counted.specs.declared.object.Object.{Object}
use Rattle.vh_counted.specs.declared.object.Counted.{Counted}
use Rattle.vh_counted.specs.declared.object.Holder.{Holder}
use Rattle.vh_counted.specs.declared.object.Opened.{Opened}
use Rattle.vh_counted.specs.Held.{object_of}
use Rattle.vh_counted.specs.Steps.{joined}
use Rattle.vh_instance.specs.Seats.{Seat, no_seat, no_object, holder_seat, row_seats, opener_seat, holders_at, last_holders, AreTogether, Has}
use Rattle.vh_instance.specs.Band.{controller_object, controller_table, kept_beside, kept_by_editor, objects_of}
use Rattle.vh_instance.proofs.Ends.{AreTaken, row_same, with_last, edits_size}
use Rattle.vh_instance.proofs.Places.{positions_of}
use Rattle.vh_hands.specs.Hands.{AreForEditors}
use Rattle.vh_hands.specs.Parts.{IsGathered}
use Rattle.vh_hands.proofs.Cuts.{cut, lasts_cut, each_at}
use Rattle.vh_hands.proofs.Places.{has_same, edit_joined}

-- ---- the next holder of an object is joined
last_of : (row front : List Seat) (last : Seat) → row ≡ front ++ last ∷ [] → get_or row (length row - 1) no_seat ≡ last
last_of row front last is =
    let size : length front ≡ length row - 1 = omega (arith, ap (λ (xs : List Seat). length xs) is, length_push front last) in
    ap (λ (xs : List Seat). get_or xs (length row - 1) no_seat) is ∙ get_or_push front last no_seat (length row - 1) size

lasts_from : {C : Type 0} (old : List (Vec (Holder C) Global)) (count : ℕ) (row taken : Vec (Holder C) Global) (last : Holder C) → count < length old → row ≡ get_or old count row → row.items ≡ taken.items ++ last ∷ []
    → last_holders (map row_seats (drop count old)) ≡ holder_seat last ∷ last_holders (map row_seats (drop (count + 1) old))
lasts_from {C} old count row taken last lt is items =
    ap (λ (rows : List (Vec (Holder C) Global)). last_holders (map row_seats rows)) (drop_more old count row lt)
    ∙ ap (λ (r : Vec (Holder C) Global). last_holders (row_seats r ∷ map row_seats (drop (count + 1) old))) (sym is)
    ∙ ap (λ (seat : Seat). seat ∷ last_holders (map row_seats (drop (count + 1) old)))
    (last_of (row_seats row) (row_seats taken) (holder_seat last) (ap (λ (holders : List (Holder C)). map holder_seat holders) items ∙ map_push (λ (holder : Holder C). holder_seat holder) taken.items last))

module _ {C : Type 0} (object : Object) (opener new : Seat) (old now : List (Vec (Holder C) Global)) (k : ℕ) (d taken : Vec (Holder C) Global) (last : Holder C) (are : AreTaken old now k) (lt : k < length old) (items : (get_or now k d).items ≡ taken.items ++ last ∷ [])
    (held : AreTogether object (opener ∷ last_holders (map row_seats (drop k old)))) (left : All (Has controller_table kept_by_editor 64) (last_holders (map row_seats (drop k old)))) where
  others : List Seat
  others = last_holders (map row_seats (drop (k + 1) old))

  lefts : All (Has controller_table kept_by_editor 64) (holder_seat last ∷ last_holders (map row_seats (drop (k + 1) old)))
  lefts = subst (λ (seats : List Seat). All (Has controller_table kept_by_editor 64) seats) (lasts_from old k (get_or now k d) taken last lt (row_same old now k d are lt) items) left

  pub left_next : All (Has controller_table kept_by_editor 64) (last_holders (map row_seats (drop (k + 1) old)))
  left_next = All-tail (Has controller_table kept_by_editor 64) (holder_seat last) (last_holders (map row_seats (drop (k + 1) old))) lefts

  pub references_next : new.numbers ≡ joined opener.numbers (holder_seat last).numbers → Has controller_table (kept_beside (2 * k)) (64 * k) opener → Has controller_table (kept_beside (2 * (k + 1))) (64 * (k + 1)) new
  references_next is has =
      let whole = (with_last object opener old now k d taken last are lt items held).whole in
      let Sized : Numbers → Type 0 = λ n. length n.references ≡ 16 in
      let rest = map (λ (seat : Seat). seat.numbers) (last_holders (map row_seats (drop (k + 1) old))) in
      let behind = All-tail Sized opener.numbers ((holder_seat last).numbers ∷ rest) whole.positions in
      has_same (2 * k + 2) (2 * (k + 1)) (64 * k + 64) (64 * (k + 1)) new (omega arith) (omega arith)
      (edit_joined (2 * k) (64 * k) opener (holder_seat last) new has (All-head (Has controller_table kept_by_editor 64) (holder_seat last) (last_holders (map row_seats (drop (k + 1) old))) lefts)
      (positions_of object.cap opener.numbers ((holder_seat last).numbers ∷ rest) whole) (All-head Sized (holder_seat last).numbers rest behind) is)

-- ---- controllers as they are made for editors
module _ {C : Type 0} (editors : ℕ) (controllers : List (Counted C)) (edits : List (Opened C)) (rows : List (Vec (Holder C) Global)) (made : AreForEditors editors controllers edits rows) where
  objects_count : length (objects_of controllers) ≡ length controllers
  objects_count = length-map controllers (λ (controller : Counted C). object_of controller)

  pub openers_count : length edits ≡ length controllers
  openers_count = edits_size controllers edits (map row_seats rows) made.held

  pub rows_long : All (λ row. length row ≡ length controllers) (map row_seats rows)
  rows_long = subst (λ (n : ℕ). All (λ (row : List Seat). length row ≡ n) (map row_seats rows)) objects_count
      (All-tail (λ (row : List Seat). length row ≡ length (objects_of controllers)) (map opener_seat edits) (map row_seats rows) made.held.long)

  pub rows_past : (n : ℕ) → n < length controllers → All (λ row. n < length row) (map row_seats rows)
  rows_past n lt = λ k d below. let long = rows_long k d below in omega (arith, long, lt)

  object_at : (n : ℕ) (d : Counted C) → n < length controllers → object_of (get_or controllers n d) ≡ controller_object editors
  object_at n d lt = let below : n < length (objects_of controllers) = let e = objects_count in omega (arith, e, lt) in
      sym (get_or-map (λ (controller : Counted C). object_of controller) controllers n d no_object lt) ∙ made.objects n no_object below

  pub is_object : (n : ℕ) (d : Counted C) → n < length controllers → object_of (get_or controllers n d) ≡ controller_object editors
  is_object = object_at

  -- the next controller to be gathered, where the rows are cut behind its holders
  module _ (n : ℕ) (d : Counted C) (lt : n < length controllers) (now : List (Vec (Holder C) Global)) (are : map row_seats now ≡ cut (n + 1) (map row_seats rows)) where
    lasts : last_holders (map row_seats now) ≡ holders_at (map row_seats rows) n
    lasts = ap last_holders are ∙ lasts_cut n (map row_seats rows) (rows_past n lt)

    pub held_here : (opener : Seat) → opener ≡ get_or (map opener_seat edits) n no_seat → AreTogether (object_of (get_or controllers n d)) (opener ∷ last_holders (map row_seats now))
    held_here opener is =
        let below : n < length (objects_of controllers) = let e = objects_count in omega (arith, e, lt) in
        subst (λ (object : Object). AreTogether object (opener ∷ last_holders (map row_seats now))) (get_or-map (λ (controller : Counted C). object_of controller) controllers n d no_object lt)
        (subst (λ (seats : List Seat). AreTogether (get_or (objects_of controllers) n no_object) (opener ∷ seats)) (sym lasts)
        (subst (λ (seat : Seat). AreTogether (get_or (objects_of controllers) n no_object) (seat ∷ holders_at (map row_seats rows) n)) (sym is) (made.held.each n below)))

    pub own_here : (opener : Seat) → opener ≡ get_or (map opener_seat edits) n no_seat → Has controller_table (kept_beside 0) 0 opener
    own_here opener is =
        let below : n < length (map opener_seat edits) = let e = length-map edits (λ (edit : Opened C). opener_seat edit) in let f = openers_count in omega (arith, e, f, lt) in
        subst (Has controller_table (kept_beside 0) 0) (sym is) (made.references n no_seat below)

    pub editors_here : All (Has controller_table kept_by_editor 64) (last_holders (map row_seats now))
    editors_here = subst (λ (seats : List Seat). All (Has controller_table kept_by_editor 64) seats) (sym lasts) (each_at (Has controller_table kept_by_editor 64) n (map row_seats rows) (rows_past n lt) made.holders)

-- ---- an opener is set anew
pub seat_was : {C : Type 0} (edits : List (Opened C)) (n : ℕ) (d : Opened C) → n < length edits → opener_seat (get_or edits n d) ≡ get_or (map opener_seat edits) n no_seat
seat_was {C} edits n d lt = sym (get_or-map (λ (edit : Opened C). opener_seat edit) edits n d no_seat lt)

pub seat_other : {C : Type 0} (edits : List (Opened C)) (n k : ℕ) (new : Opened C) → k ≢ n → get_or (map opener_seat (set edits n new)) k no_seat ≡ get_or (map opener_seat edits) k no_seat
seat_other {C} edits n k new apart = ap (λ (seats : List Seat). get_or seats k no_seat) (map-set (λ (edit : Opened C). opener_seat edit) edits n new) ∙ get_or-set_other (map opener_seat edits) n k (opener_seat new) no_seat apart

pub seat_here : {C : Type 0} (edits : List (Opened C)) (n : ℕ) (new : Opened C) → n < length edits → get_or (map opener_seat (set edits n new)) n no_seat ≡ opener_seat new
seat_here {C} edits n new lt =
    let e = length-map edits (λ (edit : Opened C). opener_seat edit) in
    let below : n < length (map opener_seat edits) = omega (arith, e, lt) in
    ap (λ (seats : List Seat). get_or seats n no_seat) (map-set (λ (edit : Opened C). opener_seat edit) edits n new) ∙ get_or-set_same (map opener_seat edits) n (opener_seat new) no_seat below

-- what an opener is, where it is the same object
pub gathered_one : (editors rows : ℕ) (object : Object) (opener : Seat) → object ≡ controller_object editors → rows ≡ editors → AreTogether object (opener ∷ []) → Has controller_table (kept_beside (2 * rows)) (64 * rows) opener → IsGathered editors opener
gathered_one editors rows object opener same count held has = record {
  held = subst (λ (o : Object). AreTogether o (opener ∷ [])) same held;
  references = subst (λ (n : ℕ). Has controller_table (kept_beside (2 * n)) (64 * n) opener) count has;
}

-- Editors' holders are parted off into rows.
use Rattle.std.proofs.Common.{◌≡◌, ℕ, ◌+◌, ◌<◌, List, [], ◌∷◌, ◌++◌, length, take, drop, map, get_or, set, Vec, vec_capacity, refl, sym, ap, subst, ◌∙◌, arith}
use Rattle.std.specs.Prelude.{All}
use Rattle.std.specs.declared.alloc.Global.{Global}
use Rattle.std.proofs.lemmas.List.{get_or-drop, get_or-map, length-map, length-set, map_push, map-set, set-get_or, take_more, take_more_set, drop-drop, drop-set-lt, length_push, length-take-le, get_or_default}
use Rattle.std.proofs.lemmas.List.Elements.{All-head, All-tail, All-cons, All-push}
use Rattle.std.proofs.lemmas.List.Sorted.{IsPermutation-cons, IsPermutation-sym, IsPermutation-to_front}
use Rattle.vh_counted.specs.declared.numbers.Numbers.{Numbers}
use Rattle.vh_counted.specs.declared.object.Object.{Object}
use Rattle.vh_counted.specs.declared.object.Holder.{Holder}
use Rattle.vh_counted.specs.Objects.{IsObject, Keeps}
use Rattle.vh_counted.proofs.Sums.{law_any_holder_first}
use Rattle.vh_instance.specs.Seats.{Seat, holder_seat, row_seats, pushed_rows, HaveRoom, AreTogether, Has}
use Rattle.vh_instance.specs.Band.{controller_table, kept_by_editor}

pushed_more : (seats : List Seat) (seat : Seat) (rows : List (List Seat)) (row : List Seat) → length seats ≡ length rows → pushed_rows (seats ++ seat ∷ []) (rows ++ row ∷ []) ≡ pushed_rows seats rows ++ (row ++ seat ∷ []) ∷ []
pushed_more [] seat [] row same = refl
pushed_more [] seat (r ∷ rows) row same = absurd (omega (arith, same))
pushed_more (s ∷ seats) seat [] row same = absurd (omega (arith, same))
pushed_more (s ∷ seats) seat (r ∷ rows) row same = ap (λ (rest : List (List Seat)). (r ++ s ∷ []) ∷ rest) (pushed_more seats seat rows row (omega (arith, same)))

-- rows of which the first, so many, have a holder more
pub record ArePut {C : Type 0} (object : Object) (opener : Seat) (old new : List (Vec (Holder C) Global)) (count : ℕ) : Type 0 where
  pub seats : List Seat
  pub each : length seats ≡ count
  pub size : length new ≡ length old
  pub front : map row_seats (take count new) ≡ pushed_rows seats (map row_seats (take count old))
  pub rest : drop count new ≡ drop count old
  pub capacities : map vec_capacity new ≡ map vec_capacity old
  pub has : All (Has controller_table kept_by_editor 64) seats
  pub held : AreTogether object (opener ∷ seats)

-- a row to which nothing was added yet
row_left : {C : Type 0} (object : Object) (opener : Seat) (old new : List (Vec (Holder C) Global)) (count : ℕ) (d : Vec (Holder C) Global) → ArePut object opener old new count → get_or new count d ≡ get_or old count d
row_left {C} object opener old new count d are =
    let here : ℕ = count + 0 in
    let same : here ≡ count = omega arith in
    ap (λ (k : ℕ). get_or new k d) (sym same) ∙ sym (get_or-drop count new 0 d) ∙ ap (λ (rows : List (Vec (Holder C) Global)). get_or rows 0 d) are.rest ∙ get_or-drop count old 0 d ∙ ap (λ (k : ℕ). get_or old k d) same

pub row_alike : {C : Type 0} (object : Object) (opener : Seat) (old new : List (Vec (Holder C) Global)) (count : ℕ) (d : Vec (Holder C) Global) → ArePut object opener old new count → count < length old → get_or new count d ≡ get_or old count (get_or new count d)
row_alike {C} object opener old new count d are lt = row_left object opener old new count d are ∙ get_or_default old count d (get_or new count d) lt

pub row_has_room : {C : Type 0} (object : Object) (opener : Seat) (old new : List (Vec (Holder C) Global)) (count : ℕ) (d : Vec (Holder C) Global) → ArePut object opener old new count → count < length old → HaveRoom old → length (get_or new count d).items < vec_capacity (get_or new count d)
row_has_room {C} object opener old new count d are lt room = subst (λ (row : Vec (Holder C) Global). length row.items < vec_capacity row) (sym (row_left object opener old new count d are)) (room count d lt)

-- a holder more is put last
parted_last : (cap : ℕ) (opener new part : Numbers) (others : List Numbers) → Keeps cap (opener ∷ []) (new ∷ part ∷ []) → IsObject cap (opener ∷ others) → IsObject cap (new ∷ (others ++ part ∷ []))
parted_last cap opener new part others keeps is =
    (law_any_holder_first cap (new ∷ part ∷ others) (new ∷ (others ++ part ∷ [])) (IsPermutation-cons new (part ∷ others) (others ++ part ∷ []) (IsPermutation-sym (others ++ part ∷ []) (part ∷ others) (IsPermutation-to_front others part))) (keeps others is)).0

parted_together : (object : Object) (opener new part : Seat) (seats : List Seat) → AreTogether object (opener ∷ seats) → Keeps object.cap (opener.numbers ∷ []) (new.numbers ∷ part.numbers ∷ []) → new.object ≡ opener.object → part.object ≡ opener.object → AreTogether object (new ∷ (seats ++ part ∷ []))
parted_together object opener new part seats held keeps first second =
    let IsOf : Seat → Type 0 = λ seat. seat.object ≡ object in
    let mine = All-head IsOf opener seats held.of in
    record {
      of = All-cons IsOf new (seats ++ part ∷ []) (first ∙ mine) (All-push IsOf seats part (All-tail IsOf opener seats held.of) (second ∙ mine));
      whole = subst (λ (others : List Numbers). IsObject object.cap (new.numbers ∷ others)) (sym (map_push (λ (seat : Seat). seat.numbers) seats part))
          (parted_last object.cap opener.numbers new.numbers part.numbers (map (λ (seat : Seat). seat.numbers) seats) keeps held.whole);
    }

pub one_put : {C : Type 0} (object : Object) (opener opened : Seat) (old new : List (Vec (Holder C) Global)) (count : ℕ) (row pushed : Vec (Holder C) Global) (part : Holder C) → ArePut object opener old new count → count < length old → row ≡ get_or old count row → row ≡ get_or new count row
    → pushed.items ≡ row.items ++ part ∷ [] → vec_capacity pushed ≡ vec_capacity row → Has controller_table kept_by_editor 64 (holder_seat part)
    → Keeps object.cap (opener.numbers ∷ []) (opened.numbers ∷ (holder_seat part).numbers ∷ []) → opened.object ≡ opener.object → (holder_seat part).object ≡ opener.object → ArePut object opened old (set new count pushed) (count + 1)
one_put {C} object opener opened old new count row pushed part are lt is there items capacity has keeps first second =
    let within : count < length new = omega (arith, lt, are.size) in
    let seat = holder_seat part in
    let before = map row_seats (take count old) in
    let seats_is : row_seats pushed ≡ row_seats row ++ seat ∷ [] = ap (λ (holders : List (Holder C)). map holder_seat holders) items ∙ map_push (λ (holder : Holder C). holder_seat holder) row.items part in
    let long : length are.seats ≡ length before = omega (arith, are.each, length-map (take count old) (λ (row : Vec (Holder C) Global). row_seats row), length-take-le count old (omega (arith, lt))) in
    record {
      seats = are.seats ++ seat ∷ [];
      each = length_push are.seats seat ∙ ap (λ (n : ℕ). n + 1) are.each;
      size = length-set new count pushed ∙ are.size;
      front = ap (λ (rows : List (Vec (Holder C) Global)). map row_seats rows) (take_more_set new count pushed within)
          ∙ map_push (λ (row : Vec (Holder C) Global). row_seats row) (take count new) pushed
          ∙ ap (λ (rows : List (List Seat)). rows ++ row_seats pushed ∷ []) are.front
          ∙ ap (λ (seats : List Seat). pushed_rows are.seats before ++ seats ∷ []) seats_is
          ∙ sym (pushed_more are.seats seat before (row_seats row) long)
          ∙ ap (λ (r : Vec (Holder C) Global). pushed_rows (are.seats ++ seat ∷ []) (before ++ row_seats r ∷ [])) is
          ∙ ap (λ (rows : List (List Seat)). pushed_rows (are.seats ++ seat ∷ []) rows) (sym (map_push (λ (row : Vec (Holder C) Global). row_seats row) (take count old) (get_or old count row)))
          ∙ ap (λ (rows : List (Vec (Holder C) Global)). pushed_rows (are.seats ++ seat ∷ []) (map row_seats rows)) (sym (take_more old count row lt));
      rest = drop-set-lt (count + 1) new count pushed (omega arith)
          ∙ sym (drop-drop 1 count new) ∙ ap (λ (rows : List (Vec (Holder C) Global)). drop 1 rows) are.rest ∙ drop-drop 1 count old;
      capacities = map-set (λ (r : Vec (Holder C) Global). vec_capacity r) new count pushed
          ∙ ap (λ (n : ℕ). set (map vec_capacity new) count n) (capacity ∙ ap (λ (r : Vec (Holder C) Global). vec_capacity r) there ∙ sym (get_or-map (λ (r : Vec (Holder C) Global). vec_capacity r) new count row 0 within))
          ∙ set-get_or (map vec_capacity new) count 0
          ∙ are.capacities;
      has = All-push (Has controller_table kept_by_editor 64) are.seats seat are.has has;
      held = parted_together object opener opened seat are.seats are.held keeps first second;
    }

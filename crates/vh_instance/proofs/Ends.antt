-- The last objects of a band, and their holders, are taken.
use Rattle.std.proofs.Common.{◌≡◌, ℕ, ◌+◌, ◌-◌, ◌<◌, ◌≤◌, List, [], ◌∷◌, ◌++◌, length, take, drop, map, get_or, set, Vec, refl, sym, ap, subst, ◌∙◌, arith}
use Rattle.std.specs.Prelude.{All}
use Rattle.std.specs.declared.alloc.Global.{Global}
use Rattle.std.proofs.lemmas.List.{get_or_push, get_or-drop, length-map, map_push, take_more, take_more_set, take_at, drop_more, drop-set-lt, drop-drop, length-set, get_or-map, get_or_default, length_push}
use Rattle.std.proofs.lemmas.List.Elements.{All-head, All-tail, All-cons}
use Rattle.std.proofs.Math.ListN.{get_or-append}
use Rattle.vh_component.specs.declared.states.Processing.{Processing}
use Rattle.vh_component.specs.States.{of_processing}
use Rattle.vh_counted.specs.declared.object.Object.{Object}
use Rattle.vh_counted.specs.declared.object.Counted.{Counted}
use Rattle.vh_counted.specs.declared.object.Holder.{Holder}
use Rattle.vh_counted.specs.declared.object.Opened.{Opened}
use Rattle.vh_counted.specs.Held.{object_of, value_of_opened}
use Rattle.vh_counted.specs.Objects.{AreSome, Keeps}
use Rattle.vh_instance.specs.Seats.{Seat, no_seat, opener_seat, processor_seat, holder_seat, row_seats, holders_at, last_holders, without_last, AreTogether, AreHeld}
use Rattle.vh_instance.specs.Band.{of_processors, objects_of}
use Rattle.vh_plugin.specs.Counts.{raised_by}
use Rattle.vh_instance.specs.Raised.{raised_by_each}
use Rattle.vh_instance.proofs.Counting.{each_last}
use Rattle.vh_instance.proofs.Fronts.{fronts, held_fronts, held_last, held_openers, last_opener}

front_all : {A : Type 0} (P : A → Type 0) (xs : List A) (x : A) → All P (xs ++ x ∷ []) → All P xs
front_all P xs x all = λ k d lt. subst P (get_or-append xs (x ∷ []) d k lt) (all k d (omega (arith, lt, length_push xs x)))

last_all : {A : Type 0} (P : A → Type 0) (xs : List A) (x : A) → All P (xs ++ x ∷ []) → P x
last_all P xs x all = subst P (get_or_push xs x x (length xs) refl) (all (length xs) x (omega (arith, length_push xs x)))

-- what holds of each processor
module _ {P A : Type 0} (H : A → Type 0) (meant : P → A) (processors others : List (Processing P)) (processor : Processing P) (taken : processors ≡ others ++ processor ∷ []) (all : All H (of_processors meant processors)) where
  meant_push : All H (of_processors meant others ++ meant (value_of_opened (of_processing processor)) ∷ [])
  meant_push = subst (λ (xs : List A). All H xs) (ap (of_processors meant) taken ∙ map_push (λ (processor : Processing P). meant (value_of_opened (of_processing processor))) others processor) all

  pub front_meant : All H (of_processors meant others)
  front_meant = front_all H (of_processors meant others) (meant (value_of_opened (of_processing processor))) meant_push

  pub last_meant : H (meant (value_of_opened (of_processing processor)))
  last_meant = last_all H (of_processors meant others) (meant (value_of_opened (of_processing processor))) meant_push

-- as many rows of holders as objects
openers_size : (objects : List Object) (openers : List Seat) (rows : List (List Seat)) → AreHeld objects (openers ∷ rows) → length openers ≡ length objects
openers_size objects openers rows held = All-head (λ (row : List Seat). length row ≡ length objects) openers rows held.long

pub processors_size : {P : Type 0} (components : List (Counted P)) (processors : List (Processing P)) → AreHeld (objects_of components) (map processor_seat processors ∷ []) → length processors ≡ length components
processors_size {P} components processors held =
    sym (length-map processors (λ (processor : Processing P). processor_seat processor)) ∙ openers_size (objects_of components) (map processor_seat processors) [] held ∙ length-map components (λ (component : Counted P). object_of component)

-- the last component and its processor
module _ {P : Type 0} (components rest : List (Counted P)) (component : Counted P) (processors others : List (Processing P)) (processor : Processing P) (first : components ≡ rest ++ component ∷ []) (second : processors ≡ others ++ processor ∷ []) (held : AreHeld (objects_of components) (map processor_seat processors ∷ [])) where
  components_push : AreHeld (objects_of rest ++ object_of component ∷ []) ((map processor_seat others ++ processor_seat processor ∷ []) ∷ [])
  components_push =
      subst (λ (row : List Seat). AreHeld (objects_of rest ++ object_of component ∷ []) (row ∷ [])) (ap (λ (xs : List (Processing P)). map processor_seat xs) second ∙ map_push (λ (processor : Processing P). processor_seat processor) others processor)
      (subst (λ (objects : List Object). AreHeld objects (map processor_seat processors ∷ [])) (ap (λ (xs : List (Counted P)). objects_of xs) first ∙ map_push (λ (component : Counted P). object_of component) rest component) held)

  pub last_component : AreTogether (object_of component) (processor_seat processor ∷ [])
  last_component = last_opener (objects_of rest) (object_of component) (map processor_seat others) (processor_seat processor) components_push

  pub front_components : AreHeld (objects_of rest) (map processor_seat others ∷ [])
  front_components = held_openers (objects_of rest) (object_of component) (map processor_seat others) (processor_seat processor) components_push

-- rows that are one longer than this
fronts_are : (n : ℕ) (rows : List (List Seat)) → All (λ row. length row ≡ n + 1) rows → fronts n rows ≡ without_last rows
fronts_are n [] long = refl
fronts_are n (row ∷ rows) long =
    let size = All-head (λ (row : List Seat). length row ≡ n + 1) row rows long in
    let last : n ≡ length row - 1 = omega (arith, size) in
    ap (λ (m : ℕ). take m row ∷ fronts n rows) last ∙ ap (λ (others : List (List Seat)). take (length row - 1) row ∷ others) (fronts_are n rows (All-tail (λ (row : List Seat). length row ≡ n + 1) row rows long))

lasts_are : (n : ℕ) (rows : List (List Seat)) → All (λ row. length row ≡ n + 1) rows → holders_at rows n ≡ last_holders rows
lasts_are n [] long = refl
lasts_are n (row ∷ rows) long =
    let size = All-head (λ (row : List Seat). length row ≡ n + 1) row rows long in
    let last : n ≡ length row - 1 = omega (arith, size) in
    ap (λ (m : ℕ). get_or row m no_seat ∷ holders_at rows n) last ∙ ap (λ (others : List Seat). get_or row (length row - 1) no_seat ∷ others) (lasts_are n rows (All-tail (λ (row : List Seat). length row ≡ n + 1) row rows long))

-- the last controller, its opener and the last of each row
module _ {C : Type 0} (controllers rest : List (Counted C)) (controller : Counted C) (edits others : List (Opened C)) (edit : Opened C) (rows : List (List Seat)) (first : controllers ≡ rest ++ controller ∷ []) (second : edits ≡ others ++ edit ∷ []) (held : AreHeld (objects_of controllers) (map opener_seat edits ∷ rows)) where
  controllers_push : AreHeld (objects_of rest ++ object_of controller ∷ []) ((map opener_seat others ++ opener_seat edit ∷ []) ∷ rows)
  controllers_push =
      subst (λ (row : List Seat). AreHeld (objects_of rest ++ object_of controller ∷ []) (row ∷ rows)) (ap (λ (xs : List (Opened C)). map opener_seat xs) second ∙ map_push (λ (edit : Opened C). opener_seat edit) others edit)
      (subst (λ (objects : List Object). AreHeld objects (map opener_seat edits ∷ rows)) (ap (λ (xs : List (Counted C)). objects_of xs) first ∙ map_push (λ (controller : Counted C). object_of controller) rest controller) held)

  all_long : All (λ row. length row ≡ length (objects_of rest) + 1) ((map opener_seat others ++ opener_seat edit ∷ []) ∷ rows)
  all_long = subst (λ (n : ℕ). All (λ (row : List Seat). length row ≡ n) ((map opener_seat others ++ opener_seat edit ∷ []) ∷ rows)) (length_push (objects_of rest) (object_of controller)) controllers_push.long

  rows_long : All (λ row. length row ≡ length (objects_of rest) + 1) rows
  rows_long = All-tail (λ (row : List Seat). length row ≡ length (objects_of rest) + 1) (map opener_seat others ++ opener_seat edit ∷ []) rows all_long

  edits_long : length (map opener_seat others) ≡ length (objects_of rest)
  edits_long =
      let size = All-head (λ (row : List Seat). length row ≡ length (objects_of rest) + 1) (map opener_seat others ++ opener_seat edit ∷ []) rows all_long in
      omega (arith, size, length_push (map opener_seat others) (opener_seat edit))

  pub rows_some : All (λ row. 1 ≤ length row) rows
  rows_some = λ k d lt. omega (arith, rows_long k d lt)

  pub last_controller : AreTogether (object_of controller) (opener_seat edit ∷ last_holders rows)
  last_controller =
      subst (λ (seats : List Seat). AreTogether (object_of controller) (opener_seat edit ∷ seats)) (lasts_are (length (objects_of rest)) rows rows_long)
      (subst (λ (seat : Seat). AreTogether (object_of controller) (seat ∷ holders_at rows (length (objects_of rest)))) (get_or_push (map opener_seat others) (opener_seat edit) no_seat (length (objects_of rest)) edits_long)
      (held_last (objects_of rest) (object_of controller) ((map opener_seat others ++ opener_seat edit ∷ []) ∷ rows) controllers_push))

  pub front_controllers : AreHeld (objects_of rest) (map opener_seat others ∷ without_last rows)
  front_controllers =
      subst (λ (fronts_of : List (List Seat)). AreHeld (objects_of rest) (map opener_seat others ∷ fronts_of)) (fronts_are (length (objects_of rest)) rows rows_long)
      (subst (λ (row : List Seat). AreHeld (objects_of rest) (row ∷ fronts (length (objects_of rest)) rows)) (take_at (map opener_seat others) (opener_seat edit ∷ []) (length (objects_of rest)) edits_long)
      (held_fronts (objects_of rest) (object_of controller) ((map opener_seat others ++ opener_seat edit ∷ []) ∷ rows) controllers_push))

pub edits_size : {C : Type 0} (controllers : List (Counted C)) (edits : List (Opened C)) (rows : List (List Seat)) → AreHeld (objects_of controllers) (map opener_seat edits ∷ rows) → length edits ≡ length controllers
edits_size {C} controllers edits rows held =
    sym (length-map edits (λ (edit : Opened C). opener_seat edit)) ∙ openers_size (objects_of controllers) (map opener_seat edits) rows held ∙ length-map controllers (λ (controller : Counted C). object_of controller)

seats_at : {C : Type 0} (rows : List (Vec (Holder C) Global)) (k : ℕ) (d : Vec (Holder C) Global) → k < length rows → get_or (map row_seats rows) k (row_seats d) ≡ row_seats (get_or rows k d)
seats_at {C} rows k d lt = get_or-map (λ (row : Vec (Holder C) Global). row_seats row) rows k d (row_seats d) lt

-- without objects the rows are empty
pub rows_empty : {C : Type 0} (controllers : List (Counted C)) (openers : List Seat) (rows : List (Vec (Holder C) Global)) → AreHeld (objects_of controllers) (openers ∷ map row_seats rows) → length controllers ≡ 0 → All (λ row. length row.items ≡ 0) rows
rows_empty {C} controllers openers rows held none = λ k d lt.
    let long = All-tail (λ (row : List Seat). length row ≡ length (objects_of controllers)) openers (map row_seats rows) held.long in
    let within : k < length (map row_seats rows) = omega (arith, lt, length-map rows (λ (row : Vec (Holder C) Global). row_seats row)) in
    let size : length (row_seats (get_or rows k d)) ≡ length (objects_of controllers) = subst (λ (row : List Seat). length row ≡ length (objects_of controllers)) (seats_at rows k d lt) (long k (row_seats d) within) in
    omega (arith, none, size, length-map controllers (λ (controller : Counted C). object_of controller), length-map (get_or rows k d).items (λ (holder : Holder C). holder_seat holder))

-- the rows of which the last was taken, and those of which it wasn't yet
pub record AreTaken {C : Type 0} (old new : List (Vec (Holder C) Global)) (count : ℕ) : Type 0 where
  pub size : length new ≡ length old
  pub front : map row_seats (take count new) ≡ without_last (map row_seats (take count old))
  pub rest : drop count new ≡ drop count old

-- a row of which nothing was taken yet
row_there : {C : Type 0} (old new : List (Vec (Holder C) Global)) (count : ℕ) (d : Vec (Holder C) Global) → AreTaken old new count → count < length old → get_or new count d ≡ get_or old count d
row_there {C} old new count d are lt =
    let here : ℕ = count + 0 in
    let same : here ≡ count = omega arith in
    ap (λ (k : ℕ). get_or new k d) (sym same) ∙ sym (get_or-drop count new 0 d) ∙ ap (λ (rows : List (Vec (Holder C) Global)). get_or rows 0 d) are.rest ∙ get_or-drop count old 0 d ∙ ap (λ (k : ℕ). get_or old k d) same

pub row_same : {C : Type 0} (old new : List (Vec (Holder C) Global)) (count : ℕ) (d : Vec (Holder C) Global) → AreTaken old new count → count < length old → get_or new count d ≡ get_or old count (get_or new count d)
row_same {C} old new count d are lt = row_there old new count d are lt ∙ get_or_default old count d (get_or new count d) lt

pub row_some : {C : Type 0} (old new : List (Vec (Holder C) Global)) (count : ℕ) (d : Vec (Holder C) Global) → AreTaken old new count → count < length old → All (λ row. 1 ≤ length row) (map row_seats old) → 1 ≤ length (get_or new count d).items
row_some {C} old new count d are lt some =
    let within : count < length (map row_seats old) = omega (arith, lt, length-map old (λ (row : Vec (Holder C) Global). row_seats row)) in
    let here : 1 ≤ length (row_seats (get_or old count d)) = subst (λ (row : List Seat). 1 ≤ length row) (seats_at old count d lt) (some count (row_seats d) within) in
    subst (λ (row : Vec (Holder C) Global). 1 ≤ length row.items) (sym (row_there old new count d are lt)) (omega (arith, here, length-map (get_or old count d).items (λ (holder : Holder C). holder_seat holder)))

-- of a row the last was taken
taken_row : {C : Type 0} (row taken : Vec (Holder C) Global) (last : Holder C) → row.items ≡ taken.items ++ last ∷ [] → row_seats row ≡ row_seats taken ++ holder_seat last ∷ []
taken_row {C} row taken last is = ap (λ (holders : List (Holder C)). map holder_seat holders) is ∙ map_push (λ (holder : Holder C). holder_seat holder) taken.items last

take_front : (row front : List Seat) (last : Seat) → row ≡ front ++ last ∷ [] → take (length row - 1) row ≡ front
take_front row front last is =
    let size : length front ≡ length row - 1 = omega (arith, ap (λ (xs : List Seat). length xs) is, length_push front last) in
    ap (λ (xs : List Seat). take (length row - 1) xs) is ∙ take_at front (last ∷ []) (length row - 1) size

last_of : (row front : List Seat) (last : Seat) → row ≡ front ++ last ∷ [] → get_or row (length row - 1) no_seat ≡ last
last_of row front last is =
    let size : length front ≡ length row - 1 = omega (arith, ap (λ (xs : List Seat). length xs) is, length_push front last) in
    ap (λ (xs : List Seat). get_or xs (length row - 1) no_seat) is ∙ get_or_push front last no_seat (length row - 1) size

without_push : (rows : List (List Seat)) (row : List Seat) → without_last (rows ++ row ∷ []) ≡ without_last rows ++ take (length row - 1) row ∷ []
without_push rows row = map_push (λ (row : List Seat). take (length row - 1) row) rows row

pub one_taken : {C : Type 0} (old new : List (Vec (Holder C) Global)) (count : ℕ) (row taken : Vec (Holder C) Global) (last : Holder C) → AreTaken old new count → count < length old → row ≡ get_or old count row → row.items ≡ taken.items ++ last ∷ []
    → AreTaken old (set new count taken) (count + 1)
one_taken {C} old new count row taken last are lt is items =
    let within : count < length new = omega (arith, lt, are.size) in
    let before = map row_seats (take count old) in
    record {
      size = length-set new count taken ∙ are.size;
      front = ap (λ (rows : List (Vec (Holder C) Global)). map row_seats rows) (take_more_set new count taken within)
          ∙ map_push (λ (row : Vec (Holder C) Global). row_seats row) (take count new) taken
          ∙ ap (λ (rows : List (List Seat)). rows ++ row_seats taken ∷ []) are.front
          ∙ ap (λ (seats : List Seat). without_last before ++ seats ∷ []) (sym (take_front (row_seats row) (row_seats taken) (holder_seat last) (taken_row row taken last items)))
          ∙ sym (without_push before (row_seats row))
          ∙ ap (λ (r : Vec (Holder C) Global). without_last (before ++ row_seats r ∷ [])) is
          ∙ ap (λ (rows : List (List Seat)). without_last rows) (sym (map_push (λ (row : Vec (Holder C) Global). row_seats row) (take count old) (get_or old count row)))
          ∙ ap (λ (rows : List (Vec (Holder C) Global)). without_last (map row_seats rows)) (sym (take_more old count row lt));
      rest = drop-set-lt (count + 1) new count taken (omega arith)
          ∙ sym (drop-drop 1 count new) ∙ ap (λ (rows : List (Vec (Holder C) Global)). drop 1 rows) are.rest ∙ drop-drop 1 count old;
    }

-- the last holders of the rows from here on
lasts_from : {C : Type 0} (old : List (Vec (Holder C) Global)) (count : ℕ) (row taken : Vec (Holder C) Global) (last : Holder C) → count < length old → row ≡ get_or old count row → row.items ≡ taken.items ++ last ∷ []
    → last_holders (map row_seats (drop count old)) ≡ holder_seat last ∷ last_holders (map row_seats (drop (count + 1) old))
lasts_from {C} old count row taken last lt is items =
    ap (λ (rows : List (Vec (Holder C) Global)). last_holders (map row_seats rows)) (drop_more old count row lt)
    ∙ ap (λ (r : Vec (Holder C) Global). last_holders (row_seats r ∷ map row_seats (drop (count + 1) old))) (sym is)
    ∙ ap (λ (seat : Seat). seat ∷ last_holders (map row_seats (drop (count + 1) old))) (last_of (row_seats row) (row_seats taken) (holder_seat last) (taken_row row taken last items))

-- two holders are joined
pub some_of : (object : Object) (opener other : Seat) (others : List Seat) → AreTogether object (opener ∷ other ∷ others) → AreSome object.cap (opener.numbers ∷ other.numbers ∷ [])
some_of object opener other others together = (map (λ (seat : Seat). seat.numbers) others, together.whole)

pub joined_together : (object : Object) (opener new other : Seat) (others : List Seat) → AreTogether object (opener ∷ other ∷ others) → new.object ≡ opener.object → Keeps object.cap (opener.numbers ∷ other.numbers ∷ []) (new.numbers ∷ []) → AreTogether object (new ∷ others)
joined_together object opener new other others together same keeps =
    let behind = All-tail (λ (seat : Seat). seat.object ≡ object) opener (other ∷ others) together.of in
    record {
      of = All-cons (λ (seat : Seat). seat.object ≡ object) new others (same ∙ All-head (λ (seat : Seat). seat.object ≡ object) opener (other ∷ others) together.of) (All-tail (λ (seat : Seat). seat.object ≡ object) other others behind);
      whole = keeps (map (λ (seat : Seat). seat.numbers) others) together.whole;
    }

pub first_of : (object : Object) (opener : Seat) (others : List Seat) → AreTogether object (opener ∷ others) → opener.object ≡ object
first_of object opener others together = All-head (λ (seat : Seat). seat.object ≡ object) opener others together.of

pub second_of : (object : Object) (opener other : Seat) (others : List Seat) → AreTogether object (opener ∷ other ∷ others) → other.object ≡ object
second_of object opener other others together = All-head (λ (seat : Seat). seat.object ≡ object) other others (All-tail (λ (seat : Seat). seat.object ≡ object) opener (other ∷ others) together.of)

-- an object's holders, the next of whom was taken from its row
module _ {C : Type 0} (object : Object) (opener : Seat) (old new : List (Vec (Holder C) Global)) (count : ℕ) (d taken : Vec (Holder C) Global) (last : Holder C) (are : AreTaken old new count) (lt : count < length old) (items : (get_or new count d).items ≡ taken.items ++ last ∷ []) (held : AreTogether object (opener ∷ last_holders (map row_seats (drop count old)))) where
  pub with_last : AreTogether object (opener ∷ holder_seat last ∷ last_holders (map row_seats (drop (count + 1) old)))
  with_last = subst (λ (seats : List Seat). AreTogether object (opener ∷ seats)) (lasts_from old count (get_or new count d) taken last lt (row_same old new count d are lt) items) held

-- the calls of the last processor are added
pub each_less : {P : Type 0} (calls : P → ℕ) (processors others : List (Processing P)) (processor : Processing P) (work : ℕ) → processors ≡ others ++ processor ∷ [] → raised_by_each (of_processors calls others) (raised_by (calls (value_of_opened (of_processing processor))) work) ≡ raised_by_each (of_processors calls processors) work
each_less {P} calls processors others processor work taken =
    sym (each_last (of_processors calls others) (calls (value_of_opened (of_processing processor))) work)
    ∙ ap (λ (ns : List ℕ). raised_by_each ns work) (sym (ap (λ (xs : List (Processing P)). of_processors calls xs) taken ∙ map_push (λ (processor : Processing P). calls (value_of_opened (of_processing processor))) others processor))

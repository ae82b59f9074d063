-- The rows of nodes.
use Rattle.std.proofs.Common.{◌≡◌, ◌≢◌, ◌∙◌, inl, inr, ℕ, ◌<◌, ◌≤◌, List, [], length, get_or, set, refl, sym, ap, subst, ℤ, Vec, arith}
use Rattle.std.specs.declared.alloc.Global.{Global}
use Rattle.std.specs.Vec.{with_items}
use Rattle.std.proofs.lemmas.List.{get_or-map, length-map, length-take-le, length-set, map-set, get_or-set_same, get_or-set_other, with_items_is}
use Rattle.std.proofs.lemmas.Bool.{cases_eq}
use Rattle.vh_session.specs.declared.wire.End.{End}
use Rattle.vh_session.specs.declared.wire.End.TheVariants.{In, Out, Node as AtNode}
use Rattle.vh_engine.specs.Buses.{rows_of, row_at, IsSource, samples_of, HaveRoom}

-- what a vector holds whose elements were lent and written
pub written : {A : Type 0} (v : Vec A Global) (old new : List A) → old ≡ v.items → length new ≡ length old → (with_items v new).items ≡ new
written {A} v old new was long = with_items_is v new (long ∙ ap (λ (l : List A). length l) was ∙ sym v.ok.0)

-- is as much as it held
pub written_room : {A : Type 0} (v : Vec A Global) (old new : List A) (size : ℕ) → old ≡ v.items → length new ≡ length old → size ≤ length v.items → size ≤ length (with_items v new).items
written_room {A} v old new size was long room =
    let same : length new ≡ length v.items = long ∙ ap (λ (l : List A). length l) was in
    subst (λ (l : List A). size ≤ length l) (sym (written v old new was long)) (omega (arith, same, room))

-- a node's row is what its vector holds
pub row_here : (rows : List (Vec ℤ Global)) (node : ℕ) (d : Vec ℤ Global) → node < length rows → row_at (rows_of rows) node ≡ (get_or rows node d).items
row_here rows node d within = get_or-map (λ (row : Vec ℤ Global). row.items) rows node d [] within

-- and has the room that each has
pub row_room : (rows : List (Vec ℤ Global)) (node size : ℕ) (row : Vec ℤ Global) → HaveRoom size (rows_of rows) → node < length rows → row ≡ get_or rows node row → size ≤ length row.items
row_room rows node size row room within is =
    let same : row_at (rows_of rows) node ≡ row.items = row_here rows node row within ∙ ap (λ (r : Vec ℤ Global). r.items) (sym is) in
    let long = length-map rows (λ (r : Vec ℤ Global). r.items) in
    subst (λ (xs : List ℤ). size ≤ length xs) same (room node (omega (arith, within, long)))

-- what an end brings is as long as what comes in
pub source_long : (ins : List ℤ) (rows : List (Vec ℤ Global)) (end : End) → IsSource (length rows) end → HaveRoom (length ins) (rows_of rows) → length (samples_of ins (rows_of rows) (length ins) end) ≡ length ins
source_long ins rows In is room = refl
source_long ins rows Out is room = absurd is
source_long ins rows (AtNode node) is room = length-take-le (length ins) (row_at (rows_of rows) node) (room node (omega (arith, is, length-map rows (λ (r : Vec ℤ Global). r.items))))

-- a row that is put in its place
pub row_set_same : (rows : List (Vec ℤ Global)) (node : ℕ) (row : Vec ℤ Global) → node < length rows → row_at (rows_of (set rows node row)) node ≡ row.items
row_set_same rows node row within =
    row_here (set rows node row) node row (omega (arith, length-set rows node row, within)) ∙ ap (λ (r : Vec ℤ Global). r.items) (get_or-set_same rows node row row within)

pub row_set_other : (rows : List (Vec ℤ Global)) (node other : ℕ) (row : Vec ℤ Global) → other ≢ node → row_at (rows_of (set rows node row)) other ≡ row_at (rows_of rows) other
row_set_other rows node other row apart =
    ap (λ (l : List (List ℤ)). get_or l other []) (map-set (λ (r : Vec ℤ Global). r.items) rows node row) ∙ get_or-set_other (rows_of rows) node other row.items [] apart

-- has the room that it has
pub room_set : (rows : List (Vec ℤ Global)) (node size : ℕ) (row : Vec ℤ Global) → node < length rows → HaveRoom size (rows_of rows) → size ≤ length row.items → HaveRoom size (rows_of (set rows node row))
room_set rows node size row within room long other lt = elim (cases_eq other node) [
  | inl same ↦ subst (λ (m : ℕ). size ≤ length (row_at (rows_of (set rows node row)) m)) (sym same) (subst (λ (xs : List ℤ). size ≤ length xs) (sym (row_set_same rows node row within)) long)
  | inr apart ↦
      let among : other < length (rows_of rows) = omega (arith, lt, length-map (set rows node row) (λ (r : Vec ℤ Global). r.items), length-map rows (λ (r : Vec ℤ Global). r.items), length-set rows node row) in
      subst (λ (xs : List ℤ). size ≤ length xs) (sym (row_set_other rows node other row apart)) (room other among)
]

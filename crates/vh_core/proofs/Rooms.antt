-- Rows of a room, of which one is written.
use Rattle.std.proofs.Common.{◌≡◌, ◌≢◌, ◌∙◌, ℕ, ◌<◌, List, [], length, map, get_or, set, ℤ, Vec, true, false, ◌==◌, refl, sym, ap, arith}
use Rattle.std.specs.declared.alloc.Global.{Global}
use Rattle.std.specs.Vec.{with_item}
use Rattle.std.proofs.lemmas.Bool.{eqb-true, eq-eqb, true≢false}
use Rattle.std.proofs.lemmas.List.{map-set, length-map, length-set, get_or-map, get_or-set_same, get_or-set_other}
use Rattle.vh_params.specs.Nodes.{node_at}
use Rattle.vh_session.specs.Content.{Content}
use Rattle.vh_core.specs.declared.stage.Room.{Room}
use Rattle.vh_core.specs.Stage.{IsRoom}

abbrev items_of : {A : Type 0} → Vec A Global → List A
items_of row = row.items

abbrev pub row_in : {A : Type 0} → List (Vec A Global) → ℕ → List A
row_in rows node = get_or (map (λ row. row.items) rows) node []

-- the row that was written, and another
pub row_at : {A : Type 0} (rows : List (Vec A Global)) (node : ℕ) (row : Vec A Global) → node < length rows → row_in (set rows node row) node ≡ row.items
row_at rows node row there =
    let long = length-map rows items_of in
    ap (λ l. get_or l node []) (map-set items_of rows node row) ∙ get_or-set_same (map items_of rows) node row.items [] (omega (arith, there, long))

pub row_other : {A : Type 0} (rows : List (Vec A Global)) (node other : ℕ) (row : Vec A Global) → other ≢ node → row_in (set rows node row) other ≡ row_in rows other
row_other rows node other row apart = ap (λ l. get_or l other []) (map-set items_of rows node row) ∙ get_or-set_other (map items_of rows) node other row.items [] apart

pub row_is : {A : Type 0} (rows : List (Vec A Global)) (node : ℕ) (d : Vec A Global) → node < length rows → (get_or rows node d).items ≡ row_in rows node
row_is rows node d there = sym (get_or-map items_of rows node d [] there)

-- what holds of each row's length holds where one was written with it
pub rows_long : {A : Type 0} (rows : List (Vec A Global)) (node : ℕ) (row : Vec A Global) (count : ℕ) (long : ℕ → ℕ) → node < length rows → length row.items ≡ long node
    → ((k : ℕ) → k < count → length (row_in rows k) ≡ long k) → (k : ℕ) → k < count → length (row_in (set rows node row) k) ≡ long k
rows_long rows node row count long there is each k lt = elim (k == node) as (λ t. (k == node) ≡ t → length (row_in (set rows node row) k) ≡ long k) [
  | true ↦ λ same.
      let at : k ≡ node = eqb-true k node same in
      ap (λ n. length (row_in (set rows node row) n)) at ∙ ap length (row_at rows node row there) ∙ is ∙ ap long (sym at)
  | false ↦ λ other. ap length (row_other rows node k row (λ same. true≢false (sym (eq-eqb k node same) ∙ other))) ∙ each k lt
] refl

-- a room with the values of a node
pub room_with_values : (session : Content) (room : Room) (node : ℕ) (row : Vec ℕ Global) → IsRoom session room → node < length session.nodes → length row.items ≡ length (node_at session.nodes node).params
    → IsRoom session (record { frames = room.frames; values = with_item room.values node row; main = room.main; aux = room.aux })
room_with_values session room node row is there long =
    let count = is.values in
    record {
      frames = is.frames;
      wide = is.wide;
      values = length-set room.values.items node row ∙ is.values;
      each = rows_long room.values.items node row (length session.nodes) (λ k. length (node_at session.nodes k).params) (omega (arith, there, count)) long is.each;
      main = is.main;
      aux = is.aux;
    }

-- and with its frame, where what reaches its buses was mixed
pub room_with_frame : (session : Content) (room : Room) (node : ℕ) (row : Vec ℤ Global) (main aux : Vec ℤ Global) → IsRoom session room → node < length session.nodes → length row.items ≡ session.channels
    → length main.items ≡ session.channels → length aux.items ≡ session.channels
    → IsRoom session (record { frames = with_item room.frames node row; values = room.values; main = main; aux = aux })
room_with_frame session room node row main aux is there long wide narrow =
    let count = is.frames in
    record {
      frames = length-set room.frames.items node row ∙ is.frames;
      wide = rows_long room.frames.items node row (length session.nodes) (λ k. session.channels) (omega (arith, there, count)) long is.wide;
      values = is.values;
      each = is.each;
      main = wide;
      aux = narrow;
    }

-- and with what reaches its main bus
pub room_with_main : (session : Content) (room : Room) (main : Vec ℤ Global) → IsRoom session room → length main.items ≡ session.channels
    → IsRoom session (record { frames = room.frames; values = room.values; main = main; aux = room.aux })
room_with_main session room main is long = record {
  frames = is.frames;
  wide = is.wide;
  values = is.values;
  each = is.each;
  main = long;
  aux = is.aux;
}

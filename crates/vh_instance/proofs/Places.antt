-- References at the interfaces of components and controllers.
use Rattle.std.proofs.Common.{◌≡◌, ◌≢◌, ℕ, zero, suc, ◌+◌, ◌-◌, ◌<◌, ◌≤◌, List, [], ◌∷◌, length, get_or, set, Some, None, Ok, Err, Result, refl, sym, ap, subst, ◌∙◌, arith, get_or-set_other, get_or-set_same}
use Rattle.std.proofs.lemmas.List.Elements.{All-head}
use Rattle.std.proofs.lemmas.List.Sums.{get_or-le-sum_by}
use Rattle.vh_ids.specs.declared.interface.Interface.{Interface}
use Rattle.vh_ids.specs.declared.interface.Interface.TheVariants.{Unknown}
use Rattle.vh_ids.specs.Interfaces.{iid_of}
use Rattle.vh_counted.specs.declared.numbers.Numbers.{Numbers}
use Rattle.vh_counted.specs.Steps.{total, at_interface, added, split_off, split_part}
use Rattle.vh_counted.specs.declared.object.TooMany.{TooMany}
use Rattle.vh_counted.specs.Answers.{IsAdded}
use Rattle.vh_counted.specs.Objects.{IsObject}
use Rattle.vh_ids.specs.declared.tuid.Tuid.{Tuid}
use Rattle.vh_query.specs.declared.interfaces.QueryRefused.{QueryRefused}
use Rattle.vh_query.specs.declared.interfaces.QueryRefused.TheVariants.{NoInterface, TooMany as NoRoom}
use Rattle.vh_query.specs.Found.{found_from, IsQueried}
use Rattle.vh_instance.specs.Seats.{Seat, IsFound, Has}
use Rattle.vh_instance.specs.Band.{controller_table, kept_beside, kept_by_editor}

four_places : (P : ℕ → Type 0) → P 0 → P 1 → P 2 → P 3 → (k : ℕ) → k < 4 → P k
four_places P a b c e zero lt = a
four_places P a b c e (suc zero) lt = b
four_places P a b c e (suc (suc zero)) lt = c
four_places P a b c e (suc (suc (suc zero))) lt = e
four_places P a b c e (suc (suc (suc (suc k)))) lt = absurd (omega (arith, lt))

-- what a controller's opener has, place by place
controller_has : (given room : ℕ) (seat : Seat) → at_interface seat.numbers 0 ≡ 1 → at_interface seat.numbers 1 ≡ 0 → at_interface seat.numbers 2 ≡ 1 + given → at_interface seat.numbers 3 ≡ 1 → seat.numbers.room ≡ room → Has controller_table (kept_beside given) room seat
controller_has given room seat a b c e r = record {
  at = λ position d lt. four_places (λ k. at_interface seat.numbers k ≡ kept_beside given (get_or controller_table k d)) a b c e position lt;
  room = r;
}

module _ (given room : ℕ) (seat : Seat) (has : Has controller_table (kept_beside given) room seat) where
  base_has : at_interface seat.numbers 0 ≡ 1
  base_has = has.at 0 Unknown (omega arith)

  plugin_has : at_interface seat.numbers 1 ≡ 0
  plugin_has = has.at 1 Unknown (omega arith)

  edit_has : at_interface seat.numbers 2 ≡ 1 + given
  edit_has = has.at 2 Unknown (omega arith)

  point_has : at_interface seat.numbers 3 ≡ 1
  point_has = has.at 3 Unknown (omega arith)

  -- the references at IEditController are some of all
  pub edits_some : length seat.numbers.references ≡ 16 → 1 + given ≤ total seat.numbers
  edits_some size = let some = get_or-le-sum_by (λ (n : ℕ). n) seat.numbers.references 2 0 (omega (arith, size)) in omega (arith, some, edit_has)

  -- one more at IEditController
  edit_added : (seen : ℕ) (new : Seat) → length seat.numbers.references ≡ 16 → new.numbers ≡ added 2 seen seat.numbers → Has controller_table (kept_beside (given + 1)) (room - 1) new
  edit_added seen new size is =
      let old = seat.numbers.references in
      let one = at_interface seat.numbers 2 + 1 in
      let other = λ (k : ℕ) (apart : k ≢ 2). ap (λ (n : Numbers). at_interface n k) is ∙ get_or-set_other old 2 k one 0 apart in
      controller_has (given + 1) (room - 1) new (other 0 (omega arith) ∙ base_has) (other 1 (omega arith) ∙ plugin_has)
      (ap (λ (n : Numbers). at_interface n 2) is ∙ get_or-set_same old 2 one 0 (omega (arith, size)) ∙ omega (arith, edit_has))
      (other 3 (omega arith) ∙ point_has) (ap (λ (n : Numbers). n.room) is ∙ ap (λ (r : ℕ). r - 1) has.room)

  -- an editor's references are parted off
  pub edit_parted : (left rest : ℕ) (new : Seat) → length seat.numbers.references ≡ 16 → given ≡ left + 2 → room ≡ rest + 64 → new.numbers ≡ split_off 2 2 64 seat.numbers → Has controller_table (kept_beside left) rest new
  edit_parted left rest new size given_is room_is is =
      let old = seat.numbers.references in
      let less = at_interface seat.numbers 2 - 2 in
      let other = λ (k : ℕ) (apart : k ≢ 2). ap (λ (n : Numbers). at_interface n k) is ∙ get_or-set_other old 2 k less 0 apart in
      controller_has left rest new (other 0 (omega arith) ∙ base_has) (other 1 (omega arith) ∙ plugin_has)
      (ap (λ (n : Numbers). at_interface n 2) is ∙ get_or-set_same old 2 less 0 (omega (arith, size)) ∙ omega (arith, edit_has, given_is))
      (other 3 (omega arith) ∙ point_has) (ap (λ (n : Numbers). n.room) is ∙ ap (λ (r : ℕ). r - 64) has.room ∙ omega (arith, room_is))

-- an add at IEditController, for which there is room
pub edit_one : (cap given room : ℕ) (seat new : Seat) (result : Result ℕ TooMany) → Has controller_table (kept_beside given) room seat → 0 < room → length seat.numbers.references ≡ 16 → IsAdded cap 2 seat.numbers new.numbers result → Has controller_table (kept_beside (given + 1)) (room - 1) new
edit_one cap given room seat new (Ok seen) has some size step = edit_added given room seat has seen new size step.1.3
edit_one cap given room seat new (Err none) has some size step = absurd (omega (arith, has.room, some, step.0))

-- what an editor's holder has
pub editor_has : (seat : Seat) → seat.numbers ≡ split_part 2 2 64 → Has controller_table kept_by_editor 64 seat
editor_has seat is = record {
  at = λ position d lt. ap (λ (n : Numbers). at_interface n position) is ∙ four_places (λ k. at_interface (split_part 2 2 64) k ≡ kept_by_editor (get_or controller_table k d)) refl refl refl refl position lt;
  room = ap (λ (n : Numbers). n.room) is;
}

pub positions_of : (cap : ℕ) (n : Numbers) (others : List Numbers) → IsObject cap (n ∷ others) → length n.references ≡ 16
positions_of cap n others is = All-head (λ (n : Numbers). length n.references ≡ 16) n others is.positions

-- what a query for an interface of the table comes to, where an add is left
no_place : (p : ℕ) → None ≡ Some p → ⊥
no_place p e = cc

pub queried : (cap : ℕ) (table : List Interface) (interface : Interface) (id : Tuid) (old new : Numbers) (result : Result ℕ QueryRefused) → id.0 ≡ iid_of interface → (position : ℕ) × (found_from 0 table (iid_of interface) ≡ Some position) → 0 < old.room → IsQueried cap table id old new result → IsFound table interface old new
queried cap table interface id old new (Ok position) same listed room is = record { position = position; seen = is.2.0 + 1; found = ap (λ (bytes : List ℕ). found_from 0 table bytes) (sym same) ∙ is.0; added = is.2.2 }
queried cap table interface id old new (Err NoInterface) same listed room is = absurd (no_place listed.0 (sym is.0 ∙ ap (λ (bytes : List ℕ). found_from 0 table bytes) same ∙ listed.1))
queried cap table interface id old new (Err NoRoom) same listed room is = absurd (omega (arith, room, is.1))

first_kept : (xs : List ℕ) (p v : ℕ) → get_or xs p 0 ≤ v → 1 ≤ get_or xs 0 0 → 1 ≤ get_or (set xs p v) 0 0
first_kept [] p v more some = some
first_kept (x ∷ xs) zero v more some = omega (arith, more, some)
first_kept (x ∷ xs) (suc p) v more some = some

pub base_kept : (table : List Interface) (interface : Interface) (old new : Numbers) → IsFound table interface old new → 1 ≤ at_interface old 0 → 1 ≤ at_interface new 0
base_kept table interface old new found some =
    let kept = first_kept old.references found.position (at_interface old found.position + 1) (omega arith) some in
    subst (λ (n : Numbers). 1 ≤ at_interface n 0) (sym found.added) kept

pub room_less : (table : List Interface) (interface : Interface) (old new : Numbers) → IsFound table interface old new → 0 < old.room → new.room + 1 ≡ old.room
room_less table interface old new found some = let less = ap (λ (n : Numbers). n.room) found.added in omega (arith, less, some)

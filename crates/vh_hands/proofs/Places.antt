-- References of a controller's opener at IEditController.
use Rattle.std.proofs.Common.{◌≡◌, ◌≢◌, ℕ, zero, suc, ◌+◌, ◌-◌, ◌<◌, ◌≤◌, length, get_or, refl, sym, ap, subst, ◌∙◌, arith, get_or-set_other, get_or-set_same}
use Rattle.vh_ids.specs.declared.interface.Interface.TheVariants.{Unknown}
use Rattle.vh_counted.specs.declared.numbers.Numbers.{Numbers}
use Rattle.vh_counted.specs.Steps.{total, at_interface, released, split_off, joined}
use Rattle.vh_counted.proofs.References.{both_at, at_most_sum}
use Rattle.vh_instance.specs.Seats.{Seat, Has}
use Rattle.vh_instance.specs.Band.{controller_table, kept_beside, kept_by_editor}

four_places : (P : ℕ → Type 0) → P 0 → P 1 → P 2 → P 3 → (k : ℕ) → k < 4 → P k
four_places P a b c e zero lt = a
four_places P a b c e (suc zero) lt = b
four_places P a b c e (suc (suc zero)) lt = c
four_places P a b c e (suc (suc (suc zero))) lt = e
four_places P a b c e (suc (suc (suc (suc k)))) lt = absurd (omega (arith, lt))

pub edit_at : (given room : ℕ) (seat : Seat) → Has controller_table (kept_beside given) room seat → at_interface seat.numbers 2 ≡ 1 + given
edit_at given room seat has = has.at 2 Unknown (omega arith)

-- an opener whose references at IEditController changed, and whose room
edit_changed : (old given room rest : ℕ) (seat new : Seat) → Has controller_table (kept_beside old) room seat → at_interface new.numbers 2 ≡ 1 + given
    → ((k : ℕ) → k < 4 → k ≢ 2 → at_interface new.numbers k ≡ at_interface seat.numbers k) → new.numbers.room ≡ rest → Has controller_table (kept_beside given) rest new
edit_changed old given room rest seat new has here other left = record {
  at = λ position d lt.
      four_places (λ k. at_interface new.numbers k ≡ kept_beside given (get_or controller_table k d))
      (other 0 (omega arith) (omega arith) ∙ has.at 0 d (omega arith)) (other 1 (omega arith) (omega arith) ∙ has.at 1 d (omega arith)) here (other 3 (omega arith) (omega arith) ∙ has.at 3 d (omega arith)) position lt;
  room = left;
}

-- a reference there is given back
pub edit_released : (given room seen : ℕ) (seat new : Seat) → Has controller_table (kept_beside (given + 1)) room seat → length seat.numbers.references ≡ 16 → new.numbers ≡ released 2 seen seat.numbers → Has controller_table (kept_beside given) room new
edit_released given room seen seat new has size is =
    let old = seat.numbers.references in
    let less = at_interface seat.numbers 2 - 1 in
    edit_changed (given + 1) given room room seat new has
    (ap (λ (n : Numbers). at_interface n 2) is ∙ get_or-set_same old 2 less 0 (omega (arith, size)) ∙ omega (arith, edit_at (given + 1) room seat has))
    (λ k lt apart. ap (λ (n : Numbers). at_interface n k) is ∙ get_or-set_other old 2 k less 0 apart)
    (ap (λ (n : Numbers). n.room) is ∙ has.room)

-- so many are parted off, with room
pub edit_split : (given room count rest : ℕ) (seat new : Seat) → Has controller_table (kept_beside (given + count)) (room + rest) seat → length seat.numbers.references ≡ 16 → new.numbers ≡ split_off 2 count rest seat.numbers → Has controller_table (kept_beside given) room new
edit_split given room count rest seat new has size is =
    let old = seat.numbers.references in
    let less = at_interface seat.numbers 2 - count in
    edit_changed (given + count) given (room + rest) room seat new has
    (ap (λ (n : Numbers). at_interface n 2) is ∙ get_or-set_same old 2 less 0 (omega (arith, size)) ∙ omega (arith, edit_at (given + count) (room + rest) seat has))
    (λ k lt apart. ap (λ (n : Numbers). at_interface n k) is ∙ get_or-set_other old 2 k less 0 apart)
    (ap (λ (n : Numbers). n.room) is ∙ ap (λ (r : ℕ). r - rest) has.room ∙ omega arith)

-- an editor's holder is joined
beside_none : (k : ℕ) → k < 4 → k ≢ 2 → kept_by_editor (get_or controller_table k Unknown) ≡ 0
beside_none k lt = four_places (λ j. j ≢ 2 → kept_by_editor (get_or controller_table j Unknown) ≡ 0) (λ apart. refl) (λ apart. refl) (λ apart. absurd (apart refl)) (λ apart. refl) k lt

pub edit_joined : (given room : ℕ) (seat other new : Seat) → Has controller_table (kept_beside given) room seat → Has controller_table kept_by_editor 64 other → length seat.numbers.references ≡ 16 → length other.numbers.references ≡ 16
    → new.numbers ≡ joined seat.numbers other.numbers → Has controller_table (kept_beside (given + 2)) (room + 64) new
edit_joined given room seat other new has its size too is =
    let sum_at = λ (k : ℕ) (lt : k < 4). ap (λ (n : Numbers). at_interface n k) is ∙ both_at seat.numbers.references other.numbers.references k (omega (arith, size, lt)) (size ∙ sym too) in
    edit_changed given (given + 2) room (room + 64) seat new has
    (let here = sum_at 2 (omega arith) in omega (arith, here, edit_at given room seat has, its.at 2 Unknown (omega arith)))
    (λ k lt apart. let here = sum_at k lt in omega (arith, here, its.at k Unknown lt, beside_none k lt apart))
    (ap (λ (n : Numbers). n.room) is ∙ omega (arith, has.room, its.room))

-- the references at IEditController are some of all
pub edits_within : (n : Numbers) → length n.references ≡ 16 → at_interface n 2 ≤ total n
edits_within n size = at_most_sum n.references 2 (omega (arith, size))

-- the same numbers
pub has_same : (given other room rest : ℕ) (seat : Seat) → given ≡ other → room ≡ rest → Has controller_table (kept_beside given) room seat → Has controller_table (kept_beside other) rest seat
has_same given other room rest seat same left has =
    subst (λ (n : ℕ). Has controller_table (kept_beside n) rest seat) same (subst (λ (n : ℕ). Has controller_table (kept_beside given) n seat) left has)

-- The values that points mean.
use Rattle.std.proofs.Common.{◌≡◌, ℕ, suc, ◌+◌, ◌-◌, ◌<◌, ◌≤◌, true, false, cond, ltb, leb, eqb, List, [], ◌∷◌, length, get_or, map, refl, sym, ap, subst, ◌∙◌, inl, inr, arith}
use Rattle.std.specs.Prelude.{All}
use Rattle.std.proofs.lemmas.Bool.{cases_lt}
use Rattle.std.proofs.lemmas.Bool.Decides.{nat_tests}
use Rattle.std.proofs.lemmas.List.Elements.{All-cons, All-head, All-nil, All-tail}
use Rattle.vh_points.specs.Queues.{Queue, IsRising}
use Rattle.vh_points.specs.Values.{value_at, value_behind, points_of, points_before, points_from, queues_from}
use Rattle.vh_points.specs.Laws.{StartsAsBefore, StaysBehind, CutInTwo}

le_no : (a b : ℕ) → b < a → leb a b ≡ false
le_no a b h = grind (arith, nat_tests)

le_yes : (a b : ℕ) → a ≤ b → leb a b ≡ true
le_yes a b h = grind (arith, nat_tests)

lt_no : (a b : ℕ) → b ≤ a → ltb a b ≡ false
lt_no a b h = grind (arith, nat_tests)

lt_yes : (a b : ℕ) → a < b → ltb a b ≡ true
lt_yes a b h = grind (arith, nat_tests)

starts : (points : List (ℕ × ℕ)) (before offset : ℕ) → All (λ point. offset < point.0) points → value_at before points offset ≡ before
starts [] before offset later = refl
starts (p ∷ ps) before offset later =
    let first = le_no p.0 offset (All-head (λ (point : ℕ × ℕ). offset < point.0) p ps later) in
    rw first (starts ps before offset (All-tail (λ (point : ℕ × ℕ). offset < point.0) p ps later))

stays : (points : List (ℕ × ℕ)) (before offset : ℕ) → All (λ point. point.0 ≤ offset) points → value_at before points offset ≡ value_behind before points
stays [] before offset earlier = refl
stays (p ∷ ps) before offset earlier =
    let first = le_yes p.0 offset (All-head (λ (point : ℕ × ℕ). point.0 ≤ offset) p ps earlier) in
    rw first (stays ps p.1 offset (All-tail (λ (point : ℕ × ℕ). point.0 ≤ offset) p ps earlier))

pub law_starts_as_before : StartsAsBefore
law_starts_as_before queues id before offset later = starts (points_of queues id) before offset later

pub law_stays_behind : StaysBehind
law_stays_behind queues id before offset earlier = stays (points_of queues id) before offset earlier

-- points that rise
rising_tail : (p : ℕ × ℕ) (ps : List (ℕ × ℕ)) → IsRising (p ∷ ps) → IsRising ps
rising_tail p ps rising = record {
  rises = λ j d lt. let shifted : suc j + 1 < suc (length ps) = omega arith in subst (λ n. (get_or (p ∷ ps) (suc j) d).0 < (get_or (p ∷ ps) n d).0) (let e : suc j + 1 ≡ suc (j + 1) = omega arith in e) (rising.rises (suc j) d shifted);
  changes = λ j d lt same. let shifted : suc j + 1 < suc (length ps) = omega arith in rising.changes (suc j) d shifted (subst (λ n. (get_or (p ∷ ps) (suc j) d).1 ≡ (get_or (p ∷ ps) n d).1) (let e : suc (j + 1) ≡ suc j + 1 = omega arith in e) same);
  within = λ j d lt. rising.within (suc j) d (omega arith);
}

all_later : (p : ℕ × ℕ) (ps : List (ℕ × ℕ)) (place : ℕ) → IsRising (p ∷ ps) → place ≤ p.0 → All (λ point. place ≤ point.0) ps
all_later p [] place rising h = All-nil (λ (point : ℕ × ℕ). place ≤ point.0)
all_later p (q ∷ qs) place rising h =
    let next : p.0 < q.0 = subst (λ n. p.0 < (get_or (p ∷ q ∷ qs) n p).0) (let e : 0 + 1 ≡ 1 = omega arith in e) (rising.rises 0 p (omega arith)) in
    let here : place ≤ q.0 = omega arith in
    All-cons (λ (point : ℕ × ℕ). place ≤ point.0) q qs here (all_later q qs place (rising_tail p (q ∷ qs) rising) here)

-- points from a place on, read from it
none_before : (place : ℕ) (points : List (ℕ × ℕ)) → All (λ point. place ≤ point.0) points → points_before place points ≡ []
none_before place [] later = refl
none_before place (p ∷ ps) later =
    let here = lt_no p.0 place (All-head (λ (point : ℕ × ℕ). place ≤ point.0) p ps later) in
    rw here (none_before place ps (All-tail (λ (point : ℕ × ℕ). place ≤ point.0) p ps later))

shifted_test : (a place offset : ℕ) → place ≤ a → place ≤ offset → leb (a - place) (offset - place) ≡ leb a offset
shifted_test a place offset h k = grind (arith, nat_tests)

read_from : (place offset : ℕ) (points : List (ℕ × ℕ)) (before : ℕ) → place ≤ offset → All (λ point. place ≤ point.0) points → value_at before (points_from place points) (offset - place) ≡ value_at before points offset
read_from place offset [] before le later = refl
read_from place offset (p ∷ ps) before le later =
    let here : place ≤ p.0 = All-head (λ (point : ℕ × ℕ). place ≤ point.0) p ps later in
    let step : points_from place (p ∷ ps) ≡ (p.0 - place, p.1) ∷ points_from place ps = rw (le_yes place p.0 here) refl in
    ap (λ points. value_at before points (offset - place)) step
    ∙ ap (λ b. value_at (cond b p.1 before) (points_from place ps) (offset - place)) (shifted_test p.0 place offset here le)
    ∙ read_from place offset ps (cond (leb p.0 offset) p.1 before) le (All-tail (λ (point : ℕ × ℕ). place ≤ point.0) p ps later)

behind_from : (place before : ℕ) (points : List (ℕ × ℕ)) → All (λ point. place ≤ point.0) points → value_behind before (points_from place points) ≡ value_behind before points
behind_from place before [] later = refl
behind_from place before (p ∷ ps) later =
    let here : place ≤ p.0 = All-head (λ (point : ℕ × ℕ). place ≤ point.0) p ps later in
    rw (le_yes place p.0 here) (behind_from place p.1 ps (All-tail (λ (point : ℕ × ℕ). place ≤ point.0) p ps later))

-- up to the place
first_part : (place offset : ℕ) (points : List (ℕ × ℕ)) (before : ℕ) → offset < place → value_at before (points_before place points) offset ≡ value_at before points offset
first_part place offset [] before lt = refl
first_part place offset (p ∷ ps) before lt = elim (cases_lt p.0 place) [
  | inl below ↦ rw (lt_yes p.0 place below) (first_part place offset ps (cond (leb p.0 offset) p.1 before) lt)
  | inr above ↦
      let test : leb p.0 offset ≡ false = le_no p.0 offset (omega arith) in
      rw (lt_no p.0 place above, test) (first_part place offset ps before lt)
]

second_part : (place offset before : ℕ) (points : List (ℕ × ℕ)) → place ≤ offset → IsRising points → value_at (value_behind before (points_before place points)) (points_from place points) (offset - place) ≡ value_at before points offset
second_part place offset before [] le rising = refl
second_part place offset before (p ∷ ps) le rising = elim (cases_lt p.0 place) [
  | inl below ↦
      let test : leb p.0 offset ≡ true = le_yes p.0 offset (omega arith) in
      rw (lt_yes p.0 place below, le_no place p.0 below, test) (second_part place offset p.1 ps le (rising_tail p ps rising))
  | inr above ↦
      let later = All-cons (λ (point : ℕ × ℕ). place ≤ point.0) p ps above (all_later p ps place rising above) in
      ap (λ front. value_at (value_behind before front) (points_from place (p ∷ ps)) (offset - place)) (none_before place (p ∷ ps) later) ∙ read_from place offset (p ∷ ps) before le later
]

both_parts : (place before : ℕ) (points : List (ℕ × ℕ)) → IsRising points → value_behind (value_behind before (points_before place points)) (points_from place points) ≡ value_behind before points
both_parts place before [] rising = refl
both_parts place before (p ∷ ps) rising = elim (cases_lt p.0 place) [
  | inl below ↦ rw (lt_yes p.0 place below, le_no place p.0 below) (both_parts place p.1 ps (rising_tail p ps rising))
  | inr above ↦
      let later = All-cons (λ (point : ℕ × ℕ). place ≤ point.0) p ps above (all_later p ps place rising above) in
      ap (λ front. value_behind (value_behind before front) (points_from place (p ∷ ps))) (none_before place (p ∷ ps) later) ∙ behind_from place before (p ∷ ps) later
]

-- the points of a parameter, where each queue's are changed
points_through : (f : List (ℕ × ℕ) → List (ℕ × ℕ)) (queues : List Queue) (id : ℕ) → f [] ≡ [] → points_of (map (λ (queue : Queue). record { id = queue.id; points = f queue.points }) queues) id ≡ f (points_of queues id)
points_through f [] id none = sym none
points_through f (q ∷ qs) id none =
    elim (eqb q.id id) as (λ b. cond b (f q.points) (points_of (map (λ (queue : Queue). record { id = queue.id; points = f queue.points }) qs) id) ≡ f (cond b q.points (points_of qs id))) [
      | true ↦ refl
      | false ↦ points_through f qs id none
    ]

rising_none : IsRising []
rising_none = record { rises = λ j d lt. absurd (omega arith); changes = λ j d lt. absurd (omega arith); within = λ j d lt. absurd (omega arith) }

rising_of : (queues : List Queue) (id : ℕ) → ((i : ℕ) (d : Queue) → i < length queues → IsRising (get_or queues i d).points) → IsRising (points_of queues id)
rising_of [] id each = rising_none
rising_of (q ∷ qs) id each =
    elim (eqb q.id id) as (λ b. IsRising (cond b q.points (points_of qs id))) [
      | true ↦ each 0 q (omega arith)
      | false ↦ rising_of qs id (λ i d lt. each (suc i) d (omega arith))
    ]

pub law_cut_in_two : CutInTwo
law_cut_in_two queues id before place lawful =
    let front = points_through (points_before place) queues id refl in
    let back = points_through (points_from place) queues id refl in
    let rising = rising_of queues id lawful.points in
    record {
      first = λ offset lt. ap (λ ps. value_at before ps offset) front ∙ first_part place offset (points_of queues id) before lt;
      second = λ offset le.
          ap (λ ps. value_at (value_behind before ps) (points_of (queues_from place queues) id) (offset - place)) front
          ∙ ap (λ ps. value_at (value_behind before (points_before place (points_of queues id))) ps (offset - place)) back
          ∙ second_part place offset before (points_of queues id) le rising;
      behind =
          ap (λ ps. value_behind (value_behind before ps) (points_of (queues_from place queues) id)) front
          ∙ ap (λ ps. value_behind (value_behind before (points_before place (points_of queues id))) ps) back
          ∙ both_parts place before (points_of queues id) rising;
    }

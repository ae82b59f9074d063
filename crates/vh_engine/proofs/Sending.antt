-- Points that are sent where a parameter's value changes.
use Rattle.std.proofs.Common.{◌≡◌, ◌≢◌, ℕ, zero, suc, ◌+◌, ◌<◌, ◌≤◌, true, false, nat_eq, List, [], ◌∷◌, ◌++◌, length, get_or, set, refl, sym, ap, subst, ◌∙◌, arith}
use Rattle.std.proofs.lemmas.Bool.{ne_eqb, eq-eqb}
use Rattle.std.proofs.lemmas.List.{length-append, set-get_or, set-set, set_at, get_or_at, get_or-set_same}
use Rattle.vh_points.specs.Queues.{Queue, queue_at, no_queue, with_point, MayFollow}
use Rattle.vh_points.specs.Values.{value_behind}
use Rattle.vh_lane.specs.Changes.{before, changes_of, with_points}
use Rattle.vh_lane.specs.Laws.{PointsMeanValues}

-- the values of so many samples are all that counts
pub before_same : (f g : ℕ → ℕ) (from last n : ℕ) → ((i : ℕ) → i < n → f (from + i) ≡ g (from + i)) → before f from last n ≡ before g from last n
before_same f g from last zero same = refl
before_same f g from last (suc n) same = same n (omega arith)

pub changes_same : (f g : ℕ → ℕ) (from last n : ℕ) → ((i : ℕ) → i < n → f (from + i) ≡ g (from + i)) → changes_of f from last n ≡ changes_of g from last n
changes_same f g from last zero same = refl
changes_same f g from last (suc n) same =
    let less = λ (i : ℕ) (lt : i < n). same i (omega (arith, lt)) in
    rw (same n (omega arith)) (rw (before_same f g from last n less) (rw (changes_same f g from last n less) refl))

-- of a value that stays there is one point at most
pub before_still : (f : ℕ → ℕ) (from last n h : ℕ) → 1 ≤ n → ((i : ℕ) → i < n → f (from + i) ≡ h) → before f from last n ≡ h
before_still f from last zero h some still = absurd (omega (arith, some))
before_still f from last (suc n) h some still = still n (omega arith)

before_last : (from last n : ℕ) → before (λ s. last) from last n ≡ last
before_last from last zero = refl
before_last from last (suc n) = refl

pub changes_none : (f : ℕ → ℕ) (from last n : ℕ) → ((i : ℕ) → i < n → f (from + i) ≡ last) → changes_of f from last n ≡ []
changes_none f from last zero still = refl
changes_none f from last (suc n) still =
    let less = λ (i : ℕ) (lt : i < n). still i (omega (arith, lt)) in
    let since : before f from last n ≡ last = before_same f (λ s. last) from last n less ∙ before_last from last n in
    rw (eq-eqb (f (from + n)) (before f from last n) (still n (omega arith) ∙ sym since)) (changes_none f from last n less)

pub changes_first : (f : ℕ → ℕ) (from last n h : ℕ) → 1 ≤ n → ((i : ℕ) → i < n → f (from + i) ≡ h) → h ≢ last → changes_of f from last n ≡ (0, h) ∷ []
changes_first f from last zero h some still differs = absurd (omega (arith, some))
changes_first f from last (suc zero) h some still differs =
    rw (still 0 (omega arith)) (rw (ne_eqb h last differs) refl)
changes_first f from last (suc (suc n)) h some still differs =
    rw (eq-eqb (f (from + suc n)) (f (from + n)) (still (suc n) (omega arith) ∙ sym (still n (omega arith)))) (changes_first f from last (suc n) h (omega arith) (λ i lt. still i (omega (arith, lt))) differs)

-- the last point's value stands behind them
last_behind : (points : List (ℕ × ℕ)) (last j : ℕ) (d : ℕ × ℕ) → j + 1 ≡ length points → (get_or points j d).1 ≡ value_behind last points
last_behind [] last j d is = absurd (omega (arith, is))
last_behind (point ∷ []) last zero d is = refl
last_behind (point ∷ []) last (suc j) d is = absurd (omega (arith, is))
last_behind (point ∷ next ∷ points) last zero d is = absurd (omega (arith, is))
last_behind (point ∷ next ∷ points) last (suc j) d is = last_behind (next ∷ points) point.1 j d (omega (arith, is))

-- so a change may follow those before it
may_follow_changes : (value : ℕ → ℕ) (from last n : ℕ) → PointsMeanValues → value (from + n) ≢ before value from last n → MayFollow (changes_of value from last n) (n, value (from + n))
may_follow_changes value from last n law differs j d is =
    let meant = law value from last n in
    let points = changes_of value from last n in
    ((meant.changes j d (omega (arith, is))).0, λ same. differs (sym same ∙ last_behind points last j d is ∙ meant.behind))

queue_with_points : (queues : List Queue) (q : ℕ) (points : List (ℕ × ℕ)) → q < length queues → queue_at (with_points queues q points) q ≡ record { id = (queue_at queues q).id; points = points }
queue_with_points queues q points within = get_or-set_same queues q (record { id = (queue_at queues q).id; points = points }) no_queue within

with_points_more : (queues : List Queue) (q : ℕ) (points : List (ℕ × ℕ)) (point : ℕ × ℕ) → q < length queues → with_point (with_points queues q points) q point ≡ with_points queues q (points ++ point ∷ [])
with_points_more queues q points point within =
    ap (λ (queue : Queue). set (with_points queues q points) q (record { id = queue.id; points = queue.points ++ point ∷ [] })) (queue_with_points queues q points within)
    ∙ set-set queues q (record { id = (queue_at queues q).id; points = points }) (record { id = (queue_at queues q).id; points = points ++ point ∷ [] })

-- the points of so many offsets were sent
pub record IsSending (value : ℕ → ℕ) (from last q : ℕ) (old : List Queue) (room offset since : ℕ) (now : List Queue) (left : ℕ) : Type 0 where
  pub sent : now ≡ with_points old q (changes_of value from last offset)
  pub value_since : since ≡ before value from last offset
  pub rooms : left + length (changes_of value from last offset) ≡ room

same_queue : (queue : Queue) → queue.points ≡ [] → record { id = queue.id; points = [] } ≡ queue
same_queue queue empty = ap (λ (points : List (ℕ × ℕ)). let made : Queue = record { id = queue.id; points = points } in made) (sym empty)

pub with_none : (queues : List Queue) (q : ℕ) → (queue_at queues q).points ≡ [] → with_points queues q [] ≡ queues
with_none queues q empty = ap (λ (queue : Queue). set queues q queue) (same_queue (queue_at queues q) empty) ∙ set-get_or queues q no_queue

pub sending_none : (value : ℕ → ℕ) (from last q : ℕ) (old : List Queue) (room : ℕ) → (queue_at old q).points ≡ [] → IsSending value from last q old room 0 last old room
sending_none value from last q old room empty = record { sent = sym (with_none old q empty); value_since = refl; rooms = omega arith }

module _ (value : ℕ → ℕ) (from last q : ℕ) (old : List Queue) (room offset since : ℕ) (now : List Queue) (left : ℕ) (is : IsSending value from last q old room offset since now left) where
  pub sending_same : (v : ℕ) → v ≡ value (from + offset) → v ≡ since → IsSending value from last q old room (offset + 1) since now left
  sending_same v valued same =
      let stays : nat_eq (value (from + offset)) (before value from last offset) ≡ true = eq-eqb _ _ (sym valued ∙ same ∙ is.value_since) in
      let changes : changes_of value from last (suc offset) ≡ changes_of value from last offset = rw stays refl in
      let next : offset + 1 ≡ suc offset = omega arith in
      rw next (record {
        sent = is.sent ∙ ap (λ (points : List (ℕ × ℕ)). with_points old q points) (sym changes);
        value_since = sym same ∙ valued;
        rooms = rw changes is.rooms;
      })

  pub sending_more : (v : ℕ) (more : List Queue) (less : ℕ) → v ≡ value (from + offset) → v ≢ since → q < length old → more ≡ with_point now q (offset, v) → less + 1 ≡ left
      → IsSending value from last q old room (offset + 1) v more less
  sending_more v more less valued differs within added taken =
      let moves : nat_eq (value (from + offset)) (before value from last offset) ≡ false = ne_eqb _ _ (λ e. differs (valued ∙ e ∙ sym is.value_since)) in
      let points = changes_of value from last offset in
      let changes : changes_of value from last (suc offset) ≡ points ++ (offset, v) ∷ [] = rw moves (ap (λ x. points ++ (offset, x) ∷ []) (sym valued)) in
      let next : offset + 1 ≡ suc offset = omega arith in
      rw next (record {
        sent = added ∙ ap (λ (queues : List Queue). with_point queues q (offset, v)) is.sent ∙ with_points_more old q points (offset, v) within ∙ ap (λ (ps : List (ℕ × ℕ)). with_points old q ps) (sym changes);
        value_since = valued;
        rooms = rw changes (omega (arith, is.rooms, taken, length-append points ((offset, v) ∷ [])));
      })

  pub sending_follows : (v : ℕ) → PointsMeanValues → v ≡ value (from + offset) → v ≢ since → q < length old → MayFollow (queue_at now q).points (offset, v)
  sending_follows v law valued differs within =
      let points : (queue_at now q).points ≡ changes_of value from last offset = ap (λ (queues : List Queue). (queue_at queues q).points) is.sent ∙ ap (λ (queue : Queue). queue.points) (queue_with_points old q (changes_of value from last offset) within) in
      rw points (subst (λ x. MayFollow (changes_of value from last offset) (offset, x)) (sym valued) (may_follow_changes value from last offset law (λ e. differs (valued ∙ e ∙ sym is.value_since))))

  pub sending_room : (frames : ℕ) → PointsMeanValues → frames ≤ room → offset < frames → 0 < left
  sending_room frames law enough more = omega (arith, (law value from last offset).few, is.rooms)

-- a queue that was added holds the points
pub with_last : (queues added : List Queue) (id : ℕ) (points : List (ℕ × ℕ)) → added ≡ queues ++ record { id = id; points = [] } ∷ [] → with_points added (length queues) points ≡ queues ++ record { id = id; points = points } ∷ []
with_last queues added id points is =
    let last : Queue = record { id = id; points = [] } in
    let id_is : (queue_at (queues ++ last ∷ []) (length queues)).id ≡ id = ap (λ (queue : Queue). queue.id) (get_or_at queues last [] no_queue (length queues) refl) in
    ap (λ (all : List Queue). with_points all (length queues) points) is
    ∙ ap (λ i. set (queues ++ last ∷ []) (length queues) (record { id = i; points = points })) id_is
    ∙ set_at queues last [] (record { id = id; points = points }) (length queues) refl

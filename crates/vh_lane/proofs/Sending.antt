-- Points that are sent one by one.
use Rattle.std.proofs.Common.{◌≡◌, ◌≢◌, ℕ, zero, suc, ◌+◌, ◌<◌, ◌≤◌, true, false, cond, nat_eq, List, [], ◌∷◌, ◌++◌, length, get_or, set, refl, sym, ap, subst, ◌-◌, ◌∙◌, arith}
use Rattle.std.proofs.lemmas.Bool.{eqb-true, ne_eqb, eq-eqb}
use Rattle.std.proofs.lemmas.List.{get_or-set_same, length-append}
use Rattle.std.proofs.Math.Seq.{get_or-append_seam}
use Rattle.vh_points.specs.Queues.{Queue, queue_at, no_queue, with_point, MayFollow}
use Rattle.vh_lane.specs.Values.{ArePassed, AreReached}
use Rattle.vh_lane.proofs.Segments.{reached_next}
use Rattle.vh_lane.specs.Changes.{before, changes_of, with_points}

-- the last point was sent before, and its value stands since
last_change : (value : ℕ → ℕ) (from last n j : ℕ) (d : ℕ × ℕ) → j + 1 ≡ length (changes_of value from last n) → ((get_or (changes_of value from last n) j d).0 < n) × ((get_or (changes_of value from last n) j d).1 ≡ before value from last n)
last_change value from last zero j d is = absurd (omega (arith, is))
last_change value from last (suc n) j d is =
    let sent = changes_of value from last n in
    let here = value (from + n) in
    elim (nat_eq here (before value from last n)) as (λ t. nat_eq here (before value from last n) ≡ t
    → j + 1 ≡ length (cond t sent (sent ++ (n, here) ∷ []))
    → ((get_or (cond t sent (sent ++ (n, here) ∷ [])) j d).0 < suc n) × ((get_or (cond t sent (sent ++ (n, here) ∷ [])) j d).1 ≡ here)) [
      | true ↦ λ test long.
          let rest = last_change value from last n j d long in
          (omega (arith, rest.0), rest.1 ∙ sym (eqb-true here (before value from last n) test))
      | false ↦ λ test long.
          let place : j ≡ length sent = omega (arith, long, length-append sent ((n, here) ∷ [])) in
          let point : get_or (sent ++ (n, here) ∷ []) j d ≡ (n, here) = ap (λ i. get_or (sent ++ (n, here) ∷ []) i d) place ∙ get_or-append_seam sent (n, here) [] d in
          (rw point (omega arith), ap (λ (p : ℕ × ℕ). p.1) point)
    ] refl is

pub may_follow_changes : (value : ℕ → ℕ) (from last n : ℕ) → value (from + n) ≢ before value from last n → MayFollow (changes_of value from last n) (n, value (from + n))
may_follow_changes value from last n differs j d is =
    let change = last_change value from last n j d is in
    (change.0, λ same. differs (sym same ∙ change.1))

pub set_twice : {X : Type 0} (xs : List X) (i : ℕ) (y z : X) → set (set xs i y) i z ≡ set xs i z
set_twice [] i y z = refl
set_twice (x ∷ xs) zero y z = refl
set_twice (x ∷ xs) (suc i) y z = ap (λ ys. x ∷ ys) (set_twice xs i y z)

pub queue_with_points : (queues : List Queue) (q : ℕ) (points : List (ℕ × ℕ)) → q < length queues → queue_at (with_points queues q points) q ≡ record { id = (queue_at queues q).id; points = points }
queue_with_points queues q points within = get_or-set_same queues q (record { id = (queue_at queues q).id; points = points }) no_queue within

pub with_points_more : (queues : List Queue) (q : ℕ) (points : List (ℕ × ℕ)) (point : ℕ × ℕ) → q < length queues → with_point (with_points queues q points) q point ≡ with_points queues q (points ++ point ∷ [])
with_points_more queues q points point within =
    ap (λ (queue : Queue). set (with_points queues q points) q (record { id = queue.id; points = queue.points ++ point ∷ [] })) (queue_with_points queues q points within)
    ∙ set_twice queues q (record { id = (queue_at queues q).id; points = points }) (record { id = (queue_at queues q).id; points = points ++ point ∷ [] })

few_changes : (value : ℕ → ℕ) (from last n : ℕ) → length (changes_of value from last n) ≤ n
few_changes value from last zero = omega arith
few_changes value from last (suc n) =
    let sent = changes_of value from last n in
    let rest = few_changes value from last n in
    elim (nat_eq (value (from + n)) (before value from last n)) as (λ t. length (cond t sent (sent ++ (n, value (from + n)) ∷ [])) ≤ suc n) [
      | true ↦ omega (arith, rest)
      | false ↦ omega (arith, rest, length-append sent ((n, value (from + n)) ∷ []))
    ]

-- the points up to a sample were sent
pub record IsSent (breaks : List (ℕ × ℕ)) (value : ℕ → ℕ) (from last q : ℕ) (old : List Queue) (room : ℕ) (s passed since : ℕ) (now : List Queue) (left : ℕ) : Type 0 where
  pub reached : AreReached breaks passed s
  pub range : from ≤ s
  pub sent : now ≡ with_points old q (changes_of value from last (s - from))
  pub value_since : since ≡ before value from last (s - from)
  pub rooms : left + length (changes_of value from last (s - from)) ≡ room

next_offset : (from s : ℕ) → from ≤ s → s + 1 - from ≡ suc (s - from)
next_offset from s le = omega arith

at_offset : (from s : ℕ) → from ≤ s → from + (s - from) ≡ s
at_offset from s le = omega arith

pub sent_same : (breaks : List (ℕ × ℕ)) (value : ℕ → ℕ) (from last q : ℕ) (old : List Queue) (room s passed since : ℕ) (now : List Queue) (left v : ℕ) {next : ℕ} → IsSent breaks value from last q old room s passed since now left
    → ArePassed breaks next s → v ≡ value s → v ≡ since → IsSent breaks value from last q old room (s + 1) next since now left
sent_same breaks value from last q old room s passed since now left v {next} is are valued same =
    let n = s - from in
    let here : value (from + n) ≡ v = ap value (at_offset from s is.range) ∙ sym valued in
    let stays : nat_eq (value (from + n)) (before value from last n) ≡ true = eq-eqb (value (from + n)) (before value from last n) (here ∙ same ∙ is.value_since) in
    let changes : changes_of value from last (suc n) ≡ changes_of value from last n = rw stays refl in
    record {
      reached = reached_next breaks next s are;
      range = omega (arith, is.range);
      sent = rw (next_offset from s is.range) (is.sent ∙ ap (λ (points : List (ℕ × ℕ)). with_points old q points) (sym changes));
      value_since = rw (next_offset from s is.range) (sym (here ∙ same));
      rooms = rw (next_offset from s is.range) (rw changes is.rooms);
    }

pub sent_more : (breaks : List (ℕ × ℕ)) (value : ℕ → ℕ) (from last q : ℕ) (old : List Queue) (room s passed since : ℕ) (now : List Queue) (left v : ℕ) (more : List Queue) (less : ℕ) {next : ℕ} → IsSent breaks value from last q old room s passed since now left
    → ArePassed breaks next s → v ≡ value s → v ≢ since → q < length old → more ≡ with_point now q (s - from, v) → less + 1 ≡ left → IsSent breaks value from last q old room (s + 1) next v more less
sent_more breaks value from last q old room s passed since now left v more less {next} is are valued differs within added taken =
    let n = s - from in
    let here : value (from + n) ≡ v = ap value (at_offset from s is.range) ∙ sym valued in
    let moves : nat_eq (value (from + n)) (before value from last n) ≡ false = ne_eqb (value (from + n)) (before value from last n) (λ e. differs (sym here ∙ e ∙ sym is.value_since)) in
    let changes : changes_of value from last (suc n) ≡ changes_of value from last n ++ (n, v) ∷ [] = rw moves (ap (λ x. changes_of value from last n ++ (n, x) ∷ []) here) in
    record {
      reached = reached_next breaks next s are;
      range = omega (arith, is.range);
      sent = rw (next_offset from s is.range) (added ∙ ap (λ (queues : List Queue). with_point queues q (n, v)) is.sent ∙ with_points_more old q (changes_of value from last n) (n, v) within ∙ ap (λ (points : List (ℕ × ℕ)). with_points old q points) (sym changes));
      value_since = rw (next_offset from s is.range) (sym here);
      rooms = rw (next_offset from s is.range) (rw changes (omega (arith, is.rooms, taken, length-append (changes_of value from last n) ((n, v) ∷ []))));
    }

pub sent_follows : (breaks : List (ℕ × ℕ)) (value : ℕ → ℕ) (from last q : ℕ) (old : List Queue) (room s passed since : ℕ) (now : List Queue) (left v : ℕ) → IsSent breaks value from last q old room s passed since now left
    → v ≡ value s → v ≢ since → q < length old → MayFollow (queue_at now q).points (s - from, v)
sent_follows breaks value from last q old room s passed since now left v is valued differs within =
    let n = s - from in
    let here : value (from + n) ≡ v = ap value (at_offset from s is.range) ∙ sym valued in
    let points : (queue_at now q).points ≡ changes_of value from last n = ap (λ (queues : List Queue). (queue_at queues q).points) is.sent ∙ ap (λ (queue : Queue). queue.points) (queue_with_points old q (changes_of value from last n) within) in
    rw points (subst (λ x. MayFollow (changes_of value from last n) (n, x)) here (may_follow_changes value from last n (λ e. differs (sym here ∙ e ∙ sym is.value_since))))

pub sent_room : (breaks : List (ℕ × ℕ)) (value : ℕ → ℕ) (from last q : ℕ) (old : List Queue) (room s passed since : ℕ) (now : List Queue) (left to : ℕ) → IsSent breaks value from last q old room s passed since now left → to - from ≤ room → s < to → 0 < left
sent_room breaks value from last q old room s passed since now left to is enough more =
    let few = few_changes value from last (s - from) in
    omega (arith, few, is.rooms, is.range)

use Rattle.std.proofs.Common.{◌≡◌, ◌≢◌, set, ℕ, zero, suc, ◌+◌, ◌<◌, ◌≤◌, ◌^◌, List, [], ◌∷◌, ◌++◌, length, get_or, get_or-set_other, get_or-set_same, take, drop, refl, sym, ap, subst, ◌∙◌, inl, inr, arith}
use Rattle.std.proofs.lemmas.List.{get_or_append_left, get_or_default, get_or-map, length-map}
use Rattle.std.proofs.lemmas.Bool.{cases_lt}
use Rattle.vh_points.specs.declared.points.Queue.{Queue as Stored}
use Rattle.vh_points.specs.Queues.{Queue, MayFollow, IsRising, LacksId, AreLawful, no_queue, queue_at, longer, with_point}
use Rattle.vh_points.specs.Stored.{queue_in, queues_in, ArePlaced}

length_append : {X : Type 0} (xs : List X) (x : X) → length (xs ++ x ∷ []) ≡ length xs + 1
length_append [] x = refl
length_append (y ∷ xs) x = ap (λ n. suc n) (length_append xs x) ∙ omega arith

pub length_set : {X : Type 0} (xs : List X) (i : ℕ) (x : X) → length (set xs i x) ≡ length xs
length_set [] i x = refl
length_set (y ∷ xs) zero x = refl
length_set (y ∷ xs) (suc i) x = ap (λ n. suc n) (length_set xs i x)

-- the element behind a list
at_end : {X : Type 0} (xs : List X) (x d : X) (i : ℕ) → i ≡ length xs → get_or (xs ++ x ∷ []) i d ≡ x
at_end [] x d zero e = refl
at_end [] x d (suc i) e = absurd (omega (arith, e))
at_end (y ∷ xs) x d zero e = absurd (omega (arith, e))
at_end (y ∷ xs) x d (suc i) e = at_end xs x d i (omega (arith, e))

pub placed_queue : (stored : List Stored) (count used : ℕ) (s : Stored) → count < length stored → s.start ≡ used → s.size ≡ 0 → ArePlaced stored count used → ArePlaced (set stored count s) (count + 1) used
placed_queue stored count used s room start size placed = record {
  parts = λ i d lt. elim (cases_lt i count) [
    | inl below ↦
        let other : i ≢ count = omega arith in
        subst (λ q. q.start + q.size ≤ used) (sym (get_or-set_other stored count i s d other)) (placed.parts i d below)
    | inr top ↦
        let same : count ≡ i = omega arith in
        subst (λ k. (get_or (set stored count s) k d).start + (get_or (set stored count s) k d).size ≤ used) same
        (subst (λ q. q.start + q.size ≤ used) (sym (get_or-set_same stored count s d room)) (omega (arith, start, size)))
  ];
  last = λ i d e.
      let same : count ≡ i = omega arith in
      subst (λ k. (get_or (set stored count s) k d).start + (get_or (set stored count s) k d).size ≡ used) same
      (subst (λ q. q.start + q.size ≡ used) (sym (get_or-set_same stored count s d room)) (omega (arith, start, size)));
}

pub placed_point : (stored : List Stored) (count used q : ℕ) (s d : Stored) → count ≤ length stored → q + 1 ≡ count → s.start ≡ (get_or stored q d).start → s.size ≡ (get_or stored q d).size + 1 → ArePlaced stored count used → ArePlaced (set stored q s) count (used + 1)
placed_point stored count used q s d room e start size placed =
    let old = placed.last q d e in
    let new : s.start + s.size ≡ used + 1 = omega (arith, start, size, old) in
    record {
      parts = λ i d lt. elim (cases_lt i q) [
        | inl below ↦
            let other : i ≢ q = omega arith in
            let part = placed.parts i d lt in
            subst (λ x. x.start + x.size ≤ used + 1) (sym (get_or-set_other stored q i s d other)) (omega (arith, part))
        | inr top ↦
            let same : q ≡ i = omega arith in
            subst (λ k. (get_or (set stored q s) k d).start + (get_or (set stored q s) k d).size ≤ used + 1) same
            (subst (λ x. x.start + x.size ≤ used + 1) (sym (get_or-set_same stored q s d (omega arith))) (omega (arith, new)))
      ];
      last = λ i d e2.
          let same : q ≡ i = omega arith in
          subst (λ k. (get_or (set stored q s) k d).start + (get_or (set stored q s) k d).size ≡ used + 1) same
          (subst (λ x. x.start + x.size ≡ used + 1) (sym (get_or-set_same stored q s d (omega arith))) new);
    }

pub queues_more : (points : List (ℕ × ℕ)) (stored : List Stored) (count : ℕ) (s : Stored) → count < length stored → queues_in (set stored count s) points (suc count) ≡ queues_in stored points count ++ queue_in points s ∷ []
queues_more points [] count s room = absurd (omega arith)
queues_more points (x ∷ xs) zero s room = refl
queues_more points (x ∷ xs) (suc n) s room = ap (λ t. queue_in points x ∷ t) (queues_more points xs n s (omega (arith, room)))

pub lawful_queue : (queues : List Queue) (id : ℕ) → LacksId queues id → AreLawful queues → AreLawful (queues ++ record { id = id; points = [] } ∷ [])
lawful_queue queues id lacks lawful =
    let q : Queue = record { id = id; points = [] } in
    let len = length_append queues q in
    record {
      ids = λ i j d before within.
          let left = get_or_append_left queues (q ∷ []) d i (omega (arith, len)) in
          elim (cases_lt j (length queues)) [
            | inl below ↦
                let right = get_or_append_left queues (q ∷ []) d j below in
                subst (λ x. x.id ≢ (get_or (queues ++ q ∷ []) j d).id) (sym left) (subst (λ x. (get_or queues i d).id ≢ x.id) (sym right) (lawful.ids i j d before below))
            | inr top ↦
                let right = at_end queues q d j (omega (arith, len)) in
                subst (λ x. x.id ≢ (get_or (queues ++ q ∷ []) j d).id) (sym left) (subst (λ x. (get_or queues i d).id ≢ x.id) (sym right) (lacks i d (omega (arith, len))))
          ];
      points = λ i d within. elim (cases_lt i (length queues)) [
        | inl below ↦ subst (λ x. IsRising x.points) (sym (get_or_append_left queues (q ∷ []) d i below)) (lawful.points i d below)
        | inr top ↦
            subst (λ x. IsRising x.points) (sym (at_end queues q d i (omega (arith, len))))
            (record { rises = λ j e lt. absurd (omega (arith, lt)); changes = λ j e lt. absurd (omega (arith, lt)); within = λ j e lt. absurd (omega (arith, lt)) })
      ];
    }

-- the points of a queue before the one that is set, and those with it
before : (points : List (ℕ × ℕ)) (used start size : ℕ) (p : ℕ × ℕ) → start + size ≤ used → take size (drop start (set points used p)) ≡ take size (drop start points)
before [] used start size p within = refl
before (x ∷ xs) zero zero zero p within = refl
before (x ∷ xs) zero zero (suc size) p within = absurd (omega (arith, within))
before (x ∷ xs) zero (suc start) size p within = absurd (omega (arith, within))
before (x ∷ xs) (suc used) zero zero p within = refl
before (x ∷ xs) (suc used) zero (suc size) p within = ap (λ t. x ∷ t) (before xs used zero size p (omega (arith, within)))
before (x ∷ xs) (suc used) (suc start) size p within = before xs used start size p (omega (arith, within))

behind : (points : List (ℕ × ℕ)) (used start size : ℕ) (p : ℕ × ℕ) → start + size ≡ used → used < length points → take (suc size) (drop start (set points used p)) ≡ take size (drop start points) ++ p ∷ []
behind [] used start size p e room = absurd (omega arith)
behind (x ∷ xs) zero zero zero p e room = refl
behind (x ∷ xs) zero zero (suc size) p e room = absurd (omega (arith, e))
behind (x ∷ xs) zero (suc start) size p e room = absurd (omega (arith, e))
behind (x ∷ xs) (suc used) zero zero p e room = absurd (omega (arith, e))
behind (x ∷ xs) (suc used) zero (suc size) p e room = ap (λ t. x ∷ t) (behind xs used zero size p (omega (arith, e)) (omega (arith, room)))
behind (x ∷ xs) (suc used) (suc start) size p e room = behind xs used start size p (omega (arith, e)) (omega (arith, room))

set_last : (points now : List (ℕ × ℕ)) (stored : List Stored) (q : ℕ) (s d : Stored) (p : ℕ × ℕ) → q < length stored
    → ((i : ℕ) → i < q → queue_in now (get_or stored i d) ≡ queue_in points (get_or stored i d))
    → queue_in now s ≡ longer (queue_in points (get_or stored q d)) p
    → queues_in (set stored q s) now (suc q) ≡ with_point (queues_in stored points (suc q)) q p
set_last points now [] q s d p room same more = absurd (omega arith)
set_last points now (x ∷ xs) zero s d p room same more = ap (λ h. h ∷ []) more
set_last points now (x ∷ xs) (suc q) s d p room same more =
    ap (λ h. h ∷ queues_in (set xs q s) now (suc q)) (same 0 (omega arith))
    ∙ ap (λ t. queue_in points x ∷ t) (set_last points now xs q s d p (omega (arith, room)) (λ i lt. same (suc i) (omega (arith, lt))) more)

pub point_added : (points : List (ℕ × ℕ)) (stored : List Stored) (count used q : ℕ) (s d : Stored) (p : ℕ × ℕ) → count ≤ length stored → q + 1 ≡ count → used < length points → s.id ≡ (get_or stored q d).id → s.start ≡ (get_or stored q d).start → s.size ≡ (get_or stored q d).size + 1 → ArePlaced stored count used
    → queues_in (set stored q s) (set points used p) (suc q) ≡ with_point (queues_in stored points (suc q)) q p
point_added points stored count used q s d p room e space id start size placed =
    let old = get_or stored q d in
    let count_of : s.size ≡ suc old.size = omega (arith, size) in
    let ends = placed.last q d e in
    let taken : take s.size (drop s.start (set points used p)) ≡ take old.size (drop old.start points) ++ p ∷ [] =
    ap (λ n. take n (drop s.start (set points used p))) count_of ∙ ap (λ n. take (suc old.size) (drop n (set points used p))) start ∙ behind points used old.start old.size p ends space in
    let more : queue_in (set points used p) s ≡ longer (queue_in points old) p =
    ap (λ n. record { id = n; points = take s.size (drop s.start (set points used p)) }) id ∙ ap (λ t. record { id = old.id; points = t }) taken in
    set_last points (set points used p) stored q s d p (omega arith)
    (λ i lt. ap (λ t. record { id = (get_or stored i d).id; points = t }) (before points used (get_or stored i d).start (get_or stored i d).size p (placed.parts i d (omega arith))))
    more

pub rising_more : (points : List (ℕ × ℕ)) (p : ℕ × ℕ) → IsRising points → MayFollow points p → p.1 ≤ 2 ^ 24 → IsRising (points ++ p ∷ [])
rising_more points p rising follows small =
    let len = length_append points p in
    record {
      rises = λ j d lt.
          let left = get_or_append_left points (p ∷ []) d j (omega (arith, len)) in
          elim (cases_lt (j + 1) (length points)) [
            | inl below ↦
                let right = get_or_append_left points (p ∷ []) d (j + 1) below in
                subst (λ x. x.0 < (get_or (points ++ p ∷ []) (j + 1) d).0) (sym left) (subst (λ x. (get_or points j d).0 < x.0) (sym right) (rising.rises j d below))
            | inr top ↦
                let right = at_end points p d (j + 1) (omega (arith, len)) in
                subst (λ x. x.0 < (get_or (points ++ p ∷ []) (j + 1) d).0) (sym left) (subst (λ x. (get_or points j d).0 < x.0) (sym right) (follows j d (omega (arith, len))).0)
          ];
      changes = λ j d lt.
          let left = get_or_append_left points (p ∷ []) d j (omega (arith, len)) in
          elim (cases_lt (j + 1) (length points)) [
            | inl below ↦
                let right = get_or_append_left points (p ∷ []) d (j + 1) below in
                subst (λ x. x.1 ≢ (get_or (points ++ p ∷ []) (j + 1) d).1) (sym left) (subst (λ x. (get_or points j d).1 ≢ x.1) (sym right) (rising.changes j d below))
            | inr top ↦
                let right = at_end points p d (j + 1) (omega (arith, len)) in
                subst (λ x. x.1 ≢ (get_or (points ++ p ∷ []) (j + 1) d).1) (sym left) (subst (λ x. (get_or points j d).1 ≢ x.1) (sym right) (follows j d (omega (arith, len))).1)
          ];
      within = λ j d lt. elim (cases_lt j (length points)) [
        | inl below ↦ subst (λ x. x.1 ≤ 2 ^ 24) (sym (get_or_append_left points (p ∷ []) d j below)) (rising.within j d below)
        | inr top ↦ subst (λ x. x.1 ≤ 2 ^ 24) (sym (at_end points p d j (omega (arith, len)))) small
      ];
    }

pub lawful_point : (queues : List Queue) (q : ℕ) (p : ℕ × ℕ) → q + 1 ≡ length queues → MayFollow (queue_at queues q).points p → p.1 ≤ 2 ^ 24 → AreLawful queues → AreLawful (with_point queues q p)
lawful_point queues q p e follows small lawful =
    let more = longer (queue_at queues q) p in
    let len = length_set queues q more in
    let here : (d : Queue) → get_or (set queues q more) q d ≡ more = λ d. get_or-set_same queues q more d (omega arith) in
    let id_of : (k : ℕ) (d : Queue) → k < length queues → (get_or (set queues q more) k d).id ≡ (get_or queues k d).id = λ k d lt.
    elim (cases_lt k q) [
      | inl below ↦
          let other : k ≢ q = omega arith in
          ap (λ (x : Queue). x.id) (get_or-set_other queues q k more d other)
      | inr top ↦
          let same : q ≡ k = omega arith in
          subst (λ n. (get_or (set queues q more) n d).id ≡ (get_or queues n d).id) same
          (ap (λ (x : Queue). x.id) (here d) ∙ ap (λ (x : Queue). x.id) (get_or_default queues q no_queue d (omega arith)))
    ] in
    record {
      ids = λ i j d lt within.
          let inside : j < length queues = omega (arith, len) in
          subst (λ x. x ≢ (get_or (set queues q more) j d).id) (sym (id_of i d (omega arith))) (subst (λ x. (get_or queues i d).id ≢ x) (sym (id_of j d inside)) (lawful.ids i j d lt inside));
      points = λ i d within. elim (cases_lt i q) [
        | inl below ↦
            let other : i ≢ q = omega arith in
            subst (λ (x : Queue). IsRising x.points) (sym (get_or-set_other queues q i more d other)) (lawful.points i d (omega (arith, len)))
        | inr top ↦
            let same : q ≡ i = omega (arith, len) in
            subst (λ n. IsRising (get_or (set queues q more) n d).points) same
            (subst (λ (x : Queue). IsRising x.points) (sym (here d)) (rising_more (queue_at queues q).points p (lawful.points q no_queue (omega arith)) follows small))
      ];
    }

pub length_queues : (points : List (ℕ × ℕ)) (stored : List Stored) (count : ℕ) → count ≤ length stored → length (queues_in stored points count) ≡ count
length_queues points stored zero room = refl
length_queues points [] (suc count) room = absurd (omega arith)
length_queues points (x ∷ xs) (suc count) room = ap (λ n. suc n) (length_queues points xs count (omega (arith, room)))

pub point_in : (points : List (ℕ × ℕ)) (stored : List Stored) (count used q : ℕ) (s d : Stored) (p : ℕ × ℕ) → count ≤ length stored → q + 1 ≡ count → used < length points → s.id ≡ (get_or stored q d).id → s.start ≡ (get_or stored q d).start → s.size ≡ (get_or stored q d).size + 1 → ArePlaced stored count used
    → queues_in (set stored q s) (set points used p) count ≡ with_point (queues_in stored points count) q p
point_in points stored count used q s d p room e space id start size placed =
    let top : suc q ≡ count = omega (arith, e) in
    subst (λ n. queues_in (set stored q s) (set points used p) n ≡ with_point (queues_in stored points n) q p) top (point_added points stored count used q s d p room e space id start size placed)

pub queue_added : (points : List (ℕ × ℕ)) (stored : List Stored) (count : ℕ) (s : Stored) → count < length stored → queues_in (set stored count s) points (count + 1) ≡ queues_in stored points count ++ queue_in points s ∷ []
queue_added points stored count s room =
    let top : suc count ≡ count + 1 = omega arith in
    subst (λ n. queues_in (set stored count s) points n ≡ queues_in stored points count ++ queue_in points s ∷ []) top (queues_more points stored count s room)

-- the ids of the queues are those that are stored
module _ (points : List (ℕ × ℕ)) (stored : List Stored) (count : ℕ) (id : ℕ) where
  id_of : (i : ℕ) (d : Queue) (e : Stored) → i < length (take count stored) → (get_or (queues_in stored points count) i d).id ≡ (get_or (take count stored) i e).id
  id_of i d e lt = ap (λ (q : Queue). q.id) (get_or-map (queue_in points) (take count stored) i e d lt)

  pub lacks_from : ((i : ℕ) (e : Stored) → i < length (take count stored) → (get_or (take count stored) i e).id ≢ id) → LacksId (queues_in stored points count) id
  lacks_from each = λ i d lt same.
      let e : Stored = record { id = 0; start = 0; size = 0 } in
      let within : i < length (take count stored) = omega (arith, length-map (take count stored) (queue_in points)) in
      each i e within (sym (id_of i d e within) ∙ same)

  pub lacks_stored : LacksId (queues_in stored points count) id → (i : ℕ) (e : Stored) → i < length (take count stored) → (get_or (take count stored) i e).id ≢ id
  lacks_stored lacks = λ i e lt same. lacks i no_queue (omega (arith, length-map (take count stored) (queue_in points))) (id_of i no_queue e lt ∙ same)

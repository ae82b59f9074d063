-- Points that are added.
use Rattle.std.proofs.Common.{◌≡◌, ℕ, zero, suc, ◌+◌, ◌<◌, true, false, nat_eq, nat_lt, List, [], ◌∷◌, ◌++◌, length, get_or, set, All, refl, sym, subst, ◌∙◌, arith}
use Rattle.std.proofs.lemmas.Bool.{eqb-true, eq-eqb, true≢false, ltb-true, ltb-false}
use Rattle.std.proofs.lemmas.List.{get_or-set_same, get_or-set_other, length-set, length-append, get_or_append_left, get_or-append-add}
use Rattle.vh_points.specs.Queues.{Queue, queue_at, no_queue, longer, with_point}
use Rattle.builtin_bench.specs.Filled.{IsFilled}

all_set : (P : Queue → Type 0) (queues : List Queue) (q : ℕ) (queue : Queue) → All P queues → P queue → All P (set queues q queue)
all_set P queues q queue are is k d lt =
    elim (nat_eq k q) as (λ t. nat_eq k q ≡ t → P (get_or (set queues q queue) k d)) [
      | true ↦ λ test.
          let here : q ≡ k = sym (eqb-true k q test) in
          let inside : q < length queues = omega (arith, lt, here, length-set queues q queue) in
          subst (λ j. P (get_or (set queues q queue) j d)) here (subst P (sym (get_or-set_same queues q queue d inside)) is)
      | false ↦ λ test. subst P (sym (get_or-set_other queues q k queue d (λ same. true≢false (sym (eq-eqb k q same) ∙ test)))) (are k d (omega (arith, lt, length-set queues q queue)))
    ] refl

all_last : (n : ℕ) (points : List (ℕ × ℕ)) (point : ℕ × ℕ) → All (λ p. p.0 < n) points → point.0 < n → All (λ p. p.0 < n) (points ++ point ∷ [])
all_last n points point are is k d lt =
    elim (nat_lt k (length points)) as (λ t. nat_lt k (length points) ≡ t → (get_or (points ++ point ∷ []) k d).0 < n) [
      | true ↦ λ test. subst (λ (p : ℕ × ℕ). p.0 < n) (sym (get_or_append_left points (point ∷ []) d k (ltb-true k (length points) test))) (are k d (ltb-true k (length points) test))
      | false ↦ λ test.
          let e = length-append points (point ∷ []) in
          let here : length points + 0 ≡ k = omega (arith, ltb-false k (length points) test, lt, e) in
          subst (λ j. (get_or (points ++ point ∷ []) j d).0 < n) here (subst (λ (p : ℕ × ℕ). p.0 < n) (sym (get_or-append-add points (point ∷ []) 0 d)) is)
    ] refl

pub filled_more : (n : ℕ) (queues : List Queue) (q offset value : ℕ) → IsFilled n queues → q < length queues → offset < n → IsFilled n (with_point queues q (offset, value))
filled_more n queues q offset value is inside lt = record {
  ids = all_set (λ queue. queue.id ≡ 0) queues q (longer (queue_at queues q) (offset, value)) is.ids (is.ids q no_queue inside);
  offsets = all_set (λ queue. All (λ point. point.0 < n) queue.points) queues q (longer (queue_at queues q) (offset, value)) is.offsets (all_last n (queue_at queues q).points (offset, value) (is.offsets q no_queue inside) lt);
}

pub filled_first : (n : ℕ) (queues : List Queue) → queues ≡ record { id = 0; points = [] } ∷ [] → IsFilled n queues
filled_first n queues is = subst (λ (qs : List Queue). IsFilled n qs) (sym is) (record { ids = one; offsets = none })
  where
    one : (k : ℕ) (d : Queue) → k < 1 → (get_or (record { id = 0; points = [] } ∷ []) k d).id ≡ 0
    one zero d lt = refl
    one (suc k) d lt = absurd (omega (arith, lt))

    none : (k : ℕ) (d : Queue) → k < 1 → All (λ point. point.0 < n) (get_or (record { id = 0; points = [] } ∷ []) k d).points
    none zero d lt i e within = absurd (omega (arith, within))
    none (suc k) d lt i e within = absurd (omega (arith, lt))

pub filled_none : (n : ℕ) (queues : List Queue) → queues ≡ [] → IsFilled n queues
filled_none n queues is = subst (λ (qs : List Queue). IsFilled n qs) (sym is) (record { ids = λ k d lt. absurd (omega (arith, lt)); offsets = λ k d lt. absurd (omega (arith, lt)) })

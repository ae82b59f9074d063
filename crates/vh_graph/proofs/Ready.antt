-- Where no node is on a cycle, one of those that don't stand is ready, so there is an order.
use Rattle.std.proofs.Common.{◌≡◌, ◌⊎◌, inl, inr, ◌∙◌, ℕ, zero, suc, ◌+◌, ◌<◌, ◌≤◌, true, false, List, [], ◌∷◌, ◌++◌, length, get_or, refl, sym, subst, arith, true≢false, map, cond, ◌==◌}
use Rattle.std.specs.Prelude.{◌↔◌, Contains, ◌||◌, All, filter}
use Rattle.std.specs.List.{list_any, IsDistinct, AllByRecursion}
use Rattle.std.proofs.Math.Dec.{eqb}
use Rattle.std.proofs.lemmas.Bool.{eqb-true, cases_lt}
use Rattle.std.proofs.lemmas.List.Elements.{Contains-push, Contains-append_left, Contains-push_cases}
use Rattle.std.proofs.lemmas.Cmp.{nat_eq_equiv}
use Rattle.std.proofs.lemmas.Map.Steps.{length-le_from_distinct_below}
use Rattle.std.proofs.lemmas.Map.Views.{Contains-from_any, list_any-from_Contains}
use Rattle.vh_graph.specs.Paths.{sources_of, Leads, IsOnCycle}
use Rattle.vh_graph.specs.Laws.{OrderExactlyWithoutCycle}
use Rattle.vh_graph.specs.Order.{IsReady, IsNext, IsOrderAfter}
use Rattle.vh_graph.proofs.After.{order_has_no_cycle}

listed : (xs : List ℕ) (q : ℕ) → list_any (eqb q) xs ≡ true → Contains xs q
listed xs q e = Contains-from_any (λ x y same. eqb-true x y same) q xs e

pub has : (xs : List ℕ) (q : ℕ) → Contains xs q ⊎ (list_any (eqb q) xs ≡ false)
has xs q = elim (list_any (eqb q) xs) as (λ t. list_any (eqb q) xs ≡ t → Contains xs q ⊎ (list_any (eqb q) xs ≡ false)) [
  | true ↦ λ e. inl (listed xs q e)
  | false ↦ λ e. inr e
] refl

pub lacks : (xs : List ℕ) (q : ℕ) → list_any (eqb q) xs ≡ false → ¬ Contains xs q
lacks xs q none is = true≢false (sym (list_any-from_Contains nat_eq_equiv q xs is) ∙ none)

pub other : (xs : List ℕ) (q : ℕ) → list_any (eqb q) xs ≡ false → AllByRecursion (λ y. eqb q y ≡ false) xs
other [] q none = search
other (x ∷ xs) q none = elim (eqb q x) as (λ t. eqb q x ≡ t → (t || list_any (eqb q) xs) ≡ false → AllByRecursion (λ y. eqb q y ≡ false) (x ∷ xs)) [
  | true ↦ λ e h. absurd (true≢false h)
  | false ↦ λ e h. (e, other xs q h)
] refl none

-- a list with no two equal numbers, and no number at or above n
pub record IsWithin (n : ℕ) (xs : List ℕ) : Type 0 where
  pub apart : IsDistinct eqb xs
  pub below : (q : ℕ) → Contains xs q → q < n

pub within_length : (n : ℕ) (xs : List ℕ) → IsWithin n xs → length xs ≤ n
within_length n xs is = length-le_from_distinct_below xs n is.apart (λ q e. is.below q (listed xs q e))

at : (x : ℕ) (xs : List ℕ) (q k : ℕ) → k < suc (length xs) → get_or (x ∷ xs) k q ≡ q → (x ≡ q) ⊎ Contains xs q
at x xs q zero lt is = inl is
at x xs q (suc k) lt is = inr (k, (let l : k < length xs = omega (arith, lt) in l), is)

pub either : (x : ℕ) (xs : List ℕ) (q : ℕ) → Contains (x ∷ xs) q → (x ≡ q) ⊎ Contains xs q
either x xs q is = at x xs q is.0 is.1 is.2

pub later : (x : ℕ) (xs : List ℕ) (q : ℕ) → Contains xs q → Contains (x ∷ xs) q
later x xs q is = (suc is.0, (let l = is.1 in let g : suc is.0 < suc (length xs) = omega (arith, l) in g), is.2)

pub first : (x : ℕ) (xs : List ℕ) → Contains (x ∷ xs) x
first x xs = (0, omega arith, refl)

pub within_cons : (n : ℕ) (xs : List ℕ) (x : ℕ) → IsWithin n xs → x < n → list_any (eqb x) xs ≡ false → IsWithin n (x ∷ xs)
unfolding IsDistinct
within_cons n xs x is lt none = record {
  apart = (other xs x none, is.apart);
  below = λ q within. elim (either x xs q within) [
    | inl same ↦ subst (λ m. m < n) same lt
    | inr rest ↦ is.below q rest
  ];
}

-- a source that doesn't stand, where there is one
missing : (placed xs : List ℕ) → ((s : ℕ) × Contains xs s × (¬ Contains placed s)) ⊎ ((s : ℕ) → Contains xs s → Contains placed s)
missing placed [] = inr (λ s is. absurd (let l = is.1 in omega (arith, l)))
missing placed (x ∷ xs) = elim (has placed x) [
  | inr none ↦ inl (x, first x xs, lacks placed x none)
  | inl stands ↦ elim (missing placed xs) [
    | inl one ↦ inl (one.0, later x xs one.0 one.1, one.2)
    | inr all ↦ inr (λ s is. elim (either x xs s is) [
      | inl same ↦ subst (λ y. Contains placed y) same stands
      | inr rest ↦ all s rest
    ])
  ]
]

-- a path that begins one wire earlier
pub ahead : (wires : List (ℕ × ℕ)) (long s x q : ℕ) → Leads wires long x q → Contains (sources_of wires x) s → (n : ℕ) × Leads wires (suc n) s q
ahead wires zero s x q path wire = (zero, (s, refl, subst (λ y. Contains (sources_of wires y) s) path wire))
ahead wires (suc long) s x q path wire =
    let rest = ahead wires long s x path.0 path.1 wire in
    (suc rest.0, (path.0, rest.1, path.2))

-- what leads to all nodes of a trail, each of them a source of the next, is ready, or has a source that leads to them
walk : (nodes : ℕ) (wires : List (ℕ × ℕ)) (placed : List ℕ) → ((node source : ℕ) → Contains (sources_of wires node) source → source < nodes)
    → ((node : ℕ) → ¬ IsOnCycle wires node)
    → (fuel x : ℕ) (trail : List ℕ) → nodes < fuel + suc (length trail) → IsWithin nodes (x ∷ trail) → ¬ Contains placed x
    → ((q : ℕ) → Contains (x ∷ trail) q → (long : ℕ) × Leads wires long x q) → (node : ℕ) × IsReady nodes wires placed node
walk nodes wires placed ends free zero x trail most within stands led = absurd (let le = within_length nodes (x ∷ trail) within in omega (arith, most, le))
walk nodes wires placed ends free (suc fuel) x trail most within stands led = elim (missing placed (sources_of wires x)) [
  | inr all ↦ (x, record { within = within.below x (first x trail); missing = stands; sources = all })
  | inl one ↦
      let s = one.0 in
      elim (has (x ∷ trail) s) [
        | inl back ↦ absurd (free s (let path = led s back in ahead wires path.0 s x s path.1 one.1))
        | inr new ↦ walk nodes wires placed ends free fuel s (x ∷ trail) (omega (arith, most)) (within_cons nodes (x ∷ trail) s within (ends x s one.1) new) one.2
            (λ q is. elim (either s (x ∷ trail) q is) [
              | inl same ↦ (0, same)
              | inr rest ↦ let path = led q rest in let more = ahead wires path.0 s x q path.1 one.1 in (suc more.0, more.1)
            ])
      ]
]

within_none : (nodes : ℕ) → IsWithin nodes []
unfolding IsDistinct
within_none nodes = record { apart = search; below = λ q is. absurd (let l = is.1 in omega (arith, l)) }

pub some_ready : (nodes : ℕ) (wires : List (ℕ × ℕ)) (placed : List ℕ) → ((node source : ℕ) → Contains (sources_of wires node) source → source < nodes)
    → ((node : ℕ) → ¬ IsOnCycle wires node) → (x : ℕ) → x < nodes → ¬ Contains placed x → (node : ℕ) × IsReady nodes wires placed node
some_ready nodes wires placed ends free x lt stands =
    walk nodes wires placed ends free nodes x [] (omega arith) (within_cons nodes [] x (within_none nodes) lt refl) stands
    (λ q is. elim (either x [] q is) [
      | inl same ↦ (0, same)
      | inr rest ↦ absurd (let l = rest.1 in omega (arith, l))
    ])

ready_or_not : (nodes : ℕ) (wires : List (ℕ × ℕ)) (placed : List ℕ) (x : ℕ) → x < nodes → IsReady nodes wires placed x ⊎ (¬ IsReady nodes wires placed x)
ready_or_not nodes wires placed x lt = elim (has placed x) [
  | inl stands ↦ inr (λ ready. ready.missing stands)
  | inr none ↦ elim (missing placed (sources_of wires x)) [
    | inl one ↦ inr (λ ready. one.2 (ready.sources one.0 one.1))
    | inr all ↦ inl (record { within = lt; missing = lacks placed x none; sources = all })
  ]
]

least : (nodes : ℕ) (wires : List (ℕ × ℕ)) (placed : List ℕ) (k : ℕ) → k ≤ nodes → ((node : ℕ) × IsNext nodes wires placed node) ⊎ ((x : ℕ) → x < k → ¬ IsReady nodes wires placed x)
least nodes wires placed zero le = inr (λ x lt. absurd (omega (arith, lt)))
least nodes wires placed (suc k) le = elim (least nodes wires placed k (omega (arith, le))) [
  | inl one ↦ inl one
  | inr none ↦ elim (ready_or_not nodes wires placed k (omega (arith, le))) [
    | inl ready ↦ inl (
      k,
      record {
        ready = ready;
        least = λ x is. elim (cases_lt x k) [
          | inl lt ↦ absurd (none x lt is)
          | inr ge ↦ ge
        ];
      },
    )
    | inr not ↦ inr (λ x lt is. elim (cases_lt x k) [
      | inl before ↦ none x before is
      | inr ge ↦ not (let same : k ≡ x = omega (arith, ge, lt) in subst (λ y. IsReady nodes wires placed y) (sym same) is)
    ])
  ]
]

-- what doesn't stand yet, among the first numbers
open_below : (placed : List ℕ) (k : ℕ) → ((x : ℕ) × (x < k) × (list_any (eqb x) placed ≡ false)) ⊎ ((x : ℕ) → x < k → Contains placed x)
open_below placed zero = inr (λ x lt. absurd (omega (arith, lt)))
open_below placed (suc k) = elim (open_below placed k) [
  | inl one ↦ inl (one.0, (let l = one.1 in omega (arith, l)), one.2)
  | inr all ↦ elim (has placed k) [
    | inr none ↦ inl (k, omega arith, none)
    | inl stands ↦ inr (λ x lt. elim (cases_lt x k) [
      | inl before ↦ all x before
      | inr ge ↦ let same : k ≡ x = omega (arith, ge, lt) in subst (λ y. Contains placed y) same stands
    ])
  ]
]

-- the nodes that stand, each once
pub record IsStanding (nodes : ℕ) (placed once : List ℕ) : Type 0 where
  pub within : IsWithin nodes once
  pub same : (x : ℕ) → Contains once x ↔ Contains placed x

pub standing_more : (nodes : ℕ) (placed once : List ℕ) (x : ℕ) → IsStanding nodes placed once → x < nodes → ¬ Contains placed x → IsStanding nodes (placed ++ x ∷ []) (x ∷ once)
standing_more nodes placed once x are lt new = record {
  within = within_cons nodes once x are.within lt (elim (has once x) [
    | inl is ↦ absurd (new ((are.same x).0 is))
    | inr none ↦ none
  ]);
  same = λ y. (
    (λ is. elim (either x once y is) [
      | inl same ↦ subst (λ z. Contains (placed ++ x ∷ []) z) same (Contains-push placed x)
      | inr rest ↦ Contains-append_left placed (x ∷ []) y ((are.same y).0 rest)
    ]),
    (λ is. elim (Contains-push_cases placed x y is) [
      | inl rest ↦ later x once y ((are.same y).1 rest)
      | inr same ↦ subst (λ z. Contains (x ∷ once) z) same (first x once)
    ]),
  );
}

next_of : (nodes : ℕ) (wires : List (ℕ × ℕ)) (placed : List ℕ) → ((node source : ℕ) → Contains (sources_of wires node) source → source < nodes) → ((node : ℕ) → ¬ IsOnCycle wires node)
    → ((x : ℕ) → x < nodes → Contains placed x) ⊎ ((node : ℕ) × IsNext nodes wires placed node)
next_of nodes wires placed ends free = elim (open_below placed nodes) [
  | inr all ↦ inl all
  | inl one ↦ elim (least nodes wires placed nodes (omega arith)) [
    | inl next ↦ inr next
    | inr none ↦ let ready = some_ready nodes wires placed ends free one.0 one.1 (lacks placed one.0 one.2) in absurd (none ready.0 ready.1.within ready.1)
  ]
]

order_after : (nodes : ℕ) (wires : List (ℕ × ℕ)) → ((node source : ℕ) → Contains (sources_of wires node) source → source < nodes) → ((node : ℕ) → ¬ IsOnCycle wires node)
    → (fuel : ℕ) (placed once : List ℕ) → nodes < fuel + suc (length once) → IsStanding nodes placed once → (order : List ℕ) × IsOrderAfter nodes wires placed order
order_after nodes wires ends free zero placed once most are = elim (next_of nodes wires placed ends free) [
  | inl all ↦ ([], all)
  | inr next ↦ absurd (let le = within_length nodes (next.0 ∷ once) (standing_more nodes placed once next.0 are next.1.ready.within next.1.ready.missing).within in omega (arith, most, le))
]
order_after nodes wires ends free (suc fuel) placed once most are = elim (next_of nodes wires placed ends free) [
  | inl all ↦ ([], all)
  | inr next ↦
      let rest = order_after nodes wires ends free fuel (placed ++ next.0 ∷ []) (next.0 ∷ once) (omega (arith, most)) (standing_more nodes placed once next.0 are next.1.ready.within next.1.ready.missing) in
      (next.0 ∷ rest.0, (next.1, rest.1))
]

pub standing_none : (nodes : ℕ) → IsStanding nodes [] []
standing_none nodes = record {
  within = within_none nodes;
  same = λ x. (λ is. is, λ is. is);
}

-- both ends of a wire are nodes
pub ends_below : (nodes : ℕ) (wires : List (ℕ × ℕ)) → All (λ wire. (wire.0 < nodes) × (wire.1 < nodes)) wires → (node s : ℕ) → Contains (sources_of wires node) s → (s < nodes) × (node < nodes)
ends_below nodes [] all node s is = absurd (let l = is.1 in omega (arith, l))
ends_below nodes (w ∷ ws) all node s is =
    elim (w.1 == node) as (λ t. (w.1 == node) ≡ t → Contains (map (λ (x : ℕ × ℕ). x.0) (cond t (w ∷ filter (λ (x : ℕ × ℕ). x.1 == node) ws) (filter (λ (x : ℕ × ℕ). x.1 == node) ws))) s → (s < nodes) × (node < nodes)) [
      | true ↦ λ test here. elim (either w.0 (sources_of ws node) s here) [
        | inl same ↦ (subst (λ n. n < nodes) same (all 0 w (omega arith)).0, subst (λ n. n < nodes) (eqb-true w.1 node test) (all 0 w (omega arith)).1)
        | inr rest ↦ ends_below nodes ws (λ k d lt. all (suc k) d (omega (arith, lt))) node s rest
      ]
      | false ↦ λ test here. ends_below nodes ws (λ k d lt. all (suc k) d (omega (arith, lt))) node s here
    ] refl is

pub law_order : OrderExactlyWithoutCycle
law_order nodes wires ends = (
  (λ order node cycle. order_has_no_cycle nodes wires order.0 order.1 node (ends_below nodes wires ends node cycle.1.0 cycle.1.2).1 cycle),
  (λ free. order_after nodes wires (λ node s is. (ends_below nodes wires ends node s is).0) free nodes [] [] (omega arith) (standing_none nodes)),
)

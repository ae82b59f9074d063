-- A search reads a source of its last part.
use Rattle.std.proofs.Common.{◌≡◌, ◌⊎◌, inl, inr, ◌∙◌, ◌↔◌, ℕ, zero, suc, ◌+◌, ◌-◌, ◌<◌, ◌≤◌, Bool, List, [], ◌∷◌, ◌++◌, length, get_or, refl, sym, ap, subst, arith}
use Rattle.std.specs.Prelude.{Contains}
use Rattle.std.proofs.lemmas.Bool.{cases_lt}
use Rattle.std.proofs.lemmas.List.{get_or_append_left, get_or-take, length-append, length-take-le}
use Rattle.vh_graph.specs.declared.search.Part.{Part}
use Rattle.vh_graph.specs.declared.search.Place.{Place}
use Rattle.vh_graph.specs.declared.search.Place.TheVariants.{Open, Closed}
use Rattle.vh_graph.specs.Paths.{sources_of, Leads}
use Rattle.vh_graph.specs.Steps.{part_of, IsJoined}
use Rattle.vh_graph.proofs.Cycles.{joined}
use Rattle.vh_graph.proofs.Searching.{at, place, from, rest, IsSearching, one_of, at_end}

-- the last of what is to be read is pending
pub popped : (wires : List (ℕ × ℕ)) (places : List Place) (path : List ℕ) (parts : List Part) (unread : List ℕ) (s : ℕ) → IsSearching wires places path parts (unread ++ s ∷ []) []
    → ((k : ℕ) → k < length parts → rest parts k ≤ length unread) → IsSearching wires places path parts unread (s ∷ [])
popped wires places path parts unread s is fits =
    let long : length (unread ++ s ∷ []) ≡ suc (length unread) = length-append unread (s ∷ []) ∙ (let e : length unread + 1 ≡ suc (length unread) = omega arith in e) in
    record {
      stands = is.stands;
      open_at = is.open_at;
      begun = is.begun;
      ends = λ k l. ((is.ends k l).0, fits k l);
      rising = is.rising;
      closed = is.closed;
      cycles = is.cycles;
      read = λ i x l wire. elim (is.read i x l wire) [
        | inl one ↦ inl one
        | inr more ↦ elim more [
          | inl one ↦ inr (inl one)
          | inr further ↦ elim further [
            | inl waits ↦ elim (cases_lt waits.0 (length unread)) [
              | inl before ↦ inr (inr (inl (waits.0, before, sym (get_or_append_left unread (s ∷ []) 0 waits.0 before) ∙ waits.2, waits.3)))
              | inr last ↦
                  let lt = waits.1 in
                  let here : length unread ≡ waits.0 = omega (arith, last, lt, long) in
                  let same : s ≡ x = sym (at_end unread s) ∙ ap (λ t. at (unread ++ s ∷ []) t) here ∙ waits.2 in
                  inr (inr (inr (0, omega arith, same)))
            ]
            | inr none ↦ absurd (let l = none.1 in omega (arith, l))
          ]
        ]
      ];
      owed = λ t l.
          let one = is.owed t (omega (arith, l, long)) in
          (one.0, one.1, subst (λ x. Contains (sources_of wires (at path one.0)) x) (get_or_append_left unread (s ∷ []) 0 t l) one.2, one.3);
      led = is.led;
    }

-- a pending source that is closed
pub passed : (wires : List (ℕ × ℕ)) (places : List Place) (path : List ℕ) (parts : List Part) (unread : List ℕ) (s : ℕ) (c : Bool) → IsSearching wires places path parts unread (s ∷ [])
    → place places s ≡ Closed c → IsSearching wires places path parts unread []
passed wires places path parts unread s c is closed = record {
  stands = is.stands;
  open_at = is.open_at;
  begun = is.begun;
  ends = is.ends;
  rising = is.rising;
  closed = is.closed;
  cycles = is.cycles;
  read = λ i x l wire. elim (is.read i x l wire) [
    | inl one ↦ inl one
    | inr more ↦ elim more [
      | inl one ↦ inr (inl one)
      | inr further ↦ elim further [
        | inl waits ↦ inr (inr (inl waits))
        | inr pending ↦ inl (c, ap (λ y. place places y) (sym (one_of s x pending)) ∙ closed)
      ]
    ]
  ];
  owed = is.owed;
  led = is.led;
}

-- what a part begins between two places, or no part does
parted : (parts : List Part) (n i j : ℕ) → ((k : ℕ) → k < n → from parts k ≤ i → from parts k ≤ j) ⊎ ((k : ℕ) × (k < n) × (from parts k ≤ i) × (j < from parts k))
parted parts zero i j = inl (λ k l h. absurd (omega (arith, l)))
parted parts (suc n) i j = elim (parted parts n i j) [
  | inr one ↦ inr (one.0, (let l = one.1 in omega (arith, l)), one.2, one.3)
  | inl all ↦ elim (cases_lt j (from parts n)) [
    | inl lt ↦ elim (cases_lt i (from parts n)) [
      | inl before ↦ inl (λ k l h. elim (cases_lt k n) [
        | inl under ↦ all k under h
        | inr over ↦ absurd (let same : k ≡ n = omega (arith, over, l) in let g = subst (λ m. from parts m ≤ i) same h in omega (arith, g, before))
      ])
      | inr ge ↦ inr (n, omega arith, ge, lt)
    ]
    | inr ge ↦ inl (λ k l h. elim (cases_lt k n) [
      | inl under ↦ all k under h
      | inr over ↦ let same : n ≡ k = omega (arith, over, l) in subst (λ m. from parts m ≤ j) same ge
    ])
  ]
]

pub rejoined : (wires : List (ℕ × ℕ)) (places : List Place) (path : List ℕ) (parts after : List Part) (unread : List ℕ) (s j u : ℕ) → IsSearching wires places path parts unread (s ∷ [])
    → place places s ≡ Open j → IsJoined j parts after → u < length path → Contains (sources_of wires (at path u)) s → ((k : ℕ) → k < length parts → from parts k ≤ u)
    → IsSearching wires places path after unread []
rejoined wires places path parts after unread s j u is opened are within wire behind =
    let n = are.kept.0 in
    let fits : n ≤ length parts = are.kept.1 in
    let long : length after ≡ n = ap (λ ps. length ps) are.kept.2 ∙ length-take-le n parts fits in
    let old : (k : ℕ) → k < n → get_or after k (part_of 0 0) ≡ get_or parts k (part_of 0 0) = λ k l. ap (λ ps. get_or ps k (part_of 0 0)) are.kept.2 ∙ get_or-take n parts k (part_of 0 0) l in
    let past : (k : ℕ) → n ≤ k → k < length parts → j < from parts k = λ k ge l. are.kept.3 k (part_of 0 0) ge l in
    let upto : (k : ℕ) → k < n → from parts k ≤ j = λ k l.
    let some : 0 < length after = omega (arith, l, long) in
    let last : from parts (n - 1) ≤ j = subst (λ (q : Part). q.node ≤ j) (old (n - 1) (omega (arith, l))) (subst (λ m. (get_or after (m - 1) (part_of 0 0)).node ≤ j) long (are.upto (part_of 0 0) some)) in
    elim (cases_lt k (n - 1)) [
      | inl before ↦ let e = (is.rising k (n - 1) before (omega (arith, l, fits))).0 in omega (arith, e, last)
      | inr here ↦ let same : n - 1 ≡ k = omega (arith, here, l) in subst (λ m. from parts m ≤ j) same last
    ] in
    let kept : (P : Part → Type 0) → ((k : ℕ) → k < length parts → P (get_or parts k (part_of 0 0))) → (k : ℕ) → k < length after → P (get_or after k (part_of 0 0)) =
    λ P all k l. subst (λ (q : Part). P q) (sym (old k (omega (arith, l, long)))) (all k (omega (arith, l, long, fits))) in
    let place_of = is.open_at s j opened in
    record {
      stands = is.stands;
      open_at = is.open_at;
      begun = λ i l.
          let one = is.begun i l in
          let found : (k : ℕ) → k < n → from parts k ≤ i → (k : ℕ) × (k < length after) × (from after k ≤ i) = λ k kl h. (k, omega (arith, kl, long), subst (λ (q : Part). q.node ≤ i) (sym (old k kl)) h) in
          elim (cases_lt one.0 n) [
            | inl under ↦ found one.0 under one.2
            | inr over ↦
                let two = is.begun j place_of.0 in
                let tl = two.2 in
                let under : two.0 < n = elim (cases_lt two.0 n) [
                  | inl lt ↦ lt
                  | inr ge ↦ absurd (let g = past two.0 ge two.1 in omega (arith, g, tl))
                ] in
                found two.0 under (let g = past one.0 over one.1 in let h = one.2 in omega (arith, g, h, tl))
          ];
      ends = kept (λ q. (q.node < length path) × (q.unread ≤ length unread)) is.ends;
      rising = λ k m lt l.
          let ml : m < n = omega (arith, l, long) in
          let kl : k < n = omega (arith, lt, ml) in
          subst (λ (q : Part). (q.node < from after m) × (q.unread ≤ rest after m)) (sym (old k kl)) (subst (λ (q : Part). (from parts k < q.node) × (rest parts k ≤ q.unread)) (sym (old m ml)) (is.rising k m lt (omega (arith, ml, fits))));
      closed = is.closed;
      cycles = is.cycles;
      read = λ i x l reads. elim (is.read i x l reads) [
        | inl one ↦ inl one
        | inr more ↦ elim more [
          | inl one ↦ inr (inl (one.0, one.1, kept (λ q. q.node ≤ i → q.node ≤ one.0) one.2))
          | inr further ↦ elim further [
            | inl waits ↦ inr (inr (inl (waits.0, waits.1, waits.2, kept (λ q. q.node ≤ i → q.unread ≤ waits.0) waits.3)))
            | inr pending ↦ inr (inl (j, ap (λ y. place places y) (sym (one_of s x pending)) ∙ opened, λ k kl h. subst (λ (q : Part). q.node ≤ j) (sym (old k (omega (arith, kl, long)))) (upto k (omega (arith, kl, long)))))
          ]
        ]
      ];
      owed = λ t l. let one = is.owed t l in (one.0, one.1, one.2, kept (λ q. (q.node ≤ one.0) ↔ (q.unread ≤ t)) one.3);
      led = λ a b al bl premise.
          let old_premise : (k : ℕ) → k < n → from parts k ≤ a → from parts k ≤ b = λ k kl h.
          subst (λ (q : Part). q.node ≤ b) (old k kl) (premise k (omega (arith, kl, long)) (subst (λ (q : Part). q.node ≤ a) (sym (old k kl)) h)) in
          elim (parted parts (length parts) a b) [
            | inl all ↦ is.led a b al bl all
            | inr one ↦
                let m = one.0 in
                let ml = one.1 in
                let low = one.2 in
                let high = one.3 in
                let gone : n ≤ m = elim (cases_lt m n) [
                  | inl under ↦ absurd (let g = old_premise m under low in omega (arith, g, high))
                  | inr over ↦ over
                ] in
                let far = past m gone ml in
                -- from b to the source, over the wire, and on to a
                let back = is.led j b place_of.0 bl (λ k kl h. elim (cases_lt k n) [
                  | inl under ↦ old_premise k under (omega (arith, h, far, low))
                  | inr over ↦ absurd (let g = past k over kl in omega (arith, g, h))
                ]) in
                let on = is.led a u al within (λ k kl h. behind k kl) in
                let over : (long : ℕ) × Leads wires long s (at path u) = (1, (s, refl, wire)) in
                let to_s : Leads wires back.0 (at path b) s = subst (λ x. Leads wires back.0 (at path b) x) place_of.1 back.1 in
                let first = joined wires back.0 over.0 (at path b) s (at path u) to_s over.1 in
                joined wires first.0 on.0 (at path b) (at path u) (at path a) first.1 on.1
          ];
    }

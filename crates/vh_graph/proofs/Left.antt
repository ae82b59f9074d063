-- A search leaves its last part, all of whose sources it has read.
use Rattle.std.proofs.Common.{◌≡◌, ◌≢◌, ◌⊎◌, inl, inr, ◌∙◌, ◌↔◌, ℕ, zero, suc, ◌+◌, ◌-◌, ◌<◌, ◌≤◌, Bool, true, false, List, [], take, drop, length, get_or, refl, sym, ap, subst, arith}
use Rattle.std.specs.Prelude.{Contains}
use Rattle.std.proofs.lemmas.Bool.{cases_lt}
use Rattle.std.proofs.lemmas.List.{get_or-take, get_or-drop, get_or_default, length-drop, length-take-le}
use Rattle.vh_graph.specs.declared.search.Part.{Part}
use Rattle.vh_graph.specs.declared.search.Place.{Place}
use Rattle.vh_graph.specs.declared.search.Place.TheVariants.{Unseen, Open, Closed}
use Rattle.vh_graph.specs.Paths.{sources_of, Leads, IsOnCycle}
use Rattle.vh_graph.specs.Steps.{part_of, IsClosed}
use Rattle.vh_graph.proofs.Cycles.{on_cycle}
use Rattle.vh_graph.proofs.Ready.{has, lacks}
use Rattle.vh_graph.proofs.Searching.{at, place, from, rest, IsSearching, same_open, not_both, cycle_of}

pub in_drop : (path : List ℕ) (b x : ℕ) → Contains (drop b path) x → (i : ℕ) × (b ≤ i) × (i < length path) × (at path i ≡ x)
in_drop path b x is =
    let q = is.0 in
    let ql = is.1 in
    let long = length-drop b path in
    let lt : b + q < length path = omega (arith, ql, long) in
    (b + q, omega arith, lt, get_or_default path (b + q) 0 x lt ∙ sym (get_or-drop b path q x) ∙ is.2)

pub to_drop : (path : List ℕ) (b i : ℕ) → b ≤ i → i < length path → Contains (drop b path) (at path i)
to_drop path b i le lt =
    let long = length-drop b path in
    let back : b + (i - b) ≡ i = omega (arith, le) in
    (i - b, omega (arith, le, lt, long), get_or-drop b path (i - b) (at path i) ∙ ap (λ n. get_or path n (at path i)) back ∙ get_or_default path i (at path i) 0 lt)

-- whatever leads to a closed node is closed
closed_back : (wires : List (ℕ × ℕ)) (places : List Place) (path : List ℕ) (parts : List Part) (unread pending : List ℕ) → IsSearching wires places path parts unread pending
    → (long first last : ℕ) (c : Bool) → Leads wires long first last → place places last ≡ Closed c → (b : Bool) × (place places first ≡ Closed b)
closed_back wires places path parts unread pending is zero first last c leads closed = (c, ap (λ x. place places x) leads ∙ closed)
closed_back wires places path parts unread pending is (suc long) first last c leads closed =
    let one = is.closed last leads.0 c closed leads.2 in
    closed_back wires places path parts unread pending is long first leads.0 one.0 leads.1 one.1

-- the nodes of the last part, all of whose sources have been read, lead to no others than closed ones
pub record IsLast (wires : List (ℕ × ℕ)) (places : List Place) (path : List ℕ) (parts : List Part) (unread : List ℕ) (b m : ℕ) : Type 0 where
  pub kept : IsSearching wires places path parts unread []
  pub count : length parts ≡ suc m
  pub begins : from parts m ≡ b
  pub done : rest parts m ≡ length unread

source_of : (wires : List (ℕ × ℕ)) (places : List Place) (path : List ℕ) (parts : List Part) (unread : List ℕ) (b m : ℕ) → IsLast wires places path parts unread b m
    → (i s : ℕ) → b ≤ i → i < length path → Contains (sources_of wires (at path i)) s → ((c : Bool) × (place places s ≡ Closed c)) ⊎ ((j : ℕ) × (b ≤ j) × (place places s ≡ Open j))
source_of wires places path parts unread b m is i s le lt wire =
    let last : m < length parts = let e = is.count in omega (arith, e) in
    let low : from parts m ≤ i = let e = is.begins in omega (arith, e, le) in
    elim (is.kept.read i s lt wire) [
      | inl one ↦ inl one
      | inr more ↦ elim more [
        | inl one ↦ inr (one.0, (let e = is.begins in let g = one.2 m last low in omega (arith, e, g)), one.1)
        | inr further ↦ elim further [
          | inl waits ↦ absurd (let e = is.done in let g = waits.3 m last low in let h = waits.1 in omega (arith, e, g, h))
          | inr none ↦ absurd (let l = none.1 in omega (arith, l))
        ]
      ]
    ]

pub record AreLooped (wires : List (ℕ × ℕ)) (path : List ℕ) (b : ℕ) (looped : Bool) : Type 0 where
  pub yes : looped ≡ true → (suc b < length path) ⊎ Contains (sources_of wires (at path b)) (at path b)
  pub no : looped ≡ false → (length path ≤ suc b) × (¬ Contains (sources_of wires (at path b)) (at path b))

looped_nodes : (wires : List (ℕ × ℕ)) (places : List Place) (path : List ℕ) (parts : List Part) (unread : List ℕ) (b m : ℕ) (looped : Bool) → IsLast wires places path parts unread b m
    → AreLooped wires path b looped → (i : ℕ) → b ≤ i → i < length path → looped ≡ true → IsOnCycle wires (at path i)
looped_nodes wires places path parts unread b m looped is are i le lt it_is =
    let both : (other : ℕ) → b ≤ other → other < length path → i ≢ other → IsOnCycle wires (at path i) = λ other ole olt differ.
    let up : (j : ℕ) → b ≤ j → (k : ℕ) → k < length parts → from parts k ≤ j = λ j jle k kl. elim (cases_lt k m) [
      | inl before ↦ let g = (is.kept.rising k m before (let e = is.count in omega (arith, e))).0 in let e = is.begins in omega (arith, g, e, jle)
      | inr here ↦ let same : m ≡ k = let e = is.count in omega (arith, here, kl, e) in subst (λ n. from parts n ≤ j) same (let e = is.begins in omega (arith, e, jle))
    ] in
    let there = is.kept.led other i olt lt (λ k kl h. up i le k kl) in
    let back = is.kept.led i other lt olt (λ k kl h. up other ole k kl) in
    on_cycle wires (at path i) (at path other) there.0 back.0 (λ same. differ (same_open (place places (at path i)) i other (is.kept.stands i lt) (ap (λ x. place places x) same ∙ is.kept.stands other olt))) there.1 back.1 in
    elim (cases_lt b i) [
      | inl above ↦ both b (omega arith) (omega (arith, lt, le)) (λ same. omega (arith, above, same))
      | inr here ↦
          let first : b ≡ i = omega (arith, here, le) in
          elim (cases_lt (suc b) (length path)) [
            | inl more ↦ both (suc b) (omega arith) more (λ same. omega (arith, first, same))
            | inr one ↦ elim (are.yes it_is) [
              | inl more ↦ absurd (omega (arith, one, more))
              | inr self ↦ subst (λ n. IsOnCycle wires (at path n)) first (0, (at path b, refl, self))
            ]
          ]
    ]

free_node : (wires : List (ℕ × ℕ)) (places : List Place) (path : List ℕ) (parts : List Part) (unread : List ℕ) (b m : ℕ) (looped : Bool) → IsLast wires places path parts unread b m
    → AreLooped wires path b looped → (i : ℕ) → b ≤ i → i < length path → looped ≡ false → ¬ IsOnCycle wires (at path i)
free_node wires places path parts unread b m looped is are i le lt it_isnt cycle =
    let alone = are.no it_isnt in
    let one = alone.0 in
    let first : i ≡ b = omega (arith, le, lt, one) in
    let before = cycle.1.0 in
    elim (source_of wires places path parts unread b m is i before le lt cycle.1.2) [
      | inl closed ↦
          let back = closed_back wires places path parts unread [] is.kept cycle.0 (at path i) before closed.0 cycle.1.1 closed.1 in
          not_both (place places (at path i)) i back.0 (is.kept.stands i lt) back.1
      | inr opened ↦
          let stands = is.kept.open_at before opened.0 opened.2 in
          let jl = stands.0 in
          let jle = opened.1 in
          let same : opened.0 ≡ b = omega (arith, jl, jle, one) in
          alone.1 (subst (λ x. Contains (sources_of wires (at path b)) x) (sym stands.1 ∙ ap (λ n. at path n) same) (subst (λ n. Contains (sources_of wires (at path n)) before) first cycle.1.2))
    ]

pub left : (wires : List (ℕ × ℕ)) (places after : List Place) (path : List ℕ) (parts : List Part) (unread : List ℕ) (b m : ℕ) (looped : Bool) → IsLast wires places path parts unread b m
    → AreLooped wires path b looped → IsClosed looped (drop b path) places after → IsSearching wires after (take b path) (take m parts) unread []
left wires places after path parts unread b m looped last are shut =
    let is = last.kept in
    let count = last.count in
    let begins = last.begins in
    let ml : m < length parts = omega (arith, count) in
    let bl : b < length path = let e = (is.ends m ml).0 in omega (arith, begins, e) in
    let long : length (take b path) ≡ b = length-take-le b path (omega (arith, bl)) in
    let parts_long : length (take m parts) ≡ m = length-take-le m parts (omega (arith, ml)) in
    let old_at : (i : ℕ) → i < b → at (take b path) i ≡ at path i = λ i l. get_or-take b path i 0 l in
    let old : (k : ℕ) → k < m → get_or (take m parts) k (part_of 0 0) ≡ get_or parts k (part_of 0 0) = λ k l. get_or-take m parts k (part_of 0 0) l in
    let kept : (P : Part → Type 0) → ((k : ℕ) → k < length parts → P (get_or parts k (part_of 0 0))) → (k : ℕ) → k < length (take m parts) → P (get_or (take m parts) k (part_of 0 0)) =
    λ P all k l. subst (λ (q : Part). P q) (sym (old k (omega (arith, l, parts_long)))) (all k (omega (arith, l, parts_long, ml))) in
    let shut_at : (i : ℕ) → b ≤ i → i < length path → place after (at path i) ≡ Closed looped = λ i le lt. shut.closed (at path i) Unseen (to_drop path b i le lt) in
    -- a closed node stays as it is, and so does an open one before the part
    let closed_stays : (x : ℕ) (c : Bool) → place places x ≡ Closed c → place after x ≡ Closed c = λ x c closed.
    shut.others x Unseen (λ inside. let one = in_drop path b x inside in not_both (place places x) one.0 c (ap (λ y. place places y) (sym one.3) ∙ is.stands one.0 one.2) closed) ∙ closed in
    let open_stays : (x j : ℕ) → j < b → place places x ≡ Open j → place after x ≡ Open j = λ x j lt opened.
    shut.others x Unseen (λ inside.
    let one = in_drop path b x inside in
    let le = one.1 in
    let same = same_open (place places x) one.0 j (ap (λ y. place places y) (sym one.3) ∙ is.stands one.0 one.2) opened in
    omega (arith, le, same, lt)) ∙ opened in
    let was : (x : ℕ) → ((i : ℕ) × (b ≤ i) × (i < length path) × (at path i ≡ x)) ⊎ (place after x ≡ place places x) = λ x. elim (has (drop b path) x) [
      | inl inside ↦ inl (in_drop path b x inside)
      | inr none ↦ inr (shut.others x Unseen (lacks (drop b path) x none))
    ] in
    record {
      stands = λ i l.
          let lt : i < b = omega (arith, l, long) in
          ap (λ x. place after x) (old_at i lt) ∙ open_stays (at path i) i lt (is.stands i (omega (arith, lt, bl)));
      open_at = λ x i now. elim (was x) [
        | inl one ↦ absurd (not_both (place after x) i looped now (ap (λ y. place after y) (sym one.3) ∙ shut_at one.0 one.1 one.2))
        | inr same ↦
            let one = is.open_at x i (sym same ∙ now) in
            let lt : i < b = elim (cases_lt i b) [
              | inl before ↦ before
              | inr behind ↦ absurd (not_both (place after x) i looped now (ap (λ y. place after y) (sym one.1) ∙ shut_at i behind one.0))
            ] in
            (omega (arith, lt, long), old_at i lt ∙ one.1)
      ];
      begun = λ i l.
          let lt : i < b = omega (arith, l, long) in
          let one = is.begun i (omega (arith, lt, bl)) in
          let kl = one.1 in
          let low = one.2 in
          let under : one.0 < m = elim (cases_lt one.0 m) [
            | inl before ↦ before
            | inr here ↦ absurd (let same : one.0 ≡ m = omega (arith, here, kl, count) in let g : from parts m ≤ i = subst (λ n. from parts n ≤ i) same low in omega (arith, g, begins, lt))
          ] in
          (one.0, omega (arith, under, parts_long), subst (λ (q : Part). q.node ≤ i) (sym (old one.0 under)) low);
      ends = λ k l.
          let kl : k < m = omega (arith, l, parts_long) in
          let low = is.rising k m kl ml in
          let g = low.0 in
          subst (λ (q : Part). (q.node < length (take b path)) × (q.unread ≤ length unread)) (sym (old k kl)) (omega (arith, g, begins, long), (is.ends k (omega (arith, kl, ml))).1);
      rising = λ k n lt l.
          let nl : n < m = omega (arith, l, parts_long) in
          let kl : k < m = omega (arith, lt, nl) in
          subst (λ (q : Part). (q.node < from (take m parts) n) × (q.unread ≤ rest (take m parts) n)) (sym (old k kl)) (subst (λ (q : Part). (from parts k < q.node) × (rest parts k ≤ q.unread)) (sym (old n nl)) (is.rising k n lt (omega (arith, nl, ml))));
      closed = λ x s c now wire. elim (was x) [
        | inl one ↦ elim (source_of wires places path parts unread b m last one.0 s one.1 one.2 (subst (λ y. Contains (sources_of wires y) s) (sym one.3) wire)) [
          | inl closed ↦ (closed.0, closed_stays s closed.0 closed.1)
          | inr opened ↦
              let stands = is.open_at s opened.0 opened.2 in
              (looped, ap (λ y. place after y) (sym stands.1) ∙ shut_at opened.0 opened.1 stands.0)
        ]
        | inr same ↦
            let one = is.closed x s c (sym same ∙ now) wire in
            (one.0, closed_stays s one.0 one.1)
      ];
      cycles = λ x c now. elim (was x) [
        | inl one ↦
            let is_looped : looped ≡ c = ap cycle_of (sym (ap (λ y. place after y) (sym one.3) ∙ shut_at one.0 one.1 one.2) ∙ now) in (
              (λ it_is. subst (λ y. IsOnCycle wires y) one.3 (looped_nodes wires places path parts unread b m looped last are one.0 one.1 one.2 (is_looped ∙ it_is))),
              (λ it_isnt. subst (λ y. ¬ IsOnCycle wires y) one.3 (free_node wires places path parts unread b m looped last are one.0 one.1 one.2 (is_looped ∙ it_isnt))),
            )
        | inr same ↦ is.cycles x c (sym same ∙ now)
      ];
      read = λ i s l wire.
          let lt : i < b = omega (arith, l, long) in
          elim (is.read i s (omega (arith, lt, bl)) (subst (λ y. Contains (sources_of wires y) s) (old_at i lt) wire)) [
            | inl one ↦ inl (one.0, closed_stays s one.0 one.1)
            | inr more ↦ elim more [
              | inl one ↦ elim (cases_lt one.0 b) [
                | inl before ↦ inr (inl (one.0, open_stays s one.0 before one.1, kept (λ q. q.node ≤ i → q.node ≤ one.0) one.2))
                | inr behind ↦
                    let stands = is.open_at s one.0 one.1 in
                    inl (looped, ap (λ y. place after y) (sym stands.1) ∙ shut_at one.0 behind stands.0)
              ]
              | inr further ↦ elim further [
                | inl waits ↦ inr (inr (inl (waits.0, waits.1, waits.2, kept (λ q. q.node ≤ i → q.unread ≤ waits.0) waits.3)))
                | inr none ↦ absurd (let z = none.1 in omega (arith, z))
              ]
            ]
          ];
      owed = λ t l.
          let one = is.owed t l in
          let lt : one.0 < b = elim (cases_lt one.0 b) [
            | inl before ↦ before
            | inr behind ↦ absurd (let g = (one.3 m ml).0 (omega (arith, begins, behind)) in let d = last.done in omega (arith, g, d, l))
          ] in
          (one.0, omega (arith, lt, long), subst (λ y. Contains (sources_of wires y) (at unread t)) (sym (old_at one.0 lt)) one.2, kept (λ q. (q.node ≤ one.0) ↔ (q.unread ≤ t)) one.3);
      led = λ i j il jl premise.
          let ib : i < b = omega (arith, il, long) in
          let jb : j < b = omega (arith, jl, long) in
          let one = is.led i j (omega (arith, ib, bl)) (omega (arith, jb, bl)) (λ k kl h. elim (cases_lt k m) [
            | inl under ↦ subst (λ (q : Part). q.node ≤ j) (old k under) (premise k (omega (arith, under, parts_long)) (subst (λ (q : Part). q.node ≤ i) (sym (old k under)) h))
            | inr here ↦ absurd (let same : k ≡ m = omega (arith, here, kl, count) in let g : from parts m ≤ i = subst (λ n. from parts n ≤ i) same h in omega (arith, g, begins, ib))
          ]) in
          (one.0, subst (λ y. Leads wires one.0 y (at (take b path) i)) (sym (old_at j jb)) (subst (λ y. Leads wires one.0 (at path j) y) (sym (old_at i ib)) one.1));
    }

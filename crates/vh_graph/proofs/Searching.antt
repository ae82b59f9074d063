-- What a search in depth keeps, and what it tells of cycles.
use Rattle.std.proofs.Common.{◌≡◌, ◌≢◌, ◌⊎◌, inl, inr, ◌∙◌, ◌↔◌, ℕ, suc, ◌+◌, ◌-◌, ◌<◌, ◌≤◌, Bool, true, false, List, [], ◌∷◌, ◌++◌, set, length, get_or, refl, sym, ap, subst, arith, ◌==◌, true≢false}
use Rattle.std.specs.Prelude.{Contains}
use Rattle.std.proofs.lemmas.Bool.{eqb-true, eqb-false, cases_lt}
use Rattle.std.proofs.lemmas.List.{get_or-set_same, get_or-set_other, get_or_append_left, get_or-append-add, get_or-append_right, get_or_default, length-append}
use Rattle.vh_graph.specs.declared.search.Part.{Part}
use Rattle.vh_graph.specs.declared.search.Place.{Place}
use Rattle.vh_graph.specs.declared.search.Place.TheVariants.{Unseen, Open, Closed}
use Rattle.vh_graph.specs.Paths.{sources_of, Leads, IsOnCycle}
use Rattle.vh_graph.specs.Steps.{part_of}
use Rattle.vh_graph.proofs.Ready.{either}

abbrev pub at : List ℕ → ℕ → ℕ
at xs i = get_or xs i 0

abbrev pub place : List Place → ℕ → Place
place places node = get_or places node Unseen

abbrev pub from : List Part → ℕ → ℕ
from parts k = (get_or parts k (part_of 0 0)).node

abbrev pub rest : List Part → ℕ → ℕ
rest parts k = (get_or parts k (part_of 0 0)).unread

-- a source of the path's i-th node is closed, or stands no earlier than that node's part, or is still to be read
abbrev pub IsRead : List Place → List Part → List ℕ → List ℕ → ℕ → ℕ → Type 0
IsRead places parts unread pending i s = ((c : Bool) × (place places s ≡ Closed c))
    ⊎ (((j : ℕ) × (place places s ≡ Open j) × ((k : ℕ) → k < length parts → from parts k ≤ i → from parts k ≤ j))
    ⊎ (((t : ℕ) × (t < length unread) × (at unread t ≡ s) × ((k : ℕ) → k < length parts → from parts k ≤ i → rest parts k ≤ t))
    ⊎ Contains pending s))

pub record IsSearching (wires : List (ℕ × ℕ)) (places : List Place) (path : List ℕ) (parts : List Part) (unread pending : List ℕ) : Type 0 where
  pub stands : (i : ℕ) → i < length path → place places (at path i) ≡ Open i
  pub open_at : (node i : ℕ) → place places node ≡ Open i → (i < length path) × (at path i ≡ node)
  pub begun : (i : ℕ) → i < length path → (k : ℕ) × (k < length parts) × (from parts k ≤ i)
  pub ends : (k : ℕ) → k < length parts → (from parts k < length path) × (rest parts k ≤ length unread)
  pub rising : (k m : ℕ) → k < m → m < length parts → (from parts k < from parts m) × (rest parts k ≤ rest parts m)
  -- what leads to a closed node is closed
  pub closed : (node s : ℕ) (c : Bool) → place places node ≡ Closed c → Contains (sources_of wires node) s → (b : Bool) × (place places s ≡ Closed b)
  pub cycles : (node : ℕ) (c : Bool) → place places node ≡ Closed c → (c ≡ true → IsOnCycle wires node) × (c ≡ false → ¬ IsOnCycle wires node)
  pub read : (i s : ℕ) → i < length path → Contains (sources_of wires (at path i)) s → IsRead places parts unread pending i s
  -- what is to be read are sources of their part's nodes
  pub owed : (t : ℕ) → t < length unread → (i : ℕ) × (i < length path) × Contains (sources_of wires (at path i)) (at unread t) × ((k : ℕ) → k < length parts → (from parts k ≤ i) ↔ (rest parts k ≤ t))
  -- each node leads to those before it, and to all of its part
  pub led : (i j : ℕ) → i < length path → j < length path → ((k : ℕ) → k < length parts → from parts k ≤ i → from parts k ≤ j) → (long : ℕ) × Leads wires long (at path j) (at path i)

abbrev pub is_unseen : Place → Bool
is_unseen Unseen = true
is_unseen (Open i) = false
is_unseen (Closed c) = false

abbrev pub is_open : Place → Bool
is_open Unseen = false
is_open (Open i) = true
is_open (Closed c) = false

abbrev index_of : Place → ℕ
index_of Unseen = 0
index_of (Open i) = i
index_of (Closed c) = 0

abbrev pub cycle_of : Place → Bool
cycle_of Unseen = false
cycle_of (Open i) = false
cycle_of (Closed c) = c

pub same_open : (p : Place) (i j : ℕ) → p ≡ Open i → p ≡ Open j → i ≡ j
same_open p i j a b = ap index_of (sym a ∙ b)

pub not_both : (p : Place) (i : ℕ) (c : Bool) → p ≡ Open i → ¬ (p ≡ Closed c)
not_both p i c a b = true≢false (ap is_open (sym a ∙ b))

pub at_end : (xs : List ℕ) (x : ℕ) → at (xs ++ x ∷ []) (length xs) ≡ x
at_end xs x = get_or-append_right xs (x ∷ []) (length xs) (length xs) 0 refl (omega arith) ∙ (let z : length xs - length xs ≡ 0 = omega arith in ap (λ n. at (x ∷ []) n) z)

ends_with : (parts : List Part) (p : Part) → get_or (parts ++ p ∷ []) (length parts) (part_of 0 0) ≡ p
ends_with parts p = get_or-append_right parts (p ∷ []) (length parts) (length parts) (part_of 0 0) refl (omega arith) ∙ (let z : length parts - length parts ≡ 0 = omega arith in ap (λ n. get_or (p ∷ []) n (part_of 0 0)) z)

pub one_of : (x y : ℕ) → Contains (x ∷ []) y → x ≡ y
one_of x y is = elim (either x [] y is) [
  | inl same ↦ same
  | inr none ↦ absurd (let l = none.1 in omega (arith, l))
]

-- a new place of a node that was unseen
pub record IsPlaced (places after : List Place) (node p : ℕ) : Type 0 where
  here : place after node ≡ Open p
  others : (x : ℕ) → x ≢ node → place after x ≡ place places x
  seen : (x : ℕ) → is_unseen (place places x) ≡ false → place after x ≡ place places x

pub placed : (places : List Place) (node p : ℕ) → node < length places → place places node ≡ Unseen → IsPlaced places (set places node (Open p)) node p
placed places node p lt unseen =
    let others : (x : ℕ) → x ≢ node → place (set places node (Open p)) x ≡ place places x = λ x differ. get_or-set_other places node x (Open p) Unseen differ in
    record {
      here = get_or-set_same places node (Open p) Unseen lt;
      others = others;
      seen = λ x was. others x (λ same. true≢false (sym (ap is_unseen (ap (λ y. place places y) same ∙ unseen)) ∙ was));
    }

-- one part more
pub record IsMore (parts : List Part) (p : Part) (more : List Part) : Type 0 where
  long : length more ≡ suc (length parts)
  old : (k : ℕ) → k < length parts → get_or more k (part_of 0 0) ≡ get_or parts k (part_of 0 0)
  last : get_or more (length parts) (part_of 0 0) ≡ p

pub one_more : (parts : List Part) (p : Part) → IsMore parts p (parts ++ p ∷ [])
one_more parts p = record {
  long = length-append parts (p ∷ []) ∙ (let e : length parts + 1 ≡ suc (length parts) = omega arith in e);
  old = λ k l. get_or_append_left parts (p ∷ []) (part_of 0 0) k l;
  last = ends_with parts p;
}

-- what holds of the parts that there were, and of the new one, holds of all
every : (parts : List Part) (p : Part) (more : List Part) (P : ℕ → Part → Type 0) → IsMore parts p more → ((k : ℕ) → k < length parts → P k (get_or parts k (part_of 0 0))) → P (length parts) p
    → (k : ℕ) → k < length more → P k (get_or more k (part_of 0 0))
every parts p more P are olds new k l = elim (cases_lt k (length parts)) [
  | inl under ↦ subst (λ (q : Part). P k q) (sym (are.old k under)) (olds k under)
  | inr over ↦
      let long = are.long in
      let is_last : length parts ≡ k = omega (arith, over, l, long) in
      subst (λ m. P m (get_or more m (part_of 0 0))) is_last (subst (λ (q : Part). P (length parts) q) (sym are.last) new)
]

entered_read : (wires : List (ℕ × ℕ)) (places after : List Place) (path : List ℕ) (parts more : List Part) (unread : List ℕ) (node : ℕ) → IsSearching wires places path parts unread (node ∷ [])
    → IsPlaced places after node (length path) → IsMore parts (part_of (length path) (length unread)) more → (i s : ℕ) → i < suc (length path) → Contains (sources_of wires (at (path ++ node ∷ []) i)) s
    → IsRead after more (unread ++ sources_of wires node) [] i s
entered_read wires places after path parts more unread node is new are i s lt wire =
    let p = length path in
    let u = length unread in
    let unread' = unread ++ sources_of wires node in
    let all = every parts (part_of p u) more in
    elim (cases_lt i p) [
      | inl before ↦
          let wire' : Contains (sources_of wires (at path i)) s = subst (λ x. Contains (sources_of wires x) s) (get_or_append_left path (node ∷ []) 0 i before) wire in
          elim (is.read i s before wire') [
            | inl closed ↦ inl (closed.0, new.seen s (ap is_unseen closed.1) ∙ closed.1)
            | inr more ↦ elim more [
              | inl opened ↦ inr (inl (opened.0, (new.seen s (ap is_unseen opened.1) ∙ opened.1), all (λ k q. q.node ≤ i → q.node ≤ opened.0) are opened.2 (λ h. absurd (omega (arith, h, before)))))
              | inr further ↦ elim further [
                | inl waits ↦
                    let t = waits.0 in
                    let tl : t < length unread = waits.1 in
                    let fits : t < length unread' = let e = length-append unread (sources_of wires node) in omega (arith, tl, e) in
                    inr (inr (inl (t, fits, get_or_append_left unread (sources_of wires node) 0 t tl ∙ waits.2, all (λ k q. q.node ≤ i → q.unread ≤ t) are waits.3 (λ h. absurd (omega (arith, h, before))))))
                | inr pending ↦
                    let same = one_of node s pending in
                    inr (inl (p, (subst (λ x. place after x ≡ Open p) same new.here), all (λ k q. q.node ≤ i → q.node ≤ p) are (λ k l h. let e = (is.ends k l).0 in omega (arith, e)) (λ h. omega arith)))
              ]
            ]
          ]
      | inr here ↦
          let same : p ≡ i = omega (arith, here, lt) in
          let wire' : Contains (sources_of wires node) s = subst (λ x. Contains (sources_of wires x) s) (subst (λ m. at (path ++ node ∷ []) m ≡ node) same (at_end path node)) wire in
          let q = wire'.0 in
          let ql : q < length (sources_of wires node) = wire'.1 in
          let fits : u + q < length unread' = let e = length-append unread (sources_of wires node) in omega (arith, ql, e) in
          let value : at unread' (u + q) ≡ s = get_or-append-add unread (sources_of wires node) q 0 ∙ get_or_default (sources_of wires node) q 0 s ql ∙ wire'.2 in
          inr (inr (inl (u + q, fits, value, all (λ k r. r.node ≤ i → r.unread ≤ u + q) are (λ k l h. let e = (is.ends k l).1 in omega (arith, e)) (λ h. omega arith))))
    ]

entered_owed : (wires : List (ℕ × ℕ)) (places : List Place) (path : List ℕ) (parts more : List Part) (unread : List ℕ) (node : ℕ) → IsSearching wires places path parts unread (node ∷ [])
    → IsMore parts (part_of (length path) (length unread)) more → (t : ℕ) → t < length (unread ++ sources_of wires node)
    → (i : ℕ) × (i < length (path ++ node ∷ [])) × Contains (sources_of wires (at (path ++ node ∷ []) i)) (at (unread ++ sources_of wires node) t) × ((k : ℕ) → k < length more → (from more k ≤ i) ↔ (rest more k ≤ t))
entered_owed wires places path parts more unread node is are t lt =
    let p = length path in
    let u = length unread in
    let unread' = unread ++ sources_of wires node in
    let path' = path ++ node ∷ [] in
    let all = every parts (part_of p u) more in
    let path_long : length path' ≡ suc p = length-append path (node ∷ []) ∙ (let e : p + 1 ≡ suc p = omega arith in e) in
    elim (cases_lt t u) [
      | inl before ↦
          let was = is.owed t before in
          let il = was.1 in (
            was.0,
            omega (arith, il, path_long),
            subst (λ x. Contains (sources_of wires x) (at unread' t)) (sym (get_or_append_left path (node ∷ []) 0 was.0 il)) (subst (λ x. Contains (sources_of wires (at path was.0)) x) (sym (get_or_append_left unread (sources_of wires node) 0 t before)) was.2),
            all (λ k q. (q.node ≤ was.0) ↔ (q.unread ≤ t)) are was.3 ((λ h. absurd (omega (arith, h, il))), (λ h. absurd (omega (arith, h, before)))),
          )
      | inr new ↦
          let long = length-append unread (sources_of wires node) in
          let ql : t - u < length (sources_of wires node) = omega (arith, lt, long, new) in
          let value : at unread' t ≡ at (sources_of wires node) (t - u) = get_or-append_right unread (sources_of wires node) u t 0 refl new in
          let has : Contains (sources_of wires node) (at unread' t) = (t - u, ql, get_or_default (sources_of wires node) (t - u) (at unread' t) 0 ql ∙ sym value) in (
            p,
            omega (arith, path_long),
            subst (λ x. Contains (sources_of wires x) (at unread' t)) (sym (at_end path node)) has,
            all (λ k q. (q.node ≤ p) ↔ (q.unread ≤ t)) are (λ k l. ((λ h. let e = (is.ends k l).1 in omega (arith, e, new)), (λ h. let e = (is.ends k l).0 in omega (arith, e)))) ((λ h. omega (arith, new)), (λ h. omega arith)),
          )
    ]

pub entered : (wires : List (ℕ × ℕ)) (places after : List Place) (path : List ℕ) (parts more : List Part) (unread : List ℕ) (node : ℕ) → IsSearching wires places path parts unread (node ∷ [])
    → IsPlaced places after node (length path) → IsMore parts (part_of (length path) (length unread)) more
    → ((i : ℕ) → i < length path → (long : ℕ) × Leads wires long node (at path i))
    → IsSearching wires after (path ++ node ∷ []) more (unread ++ sources_of wires node) []
entered wires places after path parts more unread node is new are leads =
    let p = length path in
    let u = length unread in
    let path' = path ++ node ∷ [] in
    let all = every parts (part_of p u) more in
    let path_long : length path' ≡ suc p = length-append path (node ∷ []) ∙ (let e : p + 1 ≡ suc p = omega arith in e) in
    let old_at : (i : ℕ) → i < p → at path' i ≡ at path i = λ i l. get_or_append_left path (node ∷ []) 0 i l in
    let new_at : (i : ℕ) → p ≤ i → i < length path' → p ≡ i = λ i ge l. omega (arith, ge, l, path_long) in
    let was : (x : ℕ) (q : Place) → place after x ≡ q → x ≢ node → place places x ≡ q = λ x q now differ. sym (new.others x differ) ∙ now in
    record {
      stands = λ i l. elim (cases_lt i p) [
        | inl before ↦ let e = is.stands i before in ap (λ x. place after x) (old_at i before) ∙ new.seen (at path i) (ap is_unseen e) ∙ e
        | inr here ↦ subst (λ m. place after (at path' m) ≡ Open m) (new_at i here l) (ap (λ x. place after x) (at_end path node) ∙ new.here)
      ];
      open_at = λ x i now. elim (x == node) as (λ t. (x == node) ≡ t → (i < length path') × (at path' i ≡ x)) [
        | true ↦ λ test.
            let same : x ≡ node = eqb-true x node test in
            let e : p ≡ i = same_open (place after x) p i (ap (λ y. place after y) same ∙ new.here) now in
            (omega (arith, path_long, e), subst (λ m. at path' m ≡ x) e (at_end path node ∙ sym same))
        | false ↦ λ test.
            let old = is.open_at x i (was x (Open i) now (eqb-false x node test)) in
            let l = old.0 in
            (omega (arith, l, path_long), old_at i l ∙ old.1)
      ] refl;
      begun = λ i l. elim (cases_lt i p) [
        | inl before ↦
            let b = is.begun i before in
            let kl = b.1 in
            (b.0, (let e = are.long in omega (arith, kl, e)), subst (λ (q : Part). q.node ≤ i) (sym (are.old b.0 kl)) b.2)
        | inr here ↦ (length parts, (let e = are.long in omega (arith, e)), subst (λ (q : Part). q.node ≤ i) (sym are.last) here)
      ];
      ends = all (λ k q. (q.node < length path') × (q.unread ≤ length (unread ++ sources_of wires node))) are
          (λ k l. let e = (is.ends k l).0 in let f = (is.ends k l).1 in let g = length-append unread (sources_of wires node) in (omega (arith, e, path_long), omega (arith, f, g)))
          (let g = length-append unread (sources_of wires node) in (omega (arith, path_long), omega (arith, g)));
      rising = λ k m lt ml. elim (cases_lt m (length parts)) [
        | inl before ↦
            let kl : k < length parts = omega (arith, lt, before) in
            subst (λ (q : Part). (q.node < from more m) × (q.unread ≤ rest more m)) (sym (are.old k kl)) (subst (λ (q : Part). (from parts k < q.node) × (rest parts k ≤ q.unread)) (sym (are.old m before)) (is.rising k m lt before))
        | inr here ↦
            let long = are.long in
            let kl : k < length parts = omega (arith, lt, ml, long) in
            let same : length parts ≡ m = omega (arith, here, ml, long) in
            let e = (is.ends k kl).0 in
            let f = (is.ends k kl).1 in
            subst (λ (q : Part). (q.node < from more m) × (q.unread ≤ rest more m)) (sym (are.old k kl)) (subst (λ n. (from parts k < from more n) × (rest parts k ≤ rest more n)) same
            (subst (λ (q : Part). (from parts k < q.node) × (rest parts k ≤ q.unread)) (sym are.last) (omega (arith, e), f)))
      ];
      closed = λ x s c now wire.
          let differ : x ≢ node = λ same. not_both (place after x) p c (ap (λ y. place after y) same ∙ new.here) now in
          let one = is.closed x s c (was x (Closed c) now differ) wire in
          (one.0, new.seen s (ap is_unseen one.1) ∙ one.1);
      cycles = λ x c now.
          let differ : x ≢ node = λ same. not_both (place after x) p c (ap (λ y. place after y) same ∙ new.here) now in
          is.cycles x c (was x (Closed c) now differ);
      read = λ i s l wire. entered_read wires places after path parts more unread node is new are i s (subst (λ n. i < n) path_long l) wire;
      owed = λ t l. entered_owed wires places path parts more unread node is are t l;
      led = λ i j il jl premise.
          let parted : (k : ℕ) → k < length parts → from parts k ≤ i → from parts k ≤ j = λ k l h.
          let kl : k < length more = let e = are.long in omega (arith, l, e) in
          subst (λ (q : Part). q.node ≤ j) (are.old k l) (premise k kl (subst (λ (q : Part). q.node ≤ i) (sym (are.old k l)) h)) in
          let last : p ≤ i → p ≤ j = λ h.
          subst (λ (q : Part). q.node ≤ j) are.last (premise (length parts) (let e = are.long in omega (arith, e)) (subst (λ (q : Part). q.node ≤ i) (sym are.last) h)) in
          elim (cases_lt i p) [
            | inl before ↦ elim (cases_lt j p) [
              | inl both ↦ subst (λ x. (long : ℕ) × Leads wires long x (at path' i)) (sym (old_at j both)) (subst (λ x. (long : ℕ) × Leads wires long (at path j) x) (sym (old_at i before)) (is.led i j before both parted))
              | inr here ↦ subst (λ m. (long : ℕ) × Leads wires long (at path' m) (at path' i)) (new_at j here jl) (subst (λ x. (long : ℕ) × Leads wires long x (at path' i)) (sym (at_end path node)) (subst (λ x. (long : ℕ) × Leads wires long node x) (sym (old_at i before)) (leads i before)))
            ]
            | inr here ↦
                let same : i ≡ j = let g = last here in let f = new_at i here il in omega (arith, g, f, jl, path_long) in
                (0, ap (λ m. at path' m) (sym same))
          ];
    }

-- What each step of a search keeps.
use Rattle.std.proofs.Common.{◌≡◌, ◌≢◌, ◌⊎◌, inl, inr, ◌∙◌, ℕ, zero, suc, ◌+◌, ◌-◌, ◌<◌, ◌≤◌, Bool, true, false, List, [], ◌∷◌, ◌++◌, take, drop, set, length, get_or, refl, sym, ap, subst, arith, true≢false, ◌==◌}
use Rattle.std.specs.Prelude.{Contains, Vec, Option, None, Some}
use Rattle.std.specs.declared.alloc.Global.{Global}
use Rattle.std.proofs.lemmas.Bool.{cases_lt, eqb-true, eqb-false}
use Rattle.std.proofs.lemmas.List.{get_or-drop, length-drop, length-append, get_or-set_same, get_or-set_other}
use Rattle.vh_graph.specs.declared.search.Part.{Part}
use Rattle.vh_graph.specs.declared.search.Place.{Place}
use Rattle.vh_graph.specs.declared.search.Place.TheVariants.{Unseen, Open, Closed}
use Rattle.vh_graph.specs.Paths.{sources_of, Leads, IsOnCycle, AreLinked, FindsLeast}
use Rattle.vh_graph.specs.Steps.{part_of, IsJoined, IsClosed, IsLooped, IsFirst}
use Rattle.vh_graph.proofs.Ready.{ends_below, ahead, has, lacks}
use Rattle.vh_graph.proofs.Searching.{at, place, from, rest, is_unseen, IsSearching, entered, placed, one_more, at_end}
use Rattle.vh_graph.proofs.Rejoined.{popped, rejoined}
use Rattle.vh_graph.proofs.Left.{left, IsLast, AreLooped}
use Rattle.vh_graph.proofs.Work.{unseen_work, work_less}

-- a place that isn't unseen is that of a node
pub known : (places : List Place) (x : ℕ) → is_unseen (place places x) ≡ false → x < length places
known [] x seen = absurd (true≢false seen)
known (p ∷ ps) zero seen = omega arith
known (p ∷ ps) (suc x) seen = let rest = known ps x seen in omega (arith, rest)

-- what a step makes of a node that it enters
pub record IsEntered (places places' : List Place) (path path' : List ℕ) (parts parts' : List Part) (unread unread' : List ℕ) (node : ℕ) (sources : List ℕ) : Type 0 where
  pub now_places : places' ≡ set places node (Open (length path))
  pub now_path : path' ≡ path ++ node ∷ []
  pub now_parts : parts' ≡ parts ++ part_of (length path) (length unread) ∷ []
  pub now_unread : unread' ≡ unread ++ sources

pub enters : (wires : List (ℕ × ℕ)) (lists : List (Vec ℕ Global)) (places places' : List Place) (path path' : List ℕ) (parts parts' : List Part) (unread unread' : List ℕ) (node : ℕ) (d : Vec ℕ Global)
    → AreLinked wires lists → length places ≡ length lists → node < length lists → place places node ≡ Unseen
    → IsEntered places places' path path' parts parts' unread unread' node (get_or lists node d).items → IsSearching wires places path parts unread (node ∷ [])
    → ((i : ℕ) → i < length path → (long : ℕ) × Leads wires long node (at path i)) → IsSearching wires places' path' parts' unread' []
enters wires lists places places' path path' parts parts' unread unread' node d linked long lt unseen are is leads =
    let sources : (get_or lists node d).items ≡ sources_of wires node = linked.sources node d lt in
    let now = entered wires places (set places node (Open (length path))) path parts (parts ++ part_of (length path) (length unread) ∷ []) unread node is (placed places node (length path) (omega (arith, lt, long)) unseen) (one_more parts (part_of (length path) (length unread))) leads in
    subst (λ q. IsSearching wires q path' parts' unread' []) (sym are.now_places) (subst (λ q. IsSearching wires (set places node (Open (length path))) q parts' unread' []) (sym are.now_path)
    (subst (λ q. IsSearching wires (set places node (Open (length path))) (path ++ node ∷ []) q unread' []) (sym are.now_parts)
    (subst (λ q. IsSearching wires (set places node (Open (length path))) (path ++ node ∷ []) (parts ++ part_of (length path) (length unread) ∷ []) q []) (sym (are.now_unread ∙ ap (λ s. unread ++ s) sources)) now)))

-- with no part open, the search may begin at any node
pub begins : (wires : List (ℕ × ℕ)) (places : List Place) (path : List ℕ) (parts : List Part) (unread : List ℕ) (node : ℕ) → parts ≡ [] → IsSearching wires places path parts unread []
    → IsSearching wires places path parts unread (node ∷ []) × ((i : ℕ) → i < length path → (long : ℕ) × Leads wires long node (at path i))
begins wires places path parts unread node none is = (
  record {
    stands = is.stands;
    open_at = is.open_at;
    begun = is.begun;
    ends = is.ends;
    rising = is.rising;
    closed = is.closed;
    cycles = is.cycles;
    read = λ i s l wire. elim (is.read i s l wire) [
      | inl one ↦ inl one
      | inr more ↦ elim more [
        | inl one ↦ inr (inl one)
        | inr further ↦ elim further [
          | inl waits ↦ inr (inr (inl waits))
          | inr never ↦ absurd (let z = never.1 in omega (arith, z))
        ]
      ]
    ];
    owed = is.owed;
    led = is.led;
  },
  λ i l. absurd (let one = is.begun i l in let k = one.1 in let z : length parts ≡ 0 = ap (λ ps. length ps) none in omega (arith, k, z)),
)

-- a node that was seen stays so
pub seen_entered : (places places' : List Place) (node p : ℕ) → node < length places → places' ≡ set places node (Open p) → (x : ℕ) → (is_unseen (place places x) ≡ false) ⊎ (x ≡ node) → is_unseen (place places' x) ≡ false
seen_entered places places' node p lt are x cases = elim cases [
  | inr same ↦ ap is_unseen (ap (λ q. place q x) are ∙ ap (λ y. place (set places node (Open p)) y) same ∙ get_or-set_same places node (Open p) Unseen lt)
  | inl seen ↦ elim (x == node) as (λ t. (x == node) ≡ t → is_unseen (place places' x) ≡ false) [
    | true ↦ λ test. ap is_unseen (ap (λ q. place q x) are ∙ ap (λ y. place (set places node (Open p)) y) (eqb-true x node test) ∙ get_or-set_same places node (Open p) Unseen lt)
    | false ↦ λ test. ap is_unseen (ap (λ q. place q x) are ∙ get_or-set_other places node x (Open p) Unseen (eqb-false x node test)) ∙ seen
  ] refl
]

pub path_below : (wires : List (ℕ × ℕ)) (places : List Place) (path : List ℕ) (parts : List Part) (unread pending : List ℕ) → IsSearching wires places path parts unread pending
    → (i : ℕ) → i < length path → at path i < length places
path_below wires places path parts unread pending is i lt = known places (at path i) (ap is_unseen (is.stands i lt))

pub unread_below : (wires : List (ℕ × ℕ)) (lists : List (Vec ℕ Global)) (places : List Place) (path : List ℕ) (parts : List Part) (unread pending : List ℕ) → AreLinked wires lists → IsSearching wires places path parts unread pending
    → (t : ℕ) → t < length unread → at unread t < length lists
unread_below wires lists places path parts unread pending linked is t lt =
    let one = is.owed t lt in
    (ends_below (length lists) wires linked.ends (at path one.0) (at unread t) one.2).0

-- the last part
pub record HasLast (parts : List Part) (part : Part) : Type 0 where
  pub some : 0 < length parts
  pub last : get_or parts (length parts - 1) (part_of 0 0) ≡ part

pub leaves : (wires : List (ℕ × ℕ)) (lists : List (Vec ℕ Global)) (places places' : List Place) (path path' : List ℕ) (parts parts' : List Part) (unread unread' : List ℕ) (part : Part) (looped : Bool) (empty : Vec ℕ Global)
    → AreLinked wires lists → length places ≡ length lists → HasLast parts part → part.unread ≡ length unread → IsClosed looped (drop part.node path) places places' → IsLooped lists (drop part.node path) looped
    → path' ≡ take part.node path → parts' ≡ take (length parts - 1) parts → unread' ≡ unread → IsSearching wires places path parts unread [] → IsSearching wires places' path' parts' unread' []
leaves wires lists places places' path path' parts parts' unread unread' part looped empty linked long has done shut loops now_path now_parts now_unread is =
    let b = part.node in
    let m = length parts - 1 in
    let some = has.some in
    let last : IsLast wires places path parts unread b m = record {
      kept = is;
      count = omega (arith, some);
      begins = ap (λ (p : Part). p.node) has.last;
      done = ap (λ (p : Part). p.unread) has.last ∙ done;
    } in
    let bl : b < length path = subst (λ (p : Part). p.node < length path) has.last (is.ends m (omega (arith, some))).0 in
    let drop_long = length-drop b path in
    let first : get_or (drop b path) 0 0 ≡ at path b = get_or-drop b path 0 0 ∙ (let z : b + 0 ≡ b = omega arith in ap (λ n. at path n) z) in
    let within : at path b < length lists = let l = path_below wires places path parts unread [] is b bl in omega (arith, l, long) in
    let sources : (d : Vec ℕ Global) → (get_or lists (get_or (drop b path) 0 0) d).items ≡ sources_of wires (at path b) = λ d. ap (λ n. (get_or lists n d).items) first ∙ linked.sources (at path b) d within in
    let same : (d : Vec ℕ Global) → Contains (get_or lists (get_or (drop b path) 0 0) d).items (get_or (drop b path) 0 0) ≡ Contains (sources_of wires (at path b)) (at path b) = λ d.
    ap (λ ns. Contains ns (get_or (drop b path) 0 0)) (sources d) ∙ ap (λ n. Contains (sources_of wires (at path b)) n) first in
    let looped_so : AreLooped wires path b looped = record {
      yes = λ it_is. elim (loops.yes 0 empty it_is) [
        | inl two ↦ inl (omega (arith, two, drop_long))
        | inr self ↦ inr (subst (λ T. T) (same empty) self)
      ];
      no = λ it_isnt. ((let e = (loops.no 0 empty it_isnt).0 in omega (arith, e, drop_long, bl)), λ self. (loops.no 0 empty it_isnt).1 (subst (λ T. T) (sym (same empty)) self));
    } in
    subst (λ q. IsSearching wires places' q parts' unread' []) (sym now_path) (subst (λ q. IsSearching wires places' (take b path) q unread' []) (sym now_parts)
    (subst (λ q. IsSearching wires places' (take b path) (take m parts) q []) (sym now_unread) (left wires places places' path parts unread b m looped last looped_so shut)))

-- a source of the last part is read
pub record IsNextRead (wires : List (ℕ × ℕ)) (places : List Place) (path : List ℕ) (parts : List Part) (unread : List ℕ) (s : ℕ) : Type 0 where
  pub kept : IsSearching wires places path parts unread (s ∷ [])
  pub of : (u : ℕ) × (u < length path) × Contains (sources_of wires (at path u)) s × ((k : ℕ) → k < length parts → from parts k ≤ u)

pub reads : (wires : List (ℕ × ℕ)) (places : List Place) (path : List ℕ) (parts : List Part) (unread left : List ℕ) (part : Part) (s : ℕ) → HasLast parts part → part.unread ≢ length unread → unread ≡ left ++ s ∷ []
    → IsSearching wires places path parts unread [] → IsNextRead wires places path parts left s
reads wires places path parts unread left part s has more now is =
    let m = length parts - 1 in
    let some = has.some in
    let long : length unread ≡ suc (length left) = ap (λ xs. length xs) now ∙ length-append left (s ∷ []) ∙ (let e : length left + 1 ≡ suc (length left) = omega arith in e) in
    let last : rest parts m ≤ length left =
    let e = (is.ends m (omega (arith, some))).1 in
    let f : rest parts m ≡ part.unread = ap (λ (p : Part). p.unread) has.last in
    omega (arith, e, f, more, long) in
    let all : (k : ℕ) → k < length parts → rest parts k ≤ length left = λ k l. elim (cases_lt k m) [
      | inl before ↦ let g = (is.rising k m before (omega (arith, some))).1 in omega (arith, g, last)
      | inr here ↦ let same : m ≡ k = omega (arith, here, l) in subst (λ n. rest parts n ≤ length left) same last
    ] in
    let is' = subst (λ q. IsSearching wires places path parts q []) now is in
    let one = is'.owed (length left) (let e : length (left ++ s ∷ []) ≡ suc (length left) = length-append left (s ∷ []) ∙ (let z : length left + 1 ≡ suc (length left) = omega arith in z) in omega (arith, e)) in
    record {
      kept = popped wires places path parts left s is' all;
      of = (one.0, one.1, subst (λ n. Contains (sources_of wires (at path one.0)) n) (at_end left s) one.2, λ k l. (one.3 k l).1 (all k l));
    }

-- what is read leads to the whole path
pub read_leads : (wires : List (ℕ × ℕ)) (places : List Place) (path : List ℕ) (parts : List Part) (unread : List ℕ) (s : ℕ) → IsNextRead wires places path parts unread s → (i : ℕ) → i < length path → (long : ℕ) × Leads wires long s (at path i)
read_leads wires places path parts unread s is i lt =
    let u = is.of.0 in
    let on = is.kept.led i u lt is.of.1 (λ k l h. is.of.3 k l) in
    let one = ahead wires on.0 s (at path u) (at path i) on.1 is.of.2 in
    (suc one.0, one.1)

pub reads_open : (wires : List (ℕ × ℕ)) (places : List Place) (path : List ℕ) (parts parts' : List Part) (unread : List ℕ) (s j : ℕ) → IsNextRead wires places path parts unread s
    → place places s ≡ Open j → IsJoined j parts parts' → IsSearching wires places path parts' unread []
reads_open wires places path parts parts' unread s j is opened are = rejoined wires places path parts parts' unread s j is.of.0 is.kept opened are is.of.1 is.of.2 is.of.3

pub seen_closed : (looped : Bool) (nodes : List ℕ) (places places' : List Place) → IsClosed looped nodes places places' → (x : ℕ) → is_unseen (place places x) ≡ false → is_unseen (place places' x) ≡ false
seen_closed looped nodes places places' are x seen = elim (has nodes x) [
  | inl inside ↦ ap is_unseen (are.closed x Unseen inside)
  | inr none ↦ ap is_unseen (are.others x Unseen (lacks nodes x none)) ∙ seen
]

pub work_closed : (looped : Bool) (nodes : List ℕ) (places places' : List Place) (lists : List (Vec ℕ Global)) → IsClosed looped nodes places places' → unseen_work places' lists ≤ unseen_work places lists
work_closed looped nodes places places' lists are = work_less places places' lists are.long (λ x seen. seen_closed looped nodes places places' are x seen)

pub last_below : (wires : List (ℕ × ℕ)) (lists : List (Vec ℕ Global)) (places : List Place) (path : List ℕ) (parts : List Part) (unread left : List ℕ) (s : ℕ) → AreLinked wires lists → IsSearching wires places path parts unread []
    → unread ≡ left ++ s ∷ [] → s < length lists
last_below wires lists places path parts unread left s linked is now =
    let long : length unread ≡ length left + 1 = ap (λ xs. length xs) now ∙ length-append left (s ∷ []) in
    subst (λ n. n < length lists) (ap (λ xs. at xs (length left)) now ∙ at_end left s) (unread_below wires lists places path parts unread [] linked is (length left) (omega (arith, long)))

open_or_closed : (p : Place) → is_unseen p ≡ false → ((i : ℕ) × (p ≡ Open i)) ⊎ ((c : Bool) × (p ≡ Closed c))
open_or_closed Unseen seen = absurd (true≢false seen)
open_or_closed (Open i) seen = inl (i, refl)
open_or_closed (Closed c) seen = inr (c, refl)

-- where no part is open and every node was seen, each is closed
all_closed : (wires : List (ℕ × ℕ)) (places : List Place) (path : List ℕ) (parts : List Part) (unread : List ℕ) → parts ≡ [] → IsSearching wires places path parts unread [] → (x : ℕ) → is_unseen (place places x) ≡ false
    → (c : Bool) × (place places x ≡ Closed c)
all_closed wires places path parts unread none is x seen = elim (open_or_closed (place places x) seen) [
  | inr closed ↦ closed
  | inl opened ↦ absurd (let one = is.open_at x opened.0 opened.1 in let k = (is.begun opened.0 one.0).1 in let z : length parts ≡ 0 = ap (λ ps. length ps) none in omega (arith, k, z))
]

-- a node on a cycle is closed as one
closed_as : (wires : List (ℕ × ℕ)) (places : List Place) (path : List ℕ) (parts : List Part) (unread : List ℕ) → parts ≡ [] → IsSearching wires places path parts unread [] → (x : ℕ) → is_unseen (place places x) ≡ false
    → IsOnCycle wires x → place places x ≡ Closed true
closed_as wires places path parts unread none is x seen cycle =
    let one = all_closed wires places path parts unread none is x seen in
    elim one.0 as (λ t. one.0 ≡ t → place places x ≡ Closed true) [
      | true ↦ λ e. one.1 ∙ ap (λ c. Closed c) e
      | false ↦ λ e. absurd ((is.cycles x one.0 one.1).1 e cycle)
    ] refl

pub found : (wires : List (ℕ × ℕ)) (lists : List (Vec ℕ Global)) (places : List Place) (path : List ℕ) (parts : List Part) (unread : List ℕ) (least : Option ℕ) → AreLinked wires lists → length places ≡ length lists → parts ≡ []
    → ((x : ℕ) → x < length lists → is_unseen (place places x) ≡ false) → IsSearching wires places path parts unread [] → IsFirst places least → FindsLeast wires least
found wires lists places path parts unread None linked long none seen is first = λ node cycle.
    let lt = (ends_below (length lists) wires linked.ends node cycle.1.0 cycle.1.2).1 in
    first node Unseen (omega (arith, lt, long)) (closed_as wires places path parts unread none is node (seen node lt) cycle)
found wires lists places path parts unread (Some least) linked long none seen is first = record {
  cycle = (is.cycles least true (first.1 Unseen)).0 refl;
  least = λ other cycle. elim (cases_lt other least) [
    | inr ge ↦ ge
    | inl before ↦
        let lt = (ends_below (length lists) wires linked.ends other cycle.1.0 cycle.1.2).1 in
        absurd (first.2 other Unseen before (closed_as wires places path parts unread none is other (seen other lt) cycle))
  ];
}

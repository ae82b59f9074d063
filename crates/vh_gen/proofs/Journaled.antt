-- The journal of a number is one.
use Rattle.std.proofs.Common.{◌≡◌, ◌∙◌, ℕ, zero, suc, ◌+◌, ◌-◌, ◌*◌, ◌/◌, ◌^◌, ◌<◌, ◌≤◌, ◌==◌, Bool, true, false, cond, List, [], ◌∷◌, ◌++◌, length, get_or, refl, sym, ap, subst, arith}
use Rattle.std.specs.Prelude.{All, ◌&&◌, slice_index}
use Rattle.std.proofs.Math.Nat.{mod-lt}
use Rattle.std.proofs.Math.Seq.{get_or-append_seam}
use Rattle.std.proofs.lemmas.Bool.{eq-eqb}
use Rattle.std.proofs.lemmas.List.{append_assoc, map-append, length-append, length-map}
use Rattle.std.proofs.lemmas.List.FromFn.{length-map-range_with_len}
use Rattle.vh_journal.specs.declared.entry.Entry.{Entry}
use Rattle.vh_params.specs.declared.class.ClassInfo.{ClassInfo}
use Rattle.vh_params.specs.Flags as flags
use Rattle.vh_params.specs.Nodes.{Node}
use Rattle.vh_params.specs.declared.command.Command.TheVariants.{Tell}
use Rattle.vh_journal_text.specs.Items.{Act, Begins, Performs, Ends, Tells, Item, item_of, items_of}
use Rattle.vh_journal_text.specs.Keeps.{is_writable, IsSettable, MayStand, AreEntries}
use Rattle.vh_journal_text.specs.Rules.{no_item, last_sample, count_of, is_open}
use Rattle.vh_journal_text.specs.Standing.{same_key}
use Rattle.vh_journal_text.proofs.Accepted.{entries_more}
use Rattle.vh_journal_text.proofs.Tracked.{AreKept, count_more, open_is_kept, same_kept, begun, ended}
use Rattle.vh_gen.specs.Draws.{draw, behind, drawn_value}
use Rattle.vh_gen.specs.Gestures.{is_meter, touched_node, touches_meter, one_zero, entry, edit_of, gesture_state, entries_to}
use Rattle.vh_gen.specs.Known.{BeginsBuiltIn}
use Rattle.vh_gen.specs.Nodes.{node_of, nodes_of}
use Rattle.vh_gen.proofs.Named.{first_info}

abbrev pub Kept : Type 0
Kept = ℕ → ℕ → ℕ → Bool

-- no gesture is open
abbrev pub none : Kept
none editor node id = false

-- entries of the first editor alone, up to a sample, with these gestures open
pub record Standing (nodes : List Node) (items : List Item) (at : ℕ) (kept : Kept) : Type 0 where
  pub are : AreEntries nodes 65536 items
  pub turns : count_of items 0 ≡ length items
  pub last : last_sample items ≤ at
  pub open_ : AreKept items kept

abbrev item : ℕ → ℕ → ℕ → Act → Item
item sample seq node act = record { sample = sample; editor = 0; seq = seq; node = node; act = act }

last_of : (items : List Item) (x : Item) → last_sample (items ++ x ∷ []) ≡ x.sample
last_of items x =
    let long = length-append items (x ∷ []) in
    let place : length (items ++ x ∷ []) - 1 ≡ length items = omega (arith, long) in
    ap (λ n. (get_or (items ++ x ∷ []) n no_item).sample) place ∙ ap (λ (i : Item). i.sample) (get_or-append_seam items x [] no_item)

-- one more
added : (nodes : List Node) (items : List Item) (at sample seq node : ℕ) (act : Act) (kept now : Kept) → Standing nodes items at kept
    → at ≤ sample → sample ≤ 65536 → seq ≡ length items → length items < 4096 → node < length nodes → MayStand nodes items 0 node act → AreKept (items ++ item sample seq node act ∷ []) now
    → Standing nodes (items ++ item sample seq node act ∷ []) sample now
added nodes items at sample seq node act kept now stands later within turn few there may open_now =
    let last = stands.last in
    let turns = stands.turns in
    let x : Item = item sample seq node act in
    let counted = count_more (λ (i : Item). i.editor == 0) items x in
    let long = length-append items (x ∷ []) in
    let here = last_of items x in
    record {
      are = entries_more nodes 65536 items x stands.are (record { few = few; within = within; rising = omega (arith, last, later); editor = omega arith; turn = omega (arith, turn, turns); node = there; act = may });
      turns = omega (arith, counted, turns, long);
      last = omega (arith, here);
      open_ = open_now;
    }

three_more : (xs : List Item) (a b c : Item) → ((xs ++ a ∷ []) ++ b ∷ []) ++ c ∷ [] ≡ xs ++ a ∷ b ∷ c ∷ []
three_more xs a b c = append_assoc (xs ++ a ∷ []) (b ∷ []) (c ∷ []) ∙ append_assoc xs (a ∷ []) (b ∷ c ∷ [])

abbrev word : List ℕ
word = 0 ∷ []

abbrev flags_of : Bool → ℕ
flags_of meter = cond meter 2 1

-- a message of one word
told : (nodes : List Node) (items : List Item) (at sample seq node : ℕ) → Standing nodes items at none → at ≤ sample → sample ≤ 65536 → seq ≡ length items → length items < 4096 → node < length nodes
    → Standing nodes (items ++ item sample seq node (Tells (0 ∷ [])) ∷ []) sample none
told nodes items at sample seq node stands later within turn few there =
    added nodes items at sample seq node (Tells (0 ∷ [])) none none stands later within turn few there (omega arith, λ k d lt. small k d lt)
    (same_kept items (item sample seq node (Tells (0 ∷ []))) none none (λ e n i. refl) (λ e n i. refl) (λ e n i. refl) stands.open_)
  where
    small : (k d : ℕ) → k < 1 → get_or word k d < 2 ^ 32
    small zero d lt = omega arith
    small (suc k) d lt = absurd (omega (arith, lt))

-- a gesture with a value
edited : (nodes : List Node) (items : List Item) (at sample seq node value : ℕ) → Standing nodes items at none → at ≤ sample → sample ≤ 65536 → seq ≡ length items → length items + 3 < 4096 → node < length nodes
    → IsSettable nodes node 0 → value ≤ 2 ^ 24
    → Standing nodes (items ++ item sample seq node (Begins 0) ∷ item sample (seq + 1) node (Performs 0 value) ∷ item sample (seq + 2) node (Ends 0) ∷ []) sample none
edited nodes items at sample seq node value stands later within turn few there set most =
    let begin : Item = item sample seq node (Begins 0) in
    let perform : Item = item sample (seq + 1) node (Performs 0 value) in
    let end : Item = item sample (seq + 2) node (Ends 0) in
    let first : List Item = items ++ begin ∷ [] in
    let second : List Item = first ++ perform ∷ [] in
    let now : Kept = λ e n i. cond (same_key 0 node 0 e n i) true false in
    let long = length-append items (begin ∷ []) in
    let longer = length-append first (perform ∷ []) in
    let here : now 0 node 0 ≡ true = ap (λ b. cond ((0 == 0) && (b && (0 == 0))) true false) (eq-eqb node node refl) in
    let closed : is_open items 0 node 0 ≡ false = open_is_kept items none 0 node 0 stands.open_ in
    let began = added nodes items at sample seq node (Begins 0) none now stands later within turn (omega (arith, few)) there (set, closed)
    (begun items sample 0 seq node 0 none now closed (λ e n i. refl) stands.open_) in
    let open_first : is_open first 0 node 0 ≡ true = open_is_kept first now 0 node 0 began.open_ ∙ here in
    let performed = added nodes first sample sample (seq + 1) node (Performs 0 value) now now began (omega arith) within (omega (arith, turn, long)) (omega (arith, few, long)) there (set, open_first, most)
    (same_kept first perform now now (λ e n i. refl) (λ e n i. refl) (λ e n i. refl) began.open_) in
    let open_second : is_open second 0 node 0 ≡ true = open_is_kept second now 0 node 0 performed.open_ ∙ here in
    let over : (e n i : ℕ) → false ≡ cond (same_key 0 node 0 e n i) false (now e n i) = λ e n i. elim (same_key 0 node 0 e n i) as (λ t. false ≡ cond t false (cond t true false)) [ true ↦ refl | false ↦ refl ] in
    let ended_ = added nodes second sample sample (seq + 2) node (Ends 0) now none performed (omega arith) within (omega (arith, turn, long, longer)) (omega (arith, few, long, longer)) there (set, open_second)
    (ended second sample 0 (seq + 2) node 0 now none open_second over performed.open_) in
    subst (λ l. Standing nodes l sample none) (three_more items begin perform end) ended_

settable : (known : List ClassInfo) (kinds : List ℕ) → BeginsBuiltIn known → (node : ℕ) → node < length kinds → slice_index kinds node < 8 → is_meter (slice_index kinds node) ≡ false → IsSettable (nodes_of known kinds) node 0
settable known kinds begins node lt below other =
    let first = first_info known kinds begins node lt below in
    record {
      number = omega arith;
      writable = ap is_writable first.1 ∙ ap flags.is_writable (first.2 ∙ ap flags_of other);
    }

-- the entries of the first gestures, so many
pub stands_to : (known : List ClassInfo) (kinds : List ℕ) → BeginsBuiltIn known → All (λ kind. kind < 8) kinds → 1 ≤ length kinds → (state n : ℕ) → n ≤ 170
    → Standing (nodes_of known kinds) (items_of (entries_to kinds state n)) (384 * n) none × (length (entries_to kinds state n) ≤ 3 * n)
unfolding entries_to
stands_to known kinds begins each some state zero most = (record { are = λ i d lt. absurd (omega (arith, lt)); turns = refl; last = omega arith; open_ = λ e n i. refl }, omega arith)
stands_to known kinds begins each some state (suc n) most =
    let nodes : List Node = nodes_of known kinds in
    let before : List Entry = entries_to kinds state n in
    let items : List Item = items_of before in
    let s : ℕ = gesture_state kinds state n in
    let node : ℕ = touched_node kinds s in
    let value : ℕ = drawn_value s 1 in
    let seq : ℕ = length before in
    let held = stands_to known kinds begins each some state n (omega (arith, most)) in
    let few = held.1 in
    let long = length-map before item_of in
    let wide = length-map-range_with_len (node_of known kinds) 0 (length kinds) in
    let there : node < length kinds = mod-lt (behind 1 s / 2 ^ 16) (omega (arith, some)) in
    let below : draw s 1 65536 < 65536 = mod-lt (behind 2 s / 2 ^ 16) (omega arith) in
    let P : List Entry → Type 0 = λ l. Standing nodes (items_of (before ++ l)) (384 * suc n) none × (length (before ++ l) ≤ 3 * suc n) in
    let weaker : (l : List Item) → Standing nodes l (384 * n) none → Standing nodes l (384 * suc n) none = λ l stands. let last = stands.last in record { are = stands.are; turns = stands.turns; last = omega (arith, last); open_ = stands.open_ } in
    elim (touches_meter kinds s) as (λ b. touches_meter kinds s ≡ b → P (cond b (entry n seq (Tell node one_zero) ∷ []) (edit_of n seq node value))) [
      | true ↦ λ is.
          let tell : List Entry = entry n seq (Tell node one_zero) ∷ [] in
          let more = length-append before tell in (
            subst (λ l. Standing nodes l (384 * suc n) none) (sym (map-append item_of before tell))
                (weaker (items ++ items_of tell) (told nodes items (384 * n) (384 * n) seq node held.0 (omega arith) (omega (arith, most)) (sym long) (omega (arith, long, few, most)) (omega (arith, there, wide)))),
            omega (arith, more, few),
          )
      | false ↦ λ is.
          let edit : List Entry = edit_of n seq node value in
          let more = length-append before edit in (
            subst (λ l. Standing nodes l (384 * suc n) none) (sym (map-append item_of before edit))
                (weaker (items ++ items_of edit) (edited nodes items (384 * n) (384 * n) seq node value held.0 (omega arith) (omega (arith, most)) (sym long) (omega (arith, long, few, most)) (omega (arith, there, wide))
                (settable known kinds begins node there (each node 0 there) is) (omega (arith, below)))),
            omega (arith, more, few),
          )
    ] refl

-- the whole journal is one
pub are_entries : (known : List ClassInfo) (kinds : List ℕ) → BeginsBuiltIn known → All (λ kind. kind < 8) kinds → 1 ≤ length kinds → (state : ℕ) → AreEntries (nodes_of known kinds) 65536 (items_of (entries_to kinds state 170))
are_entries known kinds begins each some state = (stands_to known kinds begins each some state 170 (omega arith)).0.are

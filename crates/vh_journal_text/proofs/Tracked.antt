-- What is kept of the entries stands for them with one more.
use Rattle.std.proofs.Common.{◌≡◌, ◌≢◌, ◌∙◌, ℕ, ◌+◌, ◌<◌, Bool, true, false, cond, List, [], ◌∷◌, ◌++◌, length, set, get_or, refl, sym, ap, subst, zero-add, arith}
use Rattle.std.specs.Prelude.{◌&&◌, ◌==◌, count_by}
use Rattle.std.proofs.lemmas.Bool.{and_parts, eqb-true, eqb-false, ltb-true, lt-ltb}
use Rattle.std.proofs.lemmas.List.{get_or-set_same, get_or-set_other}
use Rattle.std.proofs.lemmas.List.Sums.{sum_by-append}
use Rattle.vh_journal_text.specs.Items.{Begins, Performs, Ends, Item, act_of, node_of}
use Rattle.vh_journal_text.specs.Rules.{count_of, is_begin, is_end, begins_of, ends_of, is_open}
use Rattle.vh_params.specs.declared.command.Command.{Command}
use Rattle.vh_params.specs.declared.command.Command.TheVariants.{Begin, Perform, End, Tell}
use Rattle.vh_journal_text.specs.Standing.{Gestures, same_key, has_gesture, IsKept}
use Rattle.vh_journal_text.specs.Steps.{KeepsTurns}

-- how many of a list with one more pass a test
pub count_more : {A : Type 0} (p : A → Bool) (xs : List A) (x : A) → count_by p (xs ++ x ∷ []) ≡ count_by p xs + cond (p x) 1 0
count_more p xs x = sum_by-append (λ y. cond (p y) 1 0) xs (x ∷ []) ∙ ap (λ n. count_by p xs + n) (zero-add (cond (p x) 1 0))

-- whether a gesture is open, as 1 or 0
abbrev pub bit : Bool → ℕ
bit kept = cond kept 1 0

-- what is kept of the gestures stands for them
abbrev pub AreKept : List Item → (ℕ → ℕ → ℕ → Bool) → Type 0
AreKept items kept = (editor node id : ℕ) → begins_of items editor node id ≡ ends_of items editor node id + bit (kept editor node id)

pub open_is_kept : (items : List Item) (kept : ℕ → ℕ → ℕ → Bool) (editor node id : ℕ) → AreKept items kept → is_open items editor node id ≡ kept editor node id
open_is_kept items kept editor node id are =
    let e = are editor node id in
    elim (kept editor node id) as (λ t. begins_of items editor node id ≡ ends_of items editor node id + bit t → is_open items editor node id ≡ t) [
      | true ↦ λ same. lt-ltb (ends_of items editor node id) (begins_of items editor node id) (omega (arith, same))
      | false ↦ λ same. elim (is_open items editor node id) as (λ t. is_open items editor node id ≡ t → t ≡ false) [
        | true ↦ λ is_on. absurd (let lt = ltb-true (ends_of items editor node id) (begins_of items editor node id) is_on in omega (arith, lt, same))
        | false ↦ λ is_on. refl
      ] refl
    ] e

-- one entry more

pub same_kept : (items : List Item) (item : Item) (kept now : ℕ → ℕ → ℕ → Bool) → ((e n i : ℕ) → is_begin e n i item item.act ≡ false) → ((e n i : ℕ) → is_end e n i item item.act ≡ false)
    → ((e n i : ℕ) → now e n i ≡ kept e n i) → AreKept items kept → AreKept (items ++ item ∷ []) now
same_kept items item kept now none_begins none_ends same are e n i =
    let a = count_more (λ (x : Item). is_begin e n i x x.act) items item in
    let b = count_more (λ (x : Item). is_end e n i x x.act) items item in
    let a0 : bit (is_begin e n i item item.act) ≡ 0 = ap bit (none_begins e n i) in
    let b0 : bit (is_end e n i item item.act) ≡ 0 = ap bit (none_ends e n i) in
    let k : bit (now e n i) ≡ bit (kept e n i) = ap bit (same e n i) in
    let was = are e n i in
    omega (arith, a, b, a0, b0, k, was)

is_same : (editor node id e n i : ℕ) → same_key editor node id e n i ≡ true → (editor ≡ e) × (node ≡ n) × (id ≡ i)
is_same editor node id e n i is =
    let first = and_parts (editor == e) ((node == n) && (id == i)) is in
    let rest = and_parts (node == n) (id == i) first.1 in
    (eqb-true editor e first.0, eqb-true node n rest.0, eqb-true id i rest.1)

pub begun : (items : List Item) (sample editor seq node id : ℕ) (kept now : ℕ → ℕ → ℕ → Bool) → is_open items editor node id ≡ false → ((e n i : ℕ) → now e n i ≡ cond (same_key editor node id e n i) true (kept e n i))
    → AreKept items kept → AreKept (items ++ record { sample = sample; editor = editor; seq = seq; node = node; act = Begins id } ∷ []) now
begun items sample editor seq node id kept now closed is are e n i =
    let item : Item = record { sample = sample; editor = editor; seq = seq; node = node; act = Begins id } in
    let a = count_more (λ (x : Item). is_begin e n i x x.act) items item in
    let b = count_more (λ (x : Item). is_end e n i x x.act) items item in
    let was = are e n i in
    elim (same_key editor node id e n i) as (λ t. same_key editor node id e n i ≡ t → begins_of (items ++ item ∷ []) e n i ≡ begins_of items e n i + bit t → now e n i ≡ cond t true (kept e n i) → begins_of (items ++ item ∷ []) e n i ≡ ends_of (items ++ item ∷ []) e n i + bit (now e n i)) [
      | true ↦ λ test more next.
          let same = is_same editor node id e n i test in
          let closed_ : kept e n i ≡ false = sym (open_is_kept items kept e n i are) ∙ sym (λ k. is_open items (same.0 k) (same.1 k) (same.2 k)) ∙ closed in
          let k : bit (kept e n i) ≡ 0 = ap bit closed_ in
          let l : bit (now e n i) ≡ 1 = ap bit next in
          omega (arith, a, b, was, k, l, more)
      | false ↦ λ test more next. let l : bit (now e n i) ≡ bit (kept e n i) = ap bit next in omega (arith, a, b, was, l, more)
    ] refl a (is e n i)

pub ended : (items : List Item) (sample editor seq node id : ℕ) (kept now : ℕ → ℕ → ℕ → Bool) → is_open items editor node id ≡ true → ((e n i : ℕ) → now e n i ≡ cond (same_key editor node id e n i) false (kept e n i))
    → AreKept items kept → AreKept (items ++ record { sample = sample; editor = editor; seq = seq; node = node; act = Ends id } ∷ []) now
ended items sample editor seq node id kept now opened is are e n i =
    let item : Item = record { sample = sample; editor = editor; seq = seq; node = node; act = Ends id } in
    let a = count_more (λ (x : Item). is_begin e n i x x.act) items item in
    let b = count_more (λ (x : Item). is_end e n i x x.act) items item in
    let was = are e n i in
    elim (same_key editor node id e n i) as (λ t. same_key editor node id e n i ≡ t → ends_of (items ++ item ∷ []) e n i ≡ ends_of items e n i + bit t → now e n i ≡ cond t false (kept e n i) → begins_of (items ++ item ∷ []) e n i ≡ ends_of (items ++ item ∷ []) e n i + bit (now e n i)) [
      | true ↦ λ test more next.
          let same = is_same editor node id e n i test in
          let opened_ : kept e n i ≡ true = sym (open_is_kept items kept e n i are) ∙ sym (λ k. is_open items (same.0 k) (same.1 k) (same.2 k)) ∙ opened in
          let k : bit (kept e n i) ≡ 1 = ap bit opened_ in
          let l : bit (now e n i) ≡ 0 = ap bit next in
          omega (arith, a, b, was, k, l, more)
      | false ↦ λ test more next. let l : bit (now e n i) ≡ bit (kept e n i) = ap bit next in omega (arith, a, b, was, l, more)
    ] refl b (is e n i)

-- the counts of the editors
pub counted : (items : List Item) (item : Item) (counts : List ℕ) → length counts ≡ 8 → item.editor < 8 → ((e : ℕ) → e < 8 → get_or counts e 0 ≡ count_of items e)
    → (e : ℕ) → e < 8 → get_or (set counts item.editor (get_or counts item.editor 0 + 1)) e 0 ≡ count_of (items ++ item ∷ []) e
counted items item counts long within are e lt =
    let more = count_more (λ (x : Item). x.editor == e) items item in
    let was = are e lt in
    elim (item.editor == e) as (λ t. (item.editor == e) ≡ t → count_of (items ++ item ∷ []) e ≡ count_of items e + bit t → get_or (set counts item.editor (get_or counts item.editor 0 + 1)) e 0 ≡ count_of (items ++ item ∷ []) e) [
      | true ↦ λ test next.
          let same = eqb-true item.editor e test in
          let room : item.editor < length counts = omega (arith, long, within) in
          let there : get_or (set counts item.editor (get_or counts item.editor 0 + 1)) item.editor 0 ≡ get_or counts item.editor 0 + 1 = get_or-set_same counts item.editor (get_or counts item.editor 0 + 1) 0 room in
          let here : get_or (set counts item.editor (get_or counts item.editor 0 + 1)) e 0 ≡ get_or counts item.editor 0 + 1 = subst (λ k. get_or (set counts item.editor (get_or counts item.editor 0 + 1)) k 0 ≡ get_or counts item.editor 0 + 1) same there in
          let old : get_or counts item.editor 0 ≡ get_or counts e 0 = ap (λ k. get_or counts k 0) same in
          omega (arith, here, old, was, next)
      | false ↦ λ test next.
          let differ : e ≢ item.editor = λ same. absurd (eqb-false item.editor e test (sym same)) in
          let here : get_or (set counts item.editor (get_or counts item.editor 0 + 1)) e 0 ≡ get_or counts e 0 = get_or-set_other counts item.editor e (get_or counts item.editor 0 + 1) 0 differ in
          omega (arith, here, was, next)
    ] refl more

-- the gestures that are kept, whatever the command does
pub tracked : (items : List Item) (sample editor seq : ℕ) (command : Command) (before after : Gestures) → KeepsTurns items editor (node_of command) (act_of command) → IsKept before after editor command → AreKept items (has_gesture before)
    → AreKept (items ++ record { sample = sample; editor = editor; seq = seq; node = node_of command; act = act_of command } ∷ []) (has_gesture after)
tracked items sample editor seq (Begin node id) before after turns kept are = begun items sample editor seq node id (has_gesture before) (has_gesture after) turns kept are
tracked items sample editor seq (Perform node id value) before after turns kept are = same_kept items (record { sample = sample; editor = editor; seq = seq; node = node; act = Performs id value }) (has_gesture before) (has_gesture after) (λ e n i. refl) (λ e n i. refl) kept are
tracked items sample editor seq (End node id) before after turns kept are = ended items sample editor seq node id (has_gesture before) (has_gesture after) turns kept are
tracked items sample editor seq (Tell node words) before after turns kept are = same_kept items (record { sample = sample; editor = editor; seq = seq; node = node; act = act_of (Tell node words) }) (has_gesture before) (has_gesture after) (λ e n i. refl) (λ e n i. refl) kept are

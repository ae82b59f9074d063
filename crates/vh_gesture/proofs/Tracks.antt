-- A table's numbers go with the accepted words, one word after another.
use Rattle.std.proofs.Common.{◌≡◌, ℕ, ◌+◌, ◌-◌, ◌<◌, ◌^◌, Bool, true, false, not, ◌&&◌, ◌==◌, nat_lt, cond, List, [], ◌∷◌, ◌++◌, length, set, get_or, replicate, Option, Some, None, is_none, if◌then◌else◌, refl, sym, ap, ◌∙◌, subst, arith, append-nil, append_assoc, ◌≢◌, ◌≤◌, ⊎_elim}
use Rattle.std.specs.List.{All, AllByRecursion, filter}
use Rattle.std.proofs.lemmas.Bool.{and_parts, eqb-true, eqb-false, not-true, eq-eqb, cases_lt, true≢false}
use Rattle.std.proofs.lemmas.List.{get_or-set_same, get_or-set_other, get_or-replicate, get_or_past, length-set, length-replicate}
use Rattle.std.proofs.lemmas.List.Elements.{recursion_from_All}
use Rattle.vh_params.specs.Nodes.{Node}
use Rattle.vh_params.specs.declared.command.Command.{Command}
use Rattle.vh_params.specs.declared.command.Command.TheVariants.{Begin, Perform, End, Tell}
use Rattle.vh_params.specs.declared.command.Word.{Word}
use Rattle.vh_params.specs.declared.command.Word.TheVariants.{Edit, Hold, Unhold, Wait}
use Rattle.vh_gesture.specs.declared.fault.GestureFault.{GestureFault}
use Rattle.vh_gesture.specs.declared.fault.GestureFault.TheVariants.{NoReference, TooManyHolds, OutOfRange, AlreadyOpen, NotOpen}
use Rattle.vh_gesture.specs.declared.gestures.References.{References}
use Rattle.vh_gesture.specs.Rules.{Counts, Rule, fault, first_fault, no_reference, unknown, read_only, not_open, NamesNode}
use Rattle.vh_gesture.specs.Scripts.{is_hold, is_drop, is_begin, is_end, is_wait, count, counts_after, is_accepted, accepted_behind}
use Rattle.vh_gesture.specs.Tables.{Table, one_reference, references_at, is_open, counts_in, fault_at, fresh, mark, after, IsOf, accepts, accepted_by, table_after, held_once_more, held_once_less}
use Rattle.vh_gesture.specs.Laws.{AreSame}
use Rattle.vh_gesture.proofs.Judged.{passes}
use Rattle.vh_gesture.proofs.Marks.{has_gate, opened_here, closed_here, same_elsewhere, keys_kept, closed_at_first, gate_is_there}

-- the table is what these accepted words make of a fresh one
pub record Tracks (nodes : List Node) (table : Table) (before : List Word) : Type 0 where
  pub of_nodes : IsOf nodes table
  pub holds : (node : ℕ) → (references_at table node).holds ≡ count (is_hold node) before
  pub held : (node : ℕ) → (references_at table node).held + count (is_drop node) before ≡ 1 + count (is_hold node) before
  pub opened : (node id : ℕ) → (if is_open table.gates node id then 1 else 0) + count (is_end node id) before ≡ count (is_begin node id) before

abbrev number : Bool → ℕ
number b = if b then 1 else 0

number-true : (b : Bool) → b ≡ true → number b ≡ 1
number-true b so = ap number so

number-false : (b : Bool) → b ≡ false → number b ≡ 0
number-false b not_so = ap number not_so

count-push : (is : Word → Bool) (words : List Word) (word : Word) → count is (words ++ word ∷ []) ≡ count is words + (if is word then 1 else 0)
count-push is [] word = by_cases (is word)
  where
    by_cases : (b : Bool) → length (cond b (word ∷ []) []) ≡ 0 + (if b then 1 else 0)
    by_cases true = refl
    by_cases false = refl
count-push is (first ∷ words) word = by_cases (is first) (count-push is words word)
  where
    by_cases : (b : Bool) → count is (words ++ word ∷ []) ≡ count is words + (if is word then 1 else 0)
        → length (cond b (first ∷ filter is (words ++ word ∷ [])) (filter is (words ++ word ∷ []))) ≡ length (cond b (first ∷ filter is words) (filter is words)) + (if is word then 1 else 0)
    by_cases true h = omega arith
    by_cases false h = h

count_yes : (is : Word → Bool) (words : List Word) (word : Word) → is word ≡ true → count is (words ++ word ∷ []) ≡ count is words + 1
count_yes is words word so = count-push is words word ∙ ap (λ b. count is words + (if b then 1 else 0)) so

count_no : (is : Word → Bool) (words : List Word) (word : Word) → is word ≡ false → count is (words ++ word ∷ []) ≡ count is words
count_no is words word not_so = let h : count is (words ++ word ∷ []) ≡ count is words + 0 = count-push is words word ∙ ap (λ b. count is words + (if b then 1 else 0)) not_so in omega arith

pub tracked_same : {nodes : List Node} {table : Table} {before : List Word} → Tracks nodes table before → AreSame (counts_in table) (counts_after before)
tracked_same {nodes} {table} {before} t = record {
  holds = t.holds;
  held = λ node. let h = t.held node in omega arith;
  opened = λ node id. let h = t.opened node id in omega arith;
}

-- the rules look at the counts alone
same_fault : (nodes : List Node) (one other : Counts) (word : Word) → AreSame one other → fault nodes one word ≡ fault nodes other word
same_fault nodes one other (Edit (Begin node id)) same =
    λ i. first_fault ((same.held node i == 0, NoReference) ∷ unknown nodes node id ∷ read_only nodes node id ∷ (not (same.opened node id i == 0), AlreadyOpen) ∷ [])
same_fault nodes one other (Edit (Perform node id value)) same =
    λ i. first_fault ((same.held node i == 0, NoReference) ∷ unknown nodes node id ∷ read_only nodes node id ∷ (nat_lt (2 ^ 24) value, OutOfRange value) ∷ (not (same.opened node id i == 1), NotOpen) ∷ [])
same_fault nodes one other (Edit (End node id)) same =
    λ i. first_fault ((same.held node i == 0, NoReference) ∷ unknown nodes node id ∷ read_only nodes node id ∷ (not (same.opened node id i == 1), NotOpen) ∷ [])
same_fault nodes one other (Edit (Tell node words)) same = λ i. first_fault ((same.held node i == 0, NoReference) ∷ [])
same_fault nodes one other (Hold node) same = λ i. first_fault ((same.held node i == 0, NoReference) ∷ (not (nat_lt (same.holds node i) 64), TooManyHolds) ∷ [])
same_fault nodes one other (Unhold node) same = λ i. first_fault ((same.held node i == 0, NoReference) ∷ [])
same_fault nodes one other (Wait block) same = refl

-- the part on holds and references, of a word that is neither a hold nor a drop
record Counted (table : Table) (before : List Word) : Type 0 where
  holds : (node : ℕ) → (references_at table node).holds ≡ count (is_hold node) before
  held : (node : ℕ) → (references_at table node).held + count (is_drop node) before ≡ 1 + count (is_hold node) before

counted_edit : {nodes : List Node} (table : Table) (before : List Word) (command : Command) → Tracks nodes table before → Counted table (before ++ Edit command ∷ [])
counted_edit table before command t = record {
  holds = λ node. t.holds node ∙ sym (count_no (is_hold node) before (Edit command) refl);
  held = λ node.
      let h = t.held node in
      let p = count_no (is_hold node) before (Edit command) refl in
      let q = count_no (is_drop node) before (Edit command) refl in
      omega arith;
}

tracks_begin : (nodes : List Node) (table : Table) (before : List Word) (node id : ℕ) → is_open table.gates node id ≡ false → has_gate table.gates node id ≡ true
    → Tracks nodes table before → Tracks nodes (after table (Edit (Begin node id))) (before ++ Edit (Begin node id) ∷ [])
tracks_begin nodes table before node id closed there t = record {
  of_nodes = record { count = t.of_nodes.count; keys = keys_kept node id true table.gates ∙ t.of_nodes.keys };
  holds = counted.holds;
  held = counted.held;
  opened = λ other key. at other key ((node == other) && (id == key)) refl;
}
  where
    word : Word
    word = Edit (Begin node id)

    counted : Counted table (before ++ word ∷ [])
    counted = counted_edit table before (Begin node id) t

    Goal : ℕ → ℕ → Type 0
    Goal other key = (if is_open (mark node id true table.gates) other key then 1 else 0) + count (is_end other key) (before ++ word ∷ []) ≡ count (is_begin other key) (before ++ word ∷ [])

    here : Goal node id
    here =
        let o = number-true (is_open (mark node id true table.gates) node id) (opened_here node id table.gates ∙ there) in
        let c = number-false (is_open table.gates node id) closed in
        let h = t.opened node id in
        let p = count_yes (is_begin node id) before word (λ i. eq-eqb node node refl i && eq-eqb id id refl i) in
        let q = count_no (is_end node id) before word refl in
        omega arith

    at : (other key : ℕ) (b : Bool) → ((node == other) && (id == key)) ≡ b → Goal other key
    at other key true same =
        let both = and_parts (node == other) (id == key) same in
        subst (λ (k : ℕ × ℕ). Goal k.0 k.1) (λ i. (eqb-true node other both.0 i, eqb-true id key both.1 i)) here
    at other key false apart =
        let o = ap number (same_elsewhere node id true other key table.gates apart) in
        let h = t.opened other key in
        let p = count_no (is_begin other key) before word apart in
        let q = count_no (is_end other key) before word refl in
        omega arith

tracks_end : (nodes : List Node) (table : Table) (before : List Word) (node id : ℕ) → is_open table.gates node id ≡ true
    → Tracks nodes table before → Tracks nodes (after table (Edit (End node id))) (before ++ Edit (End node id) ∷ [])
tracks_end nodes table before node id open_ t = record {
  of_nodes = record { count = t.of_nodes.count; keys = keys_kept node id false table.gates ∙ t.of_nodes.keys };
  holds = counted.holds;
  held = counted.held;
  opened = λ other key. at other key ((node == other) && (id == key)) refl;
}
  where
    word : Word
    word = Edit (End node id)

    counted : Counted table (before ++ word ∷ [])
    counted = counted_edit table before (End node id) t

    Goal : ℕ → ℕ → Type 0
    Goal other key = (if is_open (mark node id false table.gates) other key then 1 else 0) + count (is_end other key) (before ++ word ∷ []) ≡ count (is_begin other key) (before ++ word ∷ [])

    here : Goal node id
    here =
        let o = number-false (is_open (mark node id false table.gates) node id) (closed_here node id table.gates) in
        let c = number-true (is_open table.gates node id) open_ in
        let h = t.opened node id in
        let p = count_yes (is_end node id) before word (λ i. eq-eqb node node refl i && eq-eqb id id refl i) in
        let q = count_no (is_begin node id) before word refl in
        omega arith

    at : (other key : ℕ) (b : Bool) → ((node == other) && (id == key)) ≡ b → Goal other key
    at other key true same =
        let both = and_parts (node == other) (id == key) same in
        subst (λ (k : ℕ × ℕ). Goal k.0 k.1) (λ i. (eqb-true node other both.0 i, eqb-true id key both.1 i)) here
    at other key false apart =
        let o = ap number (same_elsewhere node id false other key table.gates apart) in
        let h = t.opened other key in
        let p = count_no (is_end other key) before word apart in
        let q = count_no (is_begin other key) before word refl in
        omega arith

-- an edit that neither opens nor closes
tracks_edit : (nodes : List Node) (table : Table) (before : List Word) (command : Command)
    → ((node id : ℕ) → is_begin node id (Edit command) ≡ false) → ((node id : ℕ) → is_end node id (Edit command) ≡ false)
    → Tracks nodes table before → Tracks nodes table (before ++ Edit command ∷ [])
tracks_edit nodes table before command no_begin no_end t = let counted = counted_edit table before command t in record {
  of_nodes = t.of_nodes;
  holds = counted.holds;
  held = counted.held;
  opened = λ node id.
      let h = t.opened node id in
      let p = count_no (is_begin node id) before (Edit command) (no_begin node id) in
      let q = count_no (is_end node id) before (Edit command) (no_end node id) in
      omega arith;
}

tracks_hold : (nodes : List Node) (table : Table) (before : List Word) (node : ℕ) → node < length nodes
    → Tracks nodes table before → Tracks nodes (after table (Hold node)) (before ++ Hold node ∷ [])
tracks_hold nodes table before node within t = record {
  of_nodes = record { count = length-set table.references node more ∙ t.of_nodes.count; keys = t.of_nodes.keys };
  holds = λ other. (at other (node == other) refl).0;
  held = λ other. (at other (node == other) refl).1;
  opened = λ other key.
      let h = t.opened other key in
      let p = count_no (is_begin other key) before word refl in
      let q = count_no (is_end other key) before word refl in
      omega arith;
}
  where
    word : Word
    word = Hold node

    more : References
    more = held_once_more (references_at table node)

    new : ℕ → References
    new other = get_or (set table.references node more) other one_reference

    Goal : ℕ → Type 0
    Goal other = ((new other).holds ≡ count (is_hold other) (before ++ word ∷ [])) × ((new other).held + count (is_drop other) (before ++ word ∷ []) ≡ 1 + count (is_hold other) (before ++ word ∷ []))

    here : Goal node
    here =
        let inside : node < length table.references = omega (arith, t.of_nodes.count) in
        let r = get_or-set_same table.references node more one_reference inside in
        let a : (new node).holds ≡ (references_at table node).holds + 1 = ap (λ (r : References). r.holds) r in
        let b : (new node).held ≡ (references_at table node).held + 1 = ap (λ (r : References). r.held) r in
        let h = t.holds node in
        let k = t.held node in
        let p = count_yes (is_hold node) before word (eq-eqb node node refl) in
        let q = count_no (is_drop node) before word refl in
        (omega arith, omega arith)

    at : (other : ℕ) (b : Bool) → (node == other) ≡ b → Goal other
    at other true same = subst Goal (eqb-true node other same) here
    at other false apart =
        let r = get_or-set_other table.references node other more one_reference (λ e. eqb-false node other apart (sym e)) in
        let a : (new other).holds ≡ (references_at table other).holds = ap (λ (r : References). r.holds) r in
        let b : (new other).held ≡ (references_at table other).held = ap (λ (r : References). r.held) r in
        let h = t.holds other in
        let k = t.held other in
        let p = count_no (is_hold other) before word apart in
        let q = count_no (is_drop other) before word refl in
        (omega arith, omega arith)

tracks_drop : (nodes : List Node) (table : Table) (before : List Word) (node : ℕ) → node < length nodes → (references_at table node).held ≢ 0
    → Tracks nodes table before → Tracks nodes (after table (Unhold node)) (before ++ Unhold node ∷ [])
tracks_drop nodes table before node within held_one t = record {
  of_nodes = record { count = length-set table.references node less ∙ t.of_nodes.count; keys = t.of_nodes.keys };
  holds = λ other. (at other (node == other) refl).0;
  held = λ other. (at other (node == other) refl).1;
  opened = λ other key.
      let h = t.opened other key in
      let p = count_no (is_begin other key) before word refl in
      let q = count_no (is_end other key) before word refl in
      omega arith;
}
  where
    word : Word
    word = Unhold node

    less : References
    less = held_once_less (references_at table node)

    new : ℕ → References
    new other = get_or (set table.references node less) other one_reference

    Goal : ℕ → Type 0
    Goal other = ((new other).holds ≡ count (is_hold other) (before ++ word ∷ [])) × ((new other).held + count (is_drop other) (before ++ word ∷ []) ≡ 1 + count (is_hold other) (before ++ word ∷ []))

    here : Goal node
    here =
        let inside : node < length table.references = omega (arith, t.of_nodes.count) in
        let r = get_or-set_same table.references node less one_reference inside in
        let a : (new node).holds ≡ (references_at table node).holds = ap (λ (r : References). r.holds) r in
        let b : (new node).held ≡ (references_at table node).held - 1 = ap (λ (r : References). r.held) r in
        let h = t.holds node in
        let k = t.held node in
        let p = count_no (is_hold node) before word refl in
        let q = count_yes (is_drop node) before word (eq-eqb node node refl) in
        (omega arith, omega (arith, held_one))

    at : (other : ℕ) (b : Bool) → (node == other) ≡ b → Goal other
    at other true same = subst Goal (eqb-true node other same) here
    at other false apart =
        let r = get_or-set_other table.references node other less one_reference (λ e. eqb-false node other apart (sym e)) in
        let a : (new other).holds ≡ (references_at table other).holds = ap (λ (r : References). r.holds) r in
        let b : (new other).held ≡ (references_at table other).held = ap (λ (r : References). r.held) r in
        let h = t.holds other in
        let k = t.held other in
        let p = count_no (is_hold other) before word refl in
        let q = count_no (is_drop other) before word apart in
        (omega arith, omega arith)

is_one : (b : Bool) → not ((if b then 1 else 0) == 1) ≡ false → b ≡ true
is_one true h = refl
is_one false h = absurd (true≢false h)

is_zero : (b : Bool) → not ((if b then 1 else 0) == 0) ≡ false → b ≡ false
is_zero true h = absurd (true≢false h)
is_zero false h = refl

-- one accepted word
tracks_more : (nodes : List Node) (table : Table) (before : List Word) (word : Word) → NamesNode nodes word → is_wait word ≡ false → fault_at nodes table word ≡ None
    → Tracks nodes table before → Tracks nodes (after table word) (before ++ word ∷ [])
tracks_more nodes table before (Edit (Begin node id)) names own none t =
    let counts = counts_in table in
    let already : Rule = (not (counts.opened node id == 0), AlreadyOpen) in
    let one = passes (no_reference counts node) (unknown nodes node id ∷ read_only nodes node id ∷ already ∷ []) none in
    let two = passes (unknown nodes node id) (read_only nodes node id ∷ already ∷ []) one.1 in
    let three = passes (read_only nodes node id) (already ∷ []) two.1 in
    let four = passes already [] three.1 in
    tracks_begin nodes table before node id (is_zero (is_open table.gates node id) four.0) (gate_is_there nodes table.gates node id t.of_nodes.keys names two.0) t
tracks_more nodes table before (Edit (Perform node id value)) names own none t = tracks_edit nodes table before (Perform node id value) (λ _ _. refl) (λ _ _. refl) t
tracks_more nodes table before (Edit (End node id)) names own none t =
    let counts = counts_in table in
    let one = passes (no_reference counts node) (unknown nodes node id ∷ read_only nodes node id ∷ not_open counts node id ∷ []) none in
    let two = passes (unknown nodes node id) (read_only nodes node id ∷ not_open counts node id ∷ []) one.1 in
    let three = passes (read_only nodes node id) (not_open counts node id ∷ []) two.1 in
    let four = passes (not_open counts node id) [] three.1 in
    tracks_end nodes table before node id (is_one (is_open table.gates node id) four.0) t
tracks_more nodes table before (Edit (Tell node words)) names own none t = tracks_edit nodes table before (Tell node words) (λ _ _. refl) (λ _ _. refl) t
tracks_more nodes table before (Hold node) names own none t = tracks_hold nodes table before node names t
tracks_more nodes table before (Unhold node) names own none t =
    let one = passes (no_reference (counts_in table) node) [] none in
    tracks_drop nodes table before node names (λ zero_. eqb-false (references_at table node).held 0 one.0 zero_) t
tracks_more nodes table before (Wait block) names own none t = absurd (true≢false own)

-- nothing was accepted yet
pub tracks_fresh : (nodes : List Node) → Tracks nodes (fresh nodes) []
tracks_fresh nodes = record {
  of_nodes = record { count = length-replicate (length nodes) one_reference; keys = refl };
  holds = λ node. ap (λ (r : References). r.holds) (first node);
  held = λ node. ap (λ (r : References). r.held + 0) (first node);
  opened = λ node id. ap (λ (b : Bool). (if b then 1 else 0) + 0) (closed_at_first 0 nodes node id);
}
  where
    first : (node : ℕ) → references_at (fresh nodes) node ≡ one_reference
    first node = ⊎_elim (λ (within : node < length nodes). get_or-replicate (length nodes) node one_reference one_reference within)
        (λ (past : length nodes ≤ node). get_or_past (replicate (length nodes) one_reference) node one_reference (omega (arith, length-replicate (length nodes) one_reference)))
        (cases_lt node (length nodes))

-- what a table and the rules on words make of the words that follow
pub record Follows (nodes : List Node) (table : Table) (before words : List Word) : Type 0 where
  pub accepted : accepted_by nodes table words ≡ accepted_behind nodes before words
  pub behind : Tracks nodes (table_after nodes table words) (before ++ accepted_behind nodes before words)

accepts_same : (nodes : List Node) (table : Table) (before : List Word) (word : Word) → Tracks nodes table before → is_accepted nodes before word ≡ accepts nodes table word
accepts_same nodes table before word t = ap (λ fault. not (is_wait word) && is_none fault) (sym (same_fault nodes (counts_in table) (counts_after before) word (tracked_same t)))

none_from : (fault : Option GestureFault) → is_none fault ≡ true → fault ≡ None
none_from None h = refl
none_from (Some fault) h = absurd (true≢false (sym h))

pub follows : (nodes : List Node) (table : Table) (before words : List Word) → AllByRecursion (NamesNode nodes) words → Tracks nodes table before → Follows nodes table before words
follows nodes table before [] names t = record { accepted = refl; behind = subst (Tracks nodes table) (sym (append-nil before)) t }
follows nodes table before (word ∷ words) names t =
    let same = accepts_same nodes table before word t in
    let both : Goal (accepts nodes table word) (accepts nodes table word) = by_cases (accepts nodes table word) refl
    (λ more. follows nodes (after table word) (before ++ word ∷ []) words names.1 more) (follows nodes table before words names.1 t) in
    let said = subst (Goal (accepts nodes table word)) (sym same) both in
    record { accepted = said.0; behind = said.1 }
  where
    Goal : Bool → Bool → Type 0
    Goal by_table by_words =
        ((if by_table then word ∷ accepted_by nodes (after table word) words else accepted_by nodes table words)
        ≡ (if by_words then word ∷ accepted_behind nodes (before ++ word ∷ []) words else accepted_behind nodes before words))
        × Tracks nodes (if by_table then table_after nodes (after table word) words else table_after nodes table words)
        (before ++ (if by_words then word ∷ accepted_behind nodes (before ++ word ∷ []) words else accepted_behind nodes before words))

    by_cases : (b : Bool) → accepts nodes table word ≡ b
        → (Tracks nodes (after table word) (before ++ word ∷ []) → Follows nodes (after table word) (before ++ word ∷ []) words) → Follows nodes table before words → Goal b b
    by_cases true so accepted_ refused_ =
        let both = and_parts (not (is_wait word)) (is_none (fault_at nodes table word)) so in
        let f = accepted_ (tracks_more nodes table before word names.0 (not-true (is_wait word) both.0) (none_from (fault_at nodes table word) both.1) t) in
        (ap (λ ws. word ∷ ws) f.accepted, subst (Tracks nodes (table_after nodes (after table word) words)) (append_assoc before (word ∷ []) (accepted_behind nodes (before ++ word ∷ []) words)) f.behind)
    by_cases false not_so accepted_ refused_ = (refused_.accepted, refused_.behind)

-- from a fresh table on
pub follows_fresh : (nodes : List Node) (script : List Word) → All (NamesNode nodes) script → Follows nodes (fresh nodes) [] script
follows_fresh nodes script names = follows nodes (fresh nodes) [] script (recursion_from_All (NamesNode nodes) script names) (tracks_fresh nodes)

-- Where a text has its first fault.
use Rattle.std.proofs.Common.{◌≡◌, ◌∙◌, ℕ, zero, suc, ◌+◌, ◌<◌, ◌≤◌, Bool, true, false, not, List, [], ◌∷◌, ◌++◌, length, take, get_or, refl, sym, ap, subst, add-zero, arith, inl, inr, Ok, Err, Some, None, Option, Result}
use Rattle.std.specs.Prelude.{◌⊎◌, nat_le, nat_lt, is_none, ◌==◌, ok_or}
use Rattle.std.specs.Result.{result_err}
use Rattle.std.proofs.lemmas.Bool.{ltb-true, ltb-false, lt-ltb, le-ltb}
use Rattle.std.proofs.lemmas.List.{append_assoc, append-nil}
use Rattle.vh_params.specs.Nodes.{Node, info_in}
use Rattle.vh_text.specs.Chains.{given, fault_if}
use Rattle.vh_text.specs.Lines.{lines_of}
use Rattle.vh_text.proofs.Gives.{no_value, passes_}
use Rattle.vh_journal_text.specs.declared.fault.JournalFault.{JournalFault}
use Rattle.vh_journal_text.specs.declared.fault.JournalKind.TheVariants.{BadHeader, BadLine, TooMany, SampleOver, SampleFalls, UnknownNode, UnknownParam, ReadOnlyParam, SeqWrong, NotOpen, AlreadyOpen, NoClose, TooLong}
use Rattle.vh_journal_text.specs.Faults.{at_node, in_midst, at_begin, first_broken, KindsInOrder, AreRead, IsBehindClose, IsFaultAt, IsFaultIn, HasLines, LacksHeader, IsFault, FaultIsFirst}
use Rattle.vh_journal_text.specs.Items.{Act, Begins, Performs, Ends, Tells, Item}
use Rattle.vh_journal_text.specs.Lines.{Checked}
use Rattle.vh_journal_text.specs.Reading.{Step, Closes, Adds, fault, step_after, behind, closed_by, items_from, is_header, lines_say, journal_limit, journal_of}
use Rattle.vh_journal_text.specs.Rules.{last_sample, in_place, node_named, the_node, of_parameter, is_read_only, on_writable, count_of, in_turn, is_open, in_gesture, item_at}

-- within a line

abbrev done : Checked (Unit {0})
done = Ok tt

inner : (d e f g h : Bool) (count : ℕ) (item : Item)
    → result_err (given (fault_if d UnknownParam (fault_if e ReadOnlyParam done)) (λ writable. given (fault_if f (SeqWrong count) done) (λ turn. given (fault_if g NotOpen (fault_if h AlreadyOpen done)) (λ gesture. Ok item))))
    ≡ first_broken ((d, UnknownParam) ∷ (e, ReadOnlyParam) ∷ (f, SeqWrong count) ∷ (g, NotOpen) ∷ (h, AlreadyOpen) ∷ [])
inner true e f g h count item = refl
inner false true f g h count item = refl
inner false false true g h count item = refl
inner false false false true h count item = refl
inner false false false false true count item = refl
inner false false false false false count item = refl

shape : (a b c : Bool) (named : Option ℕ) (d e : ℕ → Bool) (f : Bool) (g h : ℕ → Bool) (count : ℕ) (item : ℕ → Item)
    → result_err (given (fault_if a TooMany (fault_if b SampleOver (fault_if c SampleFalls done))) (λ placed. given (ok_or named UnknownNode) (λ node. given (fault_if (d node) UnknownParam (fault_if (e node) ReadOnlyParam done)) (λ writable. given (fault_if f (SeqWrong count) done) (λ turn. given (fault_if (g node) NotOpen (fault_if (h node) AlreadyOpen done)) (λ gesture. Ok (item node)))))))
    ≡ first_broken ((a, TooMany) ∷ (b, SampleOver) ∷ (c, SampleFalls) ∷ (is_none named, UnknownNode) ∷ (at_node d named, UnknownParam) ∷ (at_node e named, ReadOnlyParam) ∷ (f, SeqWrong count) ∷ (at_node g named, NotOpen) ∷ (at_node h named, AlreadyOpen) ∷ [])
shape true b c named d e f g h count item = refl
shape false true c named d e f g h count item = refl
shape false false true named d e f g h count item = refl
shape false false false None d e f g h count item = refl
shape false false false (Some node) d e f g h count item = inner (d node) (e node) f (g node) (h node) count (item node)

gesture_rules : (before : List Item) (editor node : ℕ) (act : Act) → in_gesture before editor node act ≡ fault_if (in_midst (λ id. not (is_open before editor node id)) act) NotOpen (fault_if (at_begin (is_open before editor node) act) AlreadyOpen done)
gesture_rules before editor node (Begins id) = refl
gesture_rules before editor node (Performs id value) = refl
gesture_rules before editor node (Ends id) = refl
gesture_rules before editor node (Tells numbers) = refl

pub law_kinds_in_order : KindsInOrder
law_kinds_in_order nodes most before line =
    let same : (node : ℕ) → in_gesture before line.editor node line.act ≡ fault_if (in_midst (λ id. not (is_open before line.editor node id)) line.act) NotOpen (fault_if (at_begin (is_open before line.editor node) line.act) AlreadyOpen done) = λ node. gesture_rules before line.editor node line.act in
    (λ i. result_err (given (in_place most before line.sample) (λ placed. given (the_node nodes line.name) (λ node. given (on_writable nodes node line.act) (λ writable. given (in_turn before line.editor line.seq) (λ turn. given (same node i) (λ gesture. Ok (item_at line node))))))))
    ∙ shape (nat_le 4096 (length before)) (nat_lt most line.sample) (nat_lt line.sample (last_sample before)) (node_named nodes line.name)
    (λ node. of_parameter (λ id. is_none (info_in nodes node id)) line.act) (λ node. of_parameter (λ id. is_read_only (info_in nodes node id)) line.act)
    (not (line.seq == count_of before line.editor))
    (λ node. in_midst (λ id. not (is_open before line.editor node id)) line.act) (λ node. at_begin (is_open before line.editor node) line.act)
    (count_of before line.editor) (item_at line)

-- line by line

same_fault : {A : Type 0} (one other : JournalFault) → (let left : Result A JournalFault = Err one in left ≡ Err other) → one ≡ other
same_fault one other is = ap (λ r. elim r as (λ _. JournalFault) [ Ok a ↦ one | Err given ↦ given ]) is

none_read : (nodes : List Node) (most : ℕ) (before : List Item) → AreRead nodes most before [] []
none_read nodes most before = record { count = refl; each = λ i d lt. absurd (omega (arith, lt)) }

one_more_read : (nodes : List Node) (most : ℕ) (before : List Item) (text : List ℕ) (item : Item) (texts : List (List ℕ)) (items : List Item) → step_after nodes most before text ≡ Ok (Adds item) → AreRead nodes most (before ++ item ∷ []) texts items → AreRead nodes most before (text ∷ texts) (item ∷ items)
one_more_read nodes most before text item texts items step read = record { count = ap suc read.count; each = each }
  where
    each : (i : ℕ) (d : Item) → i < suc (length texts) → step_after nodes most (before ++ take i (item ∷ items)) (get_or (text ∷ texts) i []) ≡ Ok (Adds (get_or (item ∷ items) i d))
    each zero d lt = ap (λ b. step_after nodes most b text) (append-nil before) ∙ step
    each (suc i) d lt = ap (λ b. step_after nodes most b (get_or texts i [])) (sym (append_assoc before (item ∷ []) (take i items))) ∙ read.each i d (omega (arith, lt))

at_once : (nodes : List Node) (most line : ℕ) (before : List Item) (texts : List (List ℕ)) (given : JournalFault) → IsFaultAt nodes most line before texts given → IsFaultIn nodes most line before texts given
at_once nodes most line before texts given is = record {
  front = [];
  back = texts;
  items = [];
  parts = refl;
  read = none_read nodes most before;
  faulty = subst (λ n. IsFaultAt nodes most n (before ++ []) texts given) (sym (add-zero line)) (subst (λ b. IsFaultAt nodes most line b texts given) (sym (append-nil before)) is);
}

later : (nodes : List Node) (most line : ℕ) (before : List Item) (text : List ℕ) (texts : List (List ℕ)) (item : Item) (given : JournalFault) → step_after nodes most before text ≡ Ok (Adds item) → IsFaultIn nodes most (line + 1) (before ++ item ∷ []) texts given → IsFaultIn nodes most line before (text ∷ texts) given
later nodes most line before text texts item given step rest = record {
  front = text ∷ rest.front;
  back = rest.back;
  items = item ∷ rest.items;
  parts = ap (λ ls. text ∷ ls) rest.parts;
  read = one_more_read nodes most before text item rest.front rest.items step rest.read;
  faulty =
      subst (λ n. IsFaultAt nodes most n (before ++ item ∷ rest.items) rest.back given) (let e : (line + 1) + length rest.front ≡ line + suc (length rest.front) = omega arith in e)
      (subst (λ b. IsFaultAt nodes most ((line + 1) + length rest.front) b rest.back given) (append_assoc before (item ∷ []) rest.items) rest.faulty);
}

by_step : (nodes : List Node) (most line : ℕ) (before : List Item) (text : List ℕ) (texts : List (List ℕ)) (given : JournalFault) (step : Checked Step) (further : List Item → Result (List Item) JournalFault)
    → ((item : Item) → further (before ++ item ∷ []) ≡ Err given → IsFaultIn nodes most (line + 1) (before ++ item ∷ []) texts given) → step_after nodes most before text ≡ step → behind step line before texts further ≡ Err given → IsFaultIn nodes most line before (text ∷ texts) given
by_step nodes most line before text texts given (Err kind) further goes step is = at_once nodes most line before (text ∷ texts) given (inl (kind, step, sym (same_fault (fault line kind) given is)))
by_step nodes most line before text [] given (Ok Closes) further goes step is = absurd (no_value before given (sym is))
by_step nodes most line before text (next ∷ texts) given (Ok Closes) further goes step is = at_once nodes most line before (text ∷ (next ∷ texts)) given (inr (step, sym (same_fault (fault (line + 1) BadLine) given is)))
by_step nodes most line before text texts given (Ok (Adds item)) further goes step is = later nodes most line before text texts item given step (goes item is)

faulty_in : (nodes : List Node) (most line : ℕ) (before : List Item) (texts : List (List ℕ)) (given : JournalFault) → items_from nodes most line before texts ≡ Err given → IsFaultIn nodes most line before texts given
faulty_in nodes most line before [] given is = at_once nodes most line before [] given (sym (same_fault (fault line NoClose) given is))
faulty_in nodes most line before (text ∷ texts) given is =
    by_step nodes most line before text texts given (step_after nodes most before text) (λ items. items_from nodes most (line + 1) items texts) (λ item. faulty_in nodes most (line + 1) (before ++ item ∷ []) texts given) refl is

-- and back

closed_back : (line : ℕ) (items : List Item) (texts : List (List ℕ)) (given : JournalFault) → IsBehindClose line texts given → closed_by (line + 1) items texts ≡ Err given
closed_back line items [] given is = absurd is
closed_back line items (text ∷ texts) given is = ap (λ f. Err f) (sym is)

at_back : (nodes : List Node) (most line : ℕ) (items : List Item) (texts : List (List ℕ)) (given : JournalFault) → IsFaultAt nodes most line items texts given → items_from nodes most line items texts ≡ Err given
at_back nodes most line items [] given is = ap (λ f. Err f) (sym is)
at_back nodes most line items (text ∷ texts) given (inl faulty) = ap (λ s. behind s line items texts (λ more. items_from nodes most (line + 1) more texts)) faulty.1 ∙ ap (λ f. Err f) (sym faulty.2)
at_back nodes most line items (text ∷ texts) given (inr closed) = ap (λ s. behind s line items texts (λ more. items_from nodes most (line + 1) more texts)) closed.0 ∙ closed_back line items texts given closed.1

read_back : (nodes : List Node) (most line : ℕ) (before : List Item) (front back : List (List ℕ)) (items : List Item) (given : JournalFault) → AreRead nodes most before front items → IsFaultAt nodes most (line + length front) (before ++ items) back given → items_from nodes most line before (front ++ back) ≡ Err given
read_back nodes most line before [] back [] given read is =
    at_back nodes most line before back given (subst (λ b. IsFaultAt nodes most line b back given) (append-nil before) (subst (λ n. IsFaultAt nodes most n (before ++ []) back given) (add-zero line) is))
read_back nodes most line before [] back (item ∷ items) given read is = absurd (let long = read.count in omega (arith, long))
read_back nodes most line before (text ∷ front) back [] given read is = absurd (let long = read.count in omega (arith, long))
read_back nodes most line before (text ∷ front) back (item ∷ items) given read is =
    let step : step_after nodes most before text ≡ Ok (Adds item) = ap (λ b. step_after nodes most b text) (sym (append-nil before)) ∙ read.each 0 item (omega arith) in
    let rest : AreRead nodes most (before ++ item ∷ []) front items = record {
      count = (let long = read.count in let e : length items ≡ length front = omega (arith, long) in e);
      each = λ i d lt. ap (λ b. step_after nodes most b (get_or front i [])) (append_assoc before (item ∷ []) (take i items)) ∙ read.each (suc i) d (omega (arith, lt));
    } in
    let faulty : IsFaultAt nodes most ((line + 1) + length front) ((before ++ item ∷ []) ++ items) back given =
    subst (λ n. IsFaultAt nodes most n ((before ++ item ∷ []) ++ items) back given) (let e : line + suc (length front) ≡ (line + 1) + length front = omega arith in e)
    (subst (λ b. IsFaultAt nodes most (line + suc (length front)) b back given) (sym (append_assoc before (item ∷ []) items)) is) in
    ap (λ s. behind s line before (front ++ back) (λ more. items_from nodes most (line + 1) more (front ++ back))) step
    ∙ read_back nodes most (line + 1) (before ++ item ∷ []) front back items given rest faulty

-- the whole text

module _ (nodes : List Node) (most : ℕ) (bytes : List ℕ) (given : JournalFault) where
  abbrev Behind : Type 0
  Behind = (texts : List (List ℕ)) × HasLines bytes texts × IsFaultIn nodes most 2 [] texts given

  lines_fault : (lines : List (List ℕ)) → length bytes ≤ journal_limit → lines_of bytes ≡ lines → lines_say nodes most lines ≡ Err given → (LacksHeader lines × (given ≡ fault 1 BadHeader)) ⊎ Behind
  lines_fault [] short are is = inl (tt, sym (same_fault (fault 1 BadHeader) given is))
  lines_fault (text ∷ texts) short are is = elim (is_header text) as (λ t. is_header text ≡ t → fault_if (not t) (fault 1 BadHeader) (items_from nodes most 2 [] texts) ≡ Err given → ((is_header text ≡ false) × (given ≡ fault 1 BadHeader)) ⊎ Behind) [
    | true ↦ λ test said. inr (texts, record { short = short; first = text; lines = are; header = test }, faulty_in nodes most 2 [] texts given said)
    | false ↦ λ test said. inl (test, sym (same_fault (fault 1 BadHeader) given said))
  ] refl is

  there : journal_of nodes most bytes ≡ Err given → IsFault nodes most bytes given
  there is = elim (nat_lt journal_limit (length bytes)) as (λ t. nat_lt journal_limit (length bytes) ≡ t → fault_if t (fault 0 TooLong) (lines_say nodes most (lines_of bytes)) ≡ Err given → IsFault nodes most bytes given) [
    | true ↦ λ test said. inl (ltb-true journal_limit (length bytes) test, sym (same_fault (fault 0 TooLong) given said))
    | false ↦ λ test said.
        let short = ltb-false journal_limit (length bytes) test in
        elim (lines_fault (lines_of bytes) short refl said) [
          | inl lacks ↦ inr (inl (short, lacks.0, lacks.1))
          | inr faulty ↦ inr (inr faulty)
        ]
  ] refl is

  lacking : (lines : List (List ℕ)) → LacksHeader lines → lines_say nodes most lines ≡ Err (fault 1 BadHeader)
  lacking [] lacks = refl
  lacking (text ∷ texts) lacks = ap (λ t. fault_if (not t) (fault 1 BadHeader) (items_from nodes most 2 [] texts)) lacks

  fits : length bytes ≤ journal_limit → journal_of nodes most bytes ≡ lines_say nodes most (lines_of bytes)
  fits short = passes_ (nat_lt journal_limit (length bytes)) (fault 0 TooLong) (lines_say nodes most (lines_of bytes)) (le-ltb journal_limit (length bytes) short)

  back_ : IsFault nodes most bytes given → journal_of nodes most bytes ≡ Err given
  back_ (inl long) = ap (λ t. fault_if t (fault 0 TooLong) (lines_say nodes most (lines_of bytes))) (lt-ltb journal_limit (length bytes) long.0) ∙ ap (λ f. Err f) (sym long.1)
  back_ (inr (inl bad)) = fits bad.0 ∙ lacking (lines_of bytes) bad.1 ∙ ap (λ f. Err f) (sym bad.2)
  back_ (inr (inr faulty)) =
      let has = faulty.1 in
      let is = faulty.2 in
      fits has.short
      ∙ ap (lines_say nodes most) has.lines
      ∙ ap (λ t. fault_if (not t) (fault 1 BadHeader) (items_from nodes most 2 [] faulty.0)) has.header
      ∙ ap (λ ls. items_from nodes most 2 [] ls) is.parts
      ∙ read_back nodes most 2 [] is.front is.back is.items given is.read is.faulty

pub law_fault_is_first : FaultIsFirst
law_fault_is_first nodes most bytes given = (there nodes most bytes given, back_ nodes most bytes given)

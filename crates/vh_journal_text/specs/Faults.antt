-- Where a text has its first fault, rule by rule and line by line.
use Rattle.std.specs.Prelude.{◌≡◌, ◌↔◌, ◌⊎◌, ℕ, ◌+◌, ◌<◌, ◌≤◌, Bool, true, false, not, ◌==◌, nat_le, nat_lt, is_none, List, [], ◌∷◌, ◌++◌, length, take, slice_index_or, Option, Some, None, Ok, Err, if◌then◌else◌}
use Rattle.std.specs.Result.{result_err}
use Rattle.vh_params.specs.Nodes.{Node, info_in}
use Rattle.vh_text.specs.Lines.{lines_of}
use Rattle.vh_journal_text.specs.declared.fault.JournalFault.{JournalFault}
use Rattle.vh_journal_text.specs.declared.fault.JournalKind.{JournalKind}
use Rattle.vh_journal_text.specs.declared.fault.JournalKind.TheVariants.{BadHeader, BadLine, TooMany, SampleOver, SampleFalls, UnknownNode, UnknownParam, ReadOnlyParam, SeqWrong, NotOpen, AlreadyOpen, NoClose, TooLong}
use Rattle.vh_journal_text.specs.Items.{Act, Begins, Performs, Ends, Tells, Line, Item}
use Rattle.vh_journal_text.specs.Reading.{Closes, Adds, fault, step_after, is_header, journal_limit, journal_of}
use Rattle.vh_journal_text.specs.Rules.{last_sample, node_named, of_parameter, is_read_only, count_of, is_open, item_after}

-- Within a line: the kinds in their order, and where each has cause.

-- a test of the node that has the name, where one has
abbrev pub at_node : (ℕ → Bool) → Option ℕ → Bool
at_node test None = false
at_node test (Some node) = test node

-- a test of the parameter's id, where the act needs an open gesture
abbrev pub in_midst : (ℕ → Bool) → Act → Bool
in_midst test (Begins id) = false
in_midst test (Performs id value) = test id
in_midst test (Ends id) = test id
in_midst test (Tells numbers) = false

-- the same where the act begins one
abbrev pub at_begin : (ℕ → Bool) → Act → Bool
at_begin test (Begins id) = test id
at_begin test (Performs id value) = false
at_begin test (Ends id) = false
at_begin test (Tells numbers) = false

abbrev pub Rule : Type 0
Rule = Bool × JournalKind

abbrev pub first_broken : List Rule → Option JournalKind
first_broken [] = None
first_broken (rule ∷ rules) = if rule.0 then Some rule.1 else first_broken rules

abbrev pub rules_of : List Node → ℕ → List Item → Line → List Rule
rules_of nodes most before line =
    let named = node_named nodes line.name in
    let open_at = λ (node id : ℕ). is_open before line.editor node id in
    (nat_le 4096 (length before), TooMany)
    ∷ (nat_lt most line.sample, SampleOver)
    ∷ (nat_lt line.sample (last_sample before), SampleFalls)
    ∷ (is_none named, UnknownNode)
    ∷ (at_node (λ node. of_parameter (λ id. is_none (info_in nodes node id)) line.act) named, UnknownParam)
    ∷ (at_node (λ node. of_parameter (λ id. is_read_only (info_in nodes node id)) line.act) named, ReadOnlyParam)
    ∷ (not (line.seq == count_of before line.editor), SeqWrong (count_of before line.editor))
    ∷ (at_node (λ node. in_midst (λ id. not (open_at node id)) line.act) named, NotOpen)
    ∷ (at_node (λ node. at_begin (open_at node) line.act) named, AlreadyOpen)
    ∷ []

-- a line of an entry is refused for the first of these rules that it breaks, and for no other reason
abbrev pub KindsInOrder : Type 0
KindsInOrder = (nodes : List Node) (most : ℕ) (before : List Item) (line : Line) → result_err (item_after nodes most before line) ≡ first_broken (rules_of nodes most before line)

-- Line by line.

-- these lines say these entries, each behind those before it
pub record AreRead (nodes : List Node) (most : ℕ) (before : List Item) (texts : List (List ℕ)) (items : List Item) : Type 0 where
  pub count : length items ≡ length texts
  pub each : (i : ℕ) (d : Item) → i < length texts → step_after nodes most (before ++ take i items) (slice_index_or texts i []) ≡ Ok (Adds (slice_index_or items i d))

-- a line behind `close`, where that line has this number
abbrev pub IsBehindClose : ℕ → List (List ℕ) → JournalFault → Type 0
IsBehindClose line [] given = ⊥
IsBehindClose line (text ∷ texts) given = given ≡ fault (line + 1) BadLine

-- the fault of what stands behind these entries, where its first line has this number: there is no line, the line has a
-- fault, or it closes the journal and another stands behind it
abbrev pub IsFaultAt : List Node → ℕ → ℕ → List Item → List (List ℕ) → JournalFault → Type 0
IsFaultAt nodes most line items [] given = given ≡ fault line NoClose
IsFaultAt nodes most line items (text ∷ texts) given =
    ((kind : JournalKind) × (step_after nodes most items text ≡ Err kind) × (given ≡ fault line kind)) ⊎ ((step_after nodes most items text ≡ Ok Closes) × IsBehindClose line texts given)

-- the first fault of lines, where the first of them has this number: those before it say entries
pub record IsFaultIn (nodes : List Node) (most line : ℕ) (before : List Item) (texts : List (List ℕ)) (given : JournalFault) : Type 0 where
  pub front : List (List ℕ)
  pub back : List (List ℕ)
  pub items : List Item
  pub parts : texts ≡ front ++ back
  pub read : AreRead nodes most before front items
  pub faulty : IsFaultAt nodes most (line + length front) (before ++ items) back given

-- the lines of a text that isn't too long: the first is a journal's, and these stand behind it
pub record HasLines (bytes : List ℕ) (texts : List (List ℕ)) : Type 0 where
  pub short : length bytes ≤ journal_limit
  pub first : List ℕ
  pub lines : lines_of bytes ≡ first ∷ texts
  pub header : is_header first ≡ true

abbrev pub LacksHeader : List (List ℕ) → Type 0
LacksHeader [] = Unit {0}
LacksHeader (text ∷ texts) = is_header text ≡ false

-- a text's first fault: it is too long, it has no first line of a journal, or a line behind that has a fault
abbrev pub IsFault : List Node → ℕ → List ℕ → JournalFault → Type 0
IsFault nodes most bytes given =
    ((journal_limit < length bytes) × (given ≡ fault 0 TooLong))
    ⊎ (((length bytes ≤ journal_limit) × LacksHeader (lines_of bytes) × (given ≡ fault 1 BadHeader))
    ⊎ ((texts : List (List ℕ)) × HasLines bytes texts × IsFaultIn nodes most 2 [] texts given))

abbrev pub FaultIsFirst : Type 0
FaultIsFirst = (nodes : List Node) (most : ℕ) (bytes : List ℕ) (given : JournalFault) → (journal_of nodes most bytes ≡ Err given) ↔ IsFault nodes most bytes given

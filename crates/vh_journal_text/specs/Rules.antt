-- The rules on an entry, behind the entries before it: the first that is broken counts, in this order.
use Rattle.std.specs.Prelude.{ℕ, ◌-◌, Bool, false, not, ◌&&◌, ◌==◌, nat_le, nat_lt, is_none, List, [], length, slice_index_or, count_by, Option, Some, None, Ok}
use Rattle.std.specs.List.{position_from}
use Rattle.std.specs.Option.{ok_or}
use Rattle.std.specs.Str.{bytes_eq}
use Rattle.vh_params.specs.Flags as flags
use Rattle.vh_params.specs.Nodes.{Node, info_in}
use Rattle.vh_params.specs.declared.param.ParamInfo.{ParamInfo}
use Rattle.vh_text.specs.Chains.{given, fault_if}
use Rattle.vh_journal_text.specs.declared.fault.JournalKind.TheVariants.{TooMany, SampleOver, SampleFalls, UnknownNode, UnknownParam, ReadOnlyParam, SeqWrong, NotOpen, AlreadyOpen}
use Rattle.vh_journal_text.specs.Items.{Act, Begins, Performs, Ends, Tells, Line, Item}
use Rattle.vh_journal_text.specs.Lines.{Checked}

abbrev pub no_item : Item
no_item = record { sample = 0; editor = 0; seq = 0; node = 0; act = Tells [] }

-- the sample of the last entry, 0 before the first
abbrev pub last_sample : List Item → ℕ
last_sample before = (slice_index_or before (length before - 1) no_item).sample

-- TooMany for the 4,097th entry; SampleOver past the length; SampleFalls below the entry before
abbrev pub in_place : ℕ → List Item → ℕ → Checked (Unit {0})
in_place most before sample =
    fault_if (nat_le 4096 (length before)) TooMany
    (fault_if (nat_lt most sample) SampleOver
    (fault_if (nat_lt sample (last_sample before)) SampleFalls
    (Ok tt)))

-- UnknownNode where no node has the name
abbrev pub node_named : List Node → List ℕ → Option ℕ
node_named nodes name = position_from (λ node. bytes_eq node.name name) 0 nodes

abbrev pub the_node : List Node → List ℕ → Checked ℕ
the_node nodes name = ok_or (node_named nodes name) UnknownNode

-- a test of the parameter's id, where the act is on a parameter
abbrev pub of_parameter : (ℕ → Bool) → Act → Bool
of_parameter test (Begins id) = test id
of_parameter test (Performs id value) = test id
of_parameter test (Ends id) = test id
of_parameter test (Tells numbers) = false

abbrev pub is_read_only : Option ParamInfo → Bool
is_read_only None = false
is_read_only (Some param) = flags.is_read_only param.flags

-- UnknownParam where the node lacks the parameter; ReadOnlyParam where it can't be set
abbrev pub on_writable : List Node → ℕ → Act → Checked (Unit {0})
on_writable nodes node act =
    fault_if (of_parameter (λ id. is_none (info_in nodes node id)) act) UnknownParam
    (fault_if (of_parameter (λ id. is_read_only (info_in nodes node id)) act) ReadOnlyParam
    (Ok tt))

-- how many entries are this editor's
abbrev pub count_of : List Item → ℕ → ℕ
count_of before editor = count_by (λ item. item.editor == editor) before

-- SeqWrong where the number isn't the count of the editor's earlier entries
abbrev pub in_turn : List Item → ℕ → ℕ → Checked (Unit {0})
in_turn before editor seq = fault_if (not (seq == count_of before editor)) (SeqWrong (count_of before editor)) (Ok tt)

-- an entry of this editor on this parameter
abbrev pub is_of : ℕ → ℕ → ℕ → Item → ℕ → Bool
is_of editor node id item other = (item.editor == editor) && ((item.node == node) && (other == id))

abbrev pub is_begin : ℕ → ℕ → ℕ → Item → Act → Bool
is_begin editor node id item (Begins other) = is_of editor node id item other
is_begin editor node id item (Performs other value) = false
is_begin editor node id item (Ends other) = false
is_begin editor node id item (Tells numbers) = false

abbrev pub is_end : ℕ → ℕ → ℕ → Item → Act → Bool
is_end editor node id item (Begins other) = false
is_end editor node id item (Performs other value) = false
is_end editor node id item (Ends other) = is_of editor node id item other
is_end editor node id item (Tells numbers) = false

abbrev pub begins_of : List Item → ℕ → ℕ → ℕ → ℕ
begins_of before editor node id = count_by (λ item. is_begin editor node id item item.act) before

abbrev pub ends_of : List Item → ℕ → ℕ → ℕ → ℕ
ends_of before editor node id = count_by (λ item. is_end editor node id item item.act) before

-- a gesture of this editor is open on this parameter: more began than ended
abbrev pub is_open : List Item → ℕ → ℕ → ℕ → Bool
is_open before editor node id = nat_lt (ends_of before editor node id) (begins_of before editor node id)

-- NotOpen for a perform or an end where this editor has no gesture open on the parameter; AlreadyOpen for a begin
-- where it has one
abbrev pub in_gesture : List Item → ℕ → ℕ → Act → Checked (Unit {0})
in_gesture before editor node (Begins id) = fault_if (is_open before editor node id) AlreadyOpen (Ok tt)
in_gesture before editor node (Performs id value) = fault_if (not (is_open before editor node id)) NotOpen (Ok tt)
in_gesture before editor node (Ends id) = fault_if (not (is_open before editor node id)) NotOpen (Ok tt)
in_gesture before editor node (Tells numbers) = Ok tt

abbrev pub item_at : Line → ℕ → Item
item_at line node = record { sample = line.sample; editor = line.editor; seq = line.seq; node = node; act = line.act }

-- the entry of a line behind these, under nodes and a length; or its first fault
abbrev pub item_after : List Node → ℕ → List Item → Line → Checked Item
item_after nodes most before line =
    given (in_place most before line.sample) (λ placed.
    given (the_node nodes line.name) (λ node.
    given (on_writable nodes node line.act) (λ writable.
    given (in_turn before line.editor line.seq) (λ turn.
    given (in_gesture before line.editor node line.act) (λ gesture.
    Ok (item_at line node))))))

-- What each kind of line says, after the lines before it.
use Rattle.std.specs.Prelude.{ℕ, ◌+◌, ◌-◌, ◌^◌, Bool, false, not, ◌&&◌, ◌||◌, ◌==◌, nat_le, nat_lt, List, [], ◌∷◌, length, take, drop, map, slice_index_or, Option, Some, None, Ok, Err, if◌then◌else◌, codes}
use Rattle.std.specs.List.{list_any, slice_get}
use Rattle.std.specs.Option.{is_some, ok_or}
use Rattle.std.specs.Str.{bytes_eq}
use Rattle.vh_text.specs.Tokens.{bad_byte, words_of}
use Rattle.vh_params.specs.declared.class.ClassInfo.{ClassInfo}
use Rattle.vh_params.specs.Names.{is_name}
use Rattle.vh_session.specs.declared.fault.SessionKind.TheVariants.{BadByte, UnknownWord, BadName, Repeated, DuplicateNode, BadWire, BadLane, BadEditor, TooMany}
use Rattle.vh_session.specs.declared.kind.LineKind.{LineKind}
use Rattle.vh_session.specs.declared.kind.LineKind.TheVariants as kind
use Rattle.vh_session.specs.LineKinds.{kind_named, least_words, most_words}
use Rattle.vh_session.specs.declared.wire.End.{End}
use Rattle.vh_session.specs.declared.wire.End.TheVariants.{In, Out, Node as AtNode}
use Rattle.vh_session.specs.declared.wire.Wire.{Wire}
use Rattle.vh_session.specs.Entry.{Entry, LengthLine, ChannelsLine, BitsLine, PatternLine, NodeLine, PresetLine, ParamLine, WireLine, LaneLine, PointLine, EditorLine, ScriptLine, ScriptWord, BeginWord, PerformWord, EndWord, TellWord, HoldWord, DropWord, WaitWord, LaneText, Draft, last_sample, break_count}
use Rattle.vh_session.specs.Rules.{Checked, word, arity, any_number, number_that, number_within, numbers_that, node_named, the_node, the_class, settable_param, can_automate, first_end, last_end}
use Rattle.vh_text.specs.Numbers.{is_within}
use Rattle.vh_text.specs.Chains.{given, fault_if}
use Rattle.vh_session.specs.Limits.{most_frames, most_size, most_nodes, most_file, most_wires, most_lanes, most_grain, most_breaks, most_editors, most_script_words}

-- the normalised value 1.0
abbrev pub one : ℕ
one = 2 ^ 24

-- `length L`
abbrev pub length_line : Draft → List ℕ → Checked Entry
length_line draft text =
    given (number_within 0 most_frames text) (λ n.
    fault_if (is_some draft.length) Repeated
    (Ok (LengthLine n)))

-- `channels C`
abbrev pub channels_line : Draft → List ℕ → Checked Entry
channels_line draft text =
    given (number_within 1 2 text) (λ n.
    fault_if (is_some draft.channels) Repeated
    (Ok (ChannelsLine n)))

abbrev pub is_bits : ℕ → Bool
is_bits n = (n == 16) || (n == 24)

-- `bits B`
abbrev pub bits_line : Draft → List ℕ → Checked Entry
bits_line draft text =
    given (number_that is_bits text) (λ n.
    fault_if (is_some draft.bits) Repeated
    (Ok (BitsLine n)))

-- `pattern N ..`
abbrev pub pattern_line : Draft → List (List ℕ) → Checked Entry
pattern_line draft texts =
    given (numbers_that (is_within 1 most_size) texts) (λ sizes.
    fault_if (nat_lt 0 (length draft.pattern)) Repeated
    (Ok (PatternLine sizes)))

-- `node NAME CLASS`
abbrev pub node_line : List ClassInfo → Draft → List ℕ → List ℕ → Checked Entry
node_line classes draft name class_name =
    fault_if (not (is_name name)) BadName
    (given (the_class classes class_name) (λ class.
    fault_if (is_some (node_named draft.nodes name)) DuplicateNode
    (fault_if (nat_le most_nodes (length draft.nodes)) TooMany
    (Ok (NodeLine name class)))))

abbrev pub has_preset : List (Option (List ℕ)) → ℕ → Bool
has_preset presets node = is_some (slice_index_or presets node None)

-- `preset NODE FILE`
abbrev pub preset_line : Draft → List ℕ → List ℕ → Checked Entry
preset_line draft name file =
    given (the_node draft.nodes name) (λ node.
    fault_if (nat_lt most_file (length file)) BadName
    (fault_if (has_preset draft.presets node) Repeated
    (Ok (PresetLine node file))))

abbrev pub has_first : List (List (ℕ × ℕ)) → ℕ → ℕ → Bool
has_first firsts node id = list_any (λ first. first.0 == id) (slice_index_or firsts node [])

-- `param NODE ID VALUE`
abbrev pub param_line : Draft → List ℕ → List ℕ → List ℕ → Checked Entry
param_line draft name id value =
    given (the_node draft.nodes name) (λ node.
    given (settable_param draft.nodes node id) (λ param.
    given (number_within 0 one value) (λ first.
    fault_if (has_first draft.firsts node param.id) Repeated
    (Ok (ParamLine node param.id first)))))

abbrev pub end_number : End → ℕ
end_number In = 0
end_number Out = 1
end_number (AtNode node) = 2 + node

-- wires are the same where both ends and the bus are
abbrev pub same_wire : Wire → Wire → Bool
same_wire a b = ((end_number a.from == end_number b.from) && (end_number a.to == end_number b.to)) && (if a.aux then b.aux else not b.aux)

abbrev pub has_wire : List Wire → Wire → Bool
has_wire wires wire = list_any (same_wire wire) wires

-- whether an end has an aux bus
abbrev pub has_aux : List Bool → End → Bool
has_aux aux In = false
has_aux aux Out = false
has_aux aux (AtNode node) = slice_index_or aux node false

-- whether a further word isn't `aux`, or asks for a bus that isn't there
abbrev pub lacks_bus : List Bool → End → Option (List ℕ) → Bool
lacks_bus aux to None = false
lacks_bus aux to (Some further) = not (bytes_eq further (codes "aux") && has_aux aux to)

abbrev pub wire_between : Draft → Option (List ℕ) → Wire → Checked Entry
wire_between draft further wire =
    fault_if (lacks_bus draft.aux wire.to further || has_wire draft.wires wire) BadWire
    (fault_if (nat_le most_wires (length draft.wires)) TooMany
    (Ok (WireLine wire)))

-- `wire FROM TO` and `wire FROM TO aux`
abbrev pub wire_line : Draft → List ℕ → List ℕ → Option (List ℕ) → Checked Entry
wire_line draft from_text to_text further =
    given (first_end draft.nodes from_text) (λ from.
    given (last_end draft.nodes to_text) (λ to.
    wire_between draft further (record { from = from; to = to; aux = is_some further })))

abbrev pub has_lane : List LaneText → ℕ → ℕ → Bool
has_lane lanes node id = list_any (λ lane. (lane.node == node) && (lane.id == id)) lanes

-- `lane NODE ID GRAIN SAMPLE VALUE`
abbrev pub lane_line : Draft → List ℕ → List ℕ → List ℕ → List ℕ → List ℕ → Checked Entry
lane_line draft name id grain_text sample_text value_text =
    given (the_node draft.nodes name) (λ node.
    given (settable_param draft.nodes node id) (λ param.
    given (number_within 0 most_grain grain_text) (λ grain.
    given (number_within 0 most_frames sample_text) (λ sample.
    given (number_within 0 one value_text) (λ value.
    fault_if (not (can_automate param) || has_lane draft.lanes node param.id) BadLane
    (fault_if (nat_le most_lanes (length draft.lanes)) TooMany
    (Ok (LaneLine node param.id grain sample value))))))))

-- `point SAMPLE VALUE`
abbrev pub point_line : Draft → List ℕ → List ℕ → Checked Entry
point_line draft sample_text value_text =
    given (number_within 0 most_frames sample_text) (λ sample.
    given (number_within 0 one value_text) (λ value.
    fault_if (not draft.in_lane || nat_le sample (last_sample draft.lanes)) BadLane
    (fault_if (nat_le most_breaks (break_count draft.lanes)) TooMany
    (Ok (PointLine sample value)))))

-- `editor N`
abbrev pub editor_line : Draft → List ℕ → Checked Entry
editor_line draft text =
    given (any_number text) (λ n.
    fault_if (not (n == length draft.scripts)) BadEditor
    (fault_if (nat_le most_editors (length draft.scripts)) TooMany
    (Ok EditorLine)))

-- a word of the last editor's script
abbrev pub script_line : Draft → ScriptWord → Checked Entry
script_line draft script_word =
    fault_if (length draft.scripts == 0) BadEditor
    (fault_if (nat_le most_script_words draft.script_count) TooMany
    (Ok (ScriptLine script_word)))

-- `begin NODE ID`
abbrev pub begin_line : Draft → List ℕ → List ℕ → Checked Entry
begin_line draft name id_text = given (the_node draft.nodes name) (λ node. given (any_number id_text) (λ id. script_line draft (BeginWord node id)))

-- `perform NODE ID VALUE`
abbrev pub perform_line : Draft → List ℕ → List ℕ → List ℕ → Checked Entry
perform_line draft name id_text value_text =
    given (the_node draft.nodes name) (λ node.
    given (any_number id_text) (λ id.
    given (any_number value_text) (λ value.
    script_line draft (PerformWord node id value))))

-- `end NODE ID`
abbrev pub end_line : Draft → List ℕ → List ℕ → Checked Entry
end_line draft name id_text = given (the_node draft.nodes name) (λ node. given (any_number id_text) (λ id. script_line draft (EndWord node id)))

-- each number below 2^32
abbrev pub is_any : ℕ → Bool
is_any n = is_within 0 4294967295 n

-- `tell NODE W ..`
abbrev pub tell_line : Draft → List ℕ → List (List ℕ) → Checked Entry
tell_line draft name texts = given (the_node draft.nodes name) (λ node. given (numbers_that is_any texts) (λ numbers. script_line draft (TellWord node numbers)))

-- `hold NODE`
abbrev pub hold_line : Draft → List ℕ → Checked Entry
hold_line draft name = given (the_node draft.nodes name) (λ node. script_line draft (HoldWord node))

-- `drop NODE`
abbrev pub drop_line : Draft → List ℕ → Checked Entry
drop_line draft name = given (the_node draft.nodes name) (λ node. script_line draft (DropWord node))

-- `wait B`
abbrev pub wait_line : Draft → List ℕ → Checked Entry
wait_line draft text = given (any_number text) (λ block. script_line draft (WaitWord block))

-- a third word, where there is one
abbrev pub third : List (List ℕ) → Option (List ℕ)
third words = slice_get words 2

-- what a line of this kind says, whose words behind the first are as many as it takes
abbrev pub line_of_kind : List ClassInfo → Draft → LineKind → List (List ℕ) → Checked Entry
line_of_kind classes draft kind.Length words = length_line draft (word words 0)
line_of_kind classes draft kind.Channels words = channels_line draft (word words 0)
line_of_kind classes draft kind.Bits words = bits_line draft (word words 0)
line_of_kind classes draft kind.Pattern words = pattern_line draft words
line_of_kind classes draft kind.Node words = node_line classes draft (word words 0) (word words 1)
line_of_kind classes draft kind.Preset words = preset_line draft (word words 0) (word words 1)
line_of_kind classes draft kind.Param words = param_line draft (word words 0) (word words 1) (word words 2)
line_of_kind classes draft kind.Wire words = wire_line draft (word words 0) (word words 1) (third words)
line_of_kind classes draft kind.Lane words = lane_line draft (word words 0) (word words 1) (word words 2) (word words 3) (word words 4)
line_of_kind classes draft kind.Point words = point_line draft (word words 0) (word words 1)
line_of_kind classes draft kind.Editor words = editor_line draft (word words 0)
line_of_kind classes draft kind.Begin words = begin_line draft (word words 0) (word words 1)
line_of_kind classes draft kind.Perform words = perform_line draft (word words 0) (word words 1) (word words 2)
line_of_kind classes draft kind.End words = end_line draft (word words 0) (word words 1)
line_of_kind classes draft kind.Tell words = tell_line draft (word words 0) (drop 1 words)
line_of_kind classes draft kind.Hold words = hold_line draft (word words 0)
line_of_kind classes draft kind.Drop words = drop_line draft (word words 0)
line_of_kind classes draft kind.Wait words = wait_line draft (word words 0)

-- the kind of a line by its first word, then as many words as it takes, then its rule
abbrev pub line_of_word : List ClassInfo → Draft → List ℕ → List (List ℕ) → Checked Entry
line_of_word classes draft first words =
    given (ok_or (kind_named first) UnknownWord) (λ kind.
    given (arity (least_words kind) (most_words kind) (length words)) (λ fits.
    line_of_kind classes draft kind words))

abbrev pub line_of_words : List ClassInfo → Draft → List (List ℕ) → Checked Entry
line_of_words classes draft [] = Err UnknownWord
line_of_words classes draft (first ∷ words) = line_of_word classes draft first words

-- what a line says, or its first fault
abbrev pub line_of : List ClassInfo → Draft → List ℕ → Checked Entry
line_of classes draft text = fault_if (is_some (bad_byte text)) BadByte (line_of_words classes draft (words_of text))

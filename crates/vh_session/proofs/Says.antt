-- What lines that are written say.
use Rattle.std.proofs.Common.{◌≡◌, ◌∙◌, ℕ, ◌<◌, ◌≤◌, ◌^◌, ◌==◌, Bool, true, false, List, [], ◌∷◌, map, length, refl, ap, arith, Some, None, Option, Ok, Result, inl, inr, nat_lt}
use Rattle.std.specs.Prelude.{All, nat_le, ◌||◌, not, ok_or}
use Rattle.std.specs.Fmt.{decimal}
use Rattle.std.specs.Option.{is_some}
use Rattle.std.proofs.lemmas.Bool.{and_parts, le-ltb, leb-true, or_from, not_from_true, false_from_ne_true, or_cases, eqb-true, eq-eqb}
use Rattle.std.proofs.lemmas.List.Elements.{All-tail}
use Rattle.vh_params.specs.declared.class.ClassInfo.{ClassInfo}
use Rattle.vh_params.specs.declared.param.ParamInfo.{ParamInfo}
use Rattle.vh_params.specs.Names.{is_name}
use Rattle.vh_session.specs.declared.fault.SessionKind.TheVariants.{BadName, Repeated, DuplicateNode, BadWire, BadLane, BadEditor, TooMany, Missing, Extra, UnknownClass}
use Rattle.vh_session.specs.declared.wire.Wire.{Wire}
use Rattle.vh_session.specs.Entry.{Entry, LengthLine, ChannelsLine, BitsLine, PatternLine, NodeLine, PresetLine, ParamLine, WireLine, LaneLine, PointLine, EditorLine, ScriptLine, ScriptWord, Draft, last_sample, break_count}
use Rattle.vh_session.specs.Rules.{Checked, arity, number_within, numbers_that, node_named, the_node, class_named, the_class, settable_param, can_automate, first_end, last_end}
use Rattle.vh_text.specs.Numbers.{is_within}
use Rattle.vh_text.specs.Chains.{given, fault_if}
use Rattle.vh_session.specs.Lines
use Rattle.vh_session.specs.Lines.{one, is_bits, is_any, lacks_bus, has_preset, has_first, has_wire, has_lane}
use Rattle.vh_text.proofs.Gives.{then_, passes_}
use Rattle.vh_session.proofs.Numerals.{any_reads, that_reads}

-- a test that a bound passes
pub not_least : (a b : ℕ) → b < a → nat_le a b ≡ false
not_least a b lt = false_from_ne_true (nat_le a b) (λ test. let le = leb-true a b test in omega (arith, le, lt))

pub counts : (least most count : ℕ) → least ≤ count → count ≤ most → arity least most count ≡ Ok tt
counts least most count low high =
    passes_ (nat_lt count least) Missing (fault_if (nat_lt most count) Extra (Ok tt)) (le-ltb count least low)
    ∙ passes_ (nat_lt most count) Extra (Ok tt) (le-ltb most count high)

pub within_small : (least most n : ℕ) → most < 2 ^ 32 → is_within least most n ≡ true → n < 2 ^ 32
within_small least most n small within = let le = leb-true n most (and_parts (nat_le least n) (nat_le n most) within).1 in omega (arith, le, small)

pub within_reads : (least most n : ℕ) → most < 2 ^ 32 → is_within least most n ≡ true → number_within least most (decimal n) ≡ Ok n
within_reads least most n small within = that_reads (is_within least most) n (within_small least most n small within) within

pub numbers_read : (least most : ℕ) (ns : List ℕ) → most < 2 ^ 32 → All (λ n. is_within least most n ≡ true) ns → numbers_that (is_within least most) (map decimal ns) ≡ Ok ns
numbers_read least most [] small all = refl
numbers_read least most (n ∷ ns) small all =
    then_ (λ m. given (numbers_that (is_within least most) (map decimal ns)) (λ ms. Ok (m ∷ ms))) n (within_reads least most n small (all 0 n (omega arith)))
    ∙ then_ (λ ms. Ok (n ∷ ms)) ns (numbers_read least most ns small (All-tail (λ n. is_within least most n ≡ true) n ns all))

-- the lines

pub length_says : (draft : Draft) (n : ℕ) → draft.length ≡ None → is_within 0 16777216 n ≡ true → Lines.length_line draft (decimal n) ≡ Ok (LengthLine n)
length_says draft n none within =
    then_ (λ n. fault_if (is_some draft.length) Repeated (Ok (LengthLine n))) n (within_reads 0 16777216 n (omega arith) within)
    ∙ passes_ (is_some draft.length) Repeated (Ok (LengthLine n)) (ap (λ o. is_some o) none)

pub channels_says : (draft : Draft) (n : ℕ) → draft.channels ≡ None → is_within 1 2 n ≡ true → Lines.channels_line draft (decimal n) ≡ Ok (ChannelsLine n)
channels_says draft n none within =
    then_ (λ n. fault_if (is_some draft.channels) Repeated (Ok (ChannelsLine n))) n (within_reads 1 2 n (omega arith) within)
    ∙ passes_ (is_some draft.channels) Repeated (Ok (ChannelsLine n)) (ap (λ o. is_some o) none)

pub bits_small : (n : ℕ) → is_bits n ≡ true → n < 2 ^ 32
bits_small n is = elim (or_cases (n == 16) (n == 24) is) [ inl a ↦ let e = eqb-true n 16 a in omega (arith, e) | inr b ↦ let e = eqb-true n 24 b in omega (arith, e) ]

pub bits_says : (draft : Draft) (n : ℕ) → draft.bits ≡ None → is_bits n ≡ true → Lines.bits_line draft (decimal n) ≡ Ok (BitsLine n)
bits_says draft n none is =
    then_ (λ n. fault_if (is_some draft.bits) Repeated (Ok (BitsLine n))) n (that_reads is_bits n (bits_small n is) is)
    ∙ passes_ (is_some draft.bits) Repeated (Ok (BitsLine n)) (ap (λ o. is_some o) none)

pub pattern_says : (draft : Draft) (sizes : List ℕ) → draft.pattern ≡ [] → All (λ n. is_within 1 8192 n ≡ true) sizes → Lines.pattern_line draft (map decimal sizes) ≡ Ok (PatternLine sizes)
pattern_says draft sizes none all =
    then_ (λ sizes. fault_if (nat_lt 0 (length draft.pattern)) Repeated (Ok (PatternLine sizes))) sizes (numbers_read 1 8192 sizes (omega arith) all)
    ∙ passes_ (nat_lt 0 (length draft.pattern)) Repeated (Ok (PatternLine sizes)) (ap (λ xs. nat_lt 0 (length xs)) none)

pub node_says : (known : List ClassInfo) (draft : Draft) (name class_name : List ℕ) (class : ClassInfo) → is_name name ≡ true → class_named known class_name ≡ Some class → node_named draft.nodes name ≡ None → length draft.nodes < 64 → Lines.node_line known draft name class_name ≡ Ok (NodeLine name class)
node_says known draft name class_name class named found new few =
    let last : ClassInfo → Checked Entry = λ class. fault_if (nat_le 64 (length draft.nodes)) TooMany (Ok (NodeLine name class)) in
    let next : ClassInfo → Checked Entry = λ class. fault_if (is_some (node_named draft.nodes name)) DuplicateNode (last class) in
    passes_ (not (is_name name)) BadName (given (the_class known class_name) next) (not_from_true (is_name name) named)
    ∙ then_ next class (ap (λ o. ok_or o UnknownClass) found)
    ∙ passes_ (is_some (node_named draft.nodes name)) DuplicateNode (last class) (ap (λ o. is_some o) new)
    ∙ passes_ (nat_le 64 (length draft.nodes)) TooMany (Ok (NodeLine name class)) (not_least 64 (length draft.nodes) few)

pub preset_says : (draft : Draft) (name file : List ℕ) (node : ℕ) → the_node draft.nodes name ≡ Ok node → length file ≤ 255 → has_preset draft.presets node ≡ false → Lines.preset_line draft name file ≡ Ok (PresetLine node file)
preset_says draft name file node found short new =
    let last : ℕ → Checked Entry = λ node. fault_if (has_preset draft.presets node) Repeated (Ok (PresetLine node file)) in
    then_ (λ node. fault_if (nat_lt 255 (length file)) BadName (last node)) node found
    ∙ passes_ (nat_lt 255 (length file)) BadName (last node) (le-ltb 255 (length file) short)
    ∙ passes_ (has_preset draft.presets node) Repeated (Ok (PresetLine node file)) new

pub param_says : (draft : Draft) (name : List ℕ) (node id value : ℕ) (param : ParamInfo) → the_node draft.nodes name ≡ Ok node → settable_param draft.nodes node (decimal id) ≡ Ok param → param.id ≡ id → is_within 0 one value ≡ true → has_first draft.firsts node id ≡ false → Lines.param_line draft name (decimal id) (decimal value) ≡ Ok (ParamLine node id value)
param_says draft name node id value param found settable same within new =
    let last : ℕ → ParamInfo → ℕ → Checked Entry = λ node param first. fault_if (has_first draft.firsts node param.id) Repeated (Ok (ParamLine node param.id first)) in
    then_ (λ node. given (settable_param draft.nodes node (decimal id)) (λ param. given (number_within 0 one (decimal value)) (last node param))) node found
    ∙ then_ (λ param. given (number_within 0 one (decimal value)) (last node param)) param settable
    ∙ then_ (last node param) value (within_reads 0 one value (omega arith) within)
    ∙ ap (λ i. fault_if (has_first draft.firsts node i) Repeated (Ok (ParamLine node i value))) same
    ∙ passes_ (has_first draft.firsts node id) Repeated (Ok (ParamLine node id value)) new

pub wire_says : (draft : Draft) (from_text to_text : List ℕ) (further : Option (List ℕ)) (wire : Wire) → first_end draft.nodes from_text ≡ Ok wire.from → last_end draft.nodes to_text ≡ Ok wire.to → is_some further ≡ wire.aux → lacks_bus draft.aux wire.to further ≡ false → has_wire draft.wires wire ≡ false → length draft.wires < 256 → Lines.wire_line draft from_text to_text further ≡ Ok (WireLine wire)
wire_says draft from_text to_text further wire from to aux bus new few =
    then_ (λ from. given (last_end draft.nodes to_text) (λ to. Lines.wire_between draft further (record { from = from; to = to; aux = is_some further }))) wire.from from
    ∙ then_ (λ to. Lines.wire_between draft further (record { from = wire.from; to = to; aux = is_some further })) wire.to to
    ∙ ap (λ aux. Lines.wire_between draft further (record { from = wire.from; to = wire.to; aux = aux })) aux
    ∙ passes_ (lacks_bus draft.aux wire.to further || has_wire draft.wires wire) BadWire (fault_if (nat_le 256 (length draft.wires)) TooMany (Ok (WireLine wire))) (or_from (lacks_bus draft.aux wire.to further) (has_wire draft.wires wire) bus new)
    ∙ passes_ (nat_le 256 (length draft.wires)) TooMany (Ok (WireLine wire)) (not_least 256 (length draft.wires) few)

pub lane_says : (draft : Draft) (name : List ℕ) (node id grain sample value : ℕ) (param : ParamInfo) → the_node draft.nodes name ≡ Ok node → settable_param draft.nodes node (decimal id) ≡ Ok param → param.id ≡ id → can_automate param ≡ true → is_within 0 24 grain ≡ true → is_within 0 16777216 sample ≡ true → is_within 0 one value ≡ true → has_lane draft.lanes node id ≡ false → length draft.lanes < 256
    → Lines.lane_line draft name (decimal id) (decimal grain) (decimal sample) (decimal value) ≡ Ok (LaneLine node id grain sample value)
lane_says draft name node id grain sample value param found settable same can coarse at within new few =
    let few_ : ℕ → ℕ → ℕ → ℕ → ℕ → Checked Entry = λ node id grain sample value. fault_if (nat_le 256 (length draft.lanes)) TooMany (Ok (LaneLine node id grain sample value)) in
    let last : ℕ → ParamInfo → ℕ → ℕ → ℕ → Checked Entry = λ node param grain sample value. fault_if (not (can_automate param) || has_lane draft.lanes node param.id) BadLane (few_ node param.id grain sample value) in
    then_ (λ node. given (settable_param draft.nodes node (decimal id)) (λ param. given (number_within 0 24 (decimal grain)) (λ grain. given (number_within 0 16777216 (decimal sample)) (λ sample. given (number_within 0 one (decimal value)) (last node param grain sample))))) node found
    ∙ then_ (λ param. given (number_within 0 24 (decimal grain)) (λ grain. given (number_within 0 16777216 (decimal sample)) (λ sample. given (number_within 0 one (decimal value)) (last node param grain sample)))) param settable
    ∙ then_ (λ grain. given (number_within 0 16777216 (decimal sample)) (λ sample. given (number_within 0 one (decimal value)) (last node param grain sample))) grain (within_reads 0 24 grain (omega arith) coarse)
    ∙ then_ (λ sample. given (number_within 0 one (decimal value)) (last node param grain sample)) sample (within_reads 0 16777216 sample (omega arith) at)
    ∙ then_ (last node param grain sample) value (within_reads 0 one value (omega arith) within)
    ∙ ap (λ i. fault_if (not (can_automate param) || has_lane draft.lanes node i) BadLane (few_ node i grain sample value)) same
    ∙ passes_ (not (can_automate param) || has_lane draft.lanes node id) BadLane (few_ node id grain sample value) (or_from (not (can_automate param)) (has_lane draft.lanes node id) (not_from_true (can_automate param) can) new)
    ∙ passes_ (nat_le 256 (length draft.lanes)) TooMany (Ok (LaneLine node id grain sample value)) (not_least 256 (length draft.lanes) few)

pub point_says : (draft : Draft) (sample value : ℕ) → draft.in_lane ≡ true → is_within 0 16777216 sample ≡ true → is_within 0 one value ≡ true → last_sample draft.lanes < sample → break_count draft.lanes < 4096 → Lines.point_line draft (decimal sample) (decimal value) ≡ Ok (PointLine sample value)
point_says draft sample value in_ at within rises few =
    let few_ : ℕ → ℕ → Checked Entry = λ sample value. fault_if (nat_le 4096 (break_count draft.lanes)) TooMany (Ok (PointLine sample value)) in
    let last : ℕ → ℕ → Checked Entry = λ sample value. fault_if (not draft.in_lane || nat_le sample (last_sample draft.lanes)) BadLane (few_ sample value) in
    then_ (λ sample. given (number_within 0 one (decimal value)) (last sample)) sample (within_reads 0 16777216 sample (omega arith) at)
    ∙ then_ (last sample) value (within_reads 0 one value (omega arith) within)
    ∙ passes_ (not draft.in_lane || nat_le sample (last_sample draft.lanes)) BadLane (few_ sample value) (or_from (not draft.in_lane) (nat_le sample (last_sample draft.lanes)) (not_from_true draft.in_lane in_) (not_least sample (last_sample draft.lanes) rises))
    ∙ passes_ (nat_le 4096 (break_count draft.lanes)) TooMany (Ok (PointLine sample value)) (not_least 4096 (break_count draft.lanes) few)

pub editor_says : (draft : Draft) (n : ℕ) → n ≡ length draft.scripts → n < 8 → Lines.editor_line draft (decimal n) ≡ Ok EditorLine
editor_says draft n is few =
    let few_ : Checked Entry = fault_if (nat_le 8 (length draft.scripts)) TooMany (Ok EditorLine) in
    then_ (λ n. fault_if (not (n == length draft.scripts)) BadEditor few_) n (any_reads n (omega (arith, few)))
    ∙ passes_ (not (n == length draft.scripts)) BadEditor few_ (not_from_true (n == length draft.scripts) (eq-eqb n (length draft.scripts) is))
    ∙ passes_ (nat_le 8 (length draft.scripts)) TooMany (Ok EditorLine) (not_least 8 (length draft.scripts) (omega (arith, is, few)))

pub script_says : (draft : Draft) (word : ScriptWord) → 0 < length draft.scripts → draft.script_count < 4096 → Lines.script_line draft word ≡ Ok (ScriptLine word)
script_says draft word some few =
    let few_ : Checked Entry = fault_if (nat_le 4096 draft.script_count) TooMany (Ok (ScriptLine word)) in
    passes_ (length draft.scripts == 0) BadEditor few_ (false_from_ne_true (length draft.scripts == 0) (λ test. let e = eqb-true (length draft.scripts) 0 test in omega (arith, e, some)))
    ∙ passes_ (nat_le 4096 draft.script_count) TooMany (Ok (ScriptLine word)) (not_least 4096 draft.script_count few)

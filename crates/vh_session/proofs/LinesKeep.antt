-- What each kind of line keeps.
use Rattle.std.proofs.Common.{◌≡◌, ◌∙◌, ℕ, zero, suc, ◌<◌, ◌≤◌, ◌==◌, Bool, true, false, List, [], ◌∷◌, drop, length, get_or, refl, sym, ap, subst, arith, Ok, Some, None, Option, nat_lt, true≢false}
use Rattle.std.specs.Prelude.{All, IfSome, nat_le, not, ◌&&◌, ◌||◌, codes}
use Rattle.std.specs.Option.{is_some, ok_or}
use Rattle.std.specs.Str.{bytes_eq}
use Rattle.std.proofs.lemmas.Bool.{leb-false, ltb-false, eqb-false, and_parts, or_parts, and_from, not-false, not_from_false}
use Rattle.std.proofs.lemmas.List.Elements.{All-cons, All-tail}
use Rattle.vh_lane.specs.Values.{AreBreaks}
use Rattle.vh_params.specs.declared.class.ClassInfo.{ClassInfo}
use Rattle.vh_params.specs.Names.{is_name}
use Rattle.vh_session.specs.declared.fault.SessionKind.TheVariants.{UnknownWord, BadName, Repeated, DuplicateNode, BadWire, BadLane, BadEditor, TooMany}
use Rattle.vh_session.specs.declared.wire.End.{End}
use Rattle.vh_session.specs.declared.wire.End.TheVariants.{In, Out, Node as AtNode}
use Rattle.vh_session.specs.declared.wire.Wire.{Wire}
use Rattle.vh_session.specs.Entry.{Entry, LengthLine, ChannelsLine, BitsLine, PatternLine, NodeLine, PresetLine, ParamLine, WireLine, LaneLine, PointLine, EditorLine, ScriptLine, ScriptWord, BeginWord, PerformWord, EndWord, TellWord, HoldWord, DropWord, WaitWord, Draft, with_entry, last_sample, break_count}
use Rattle.vh_session.specs.Rules.{Checked, word, arity, any_number, number_that, number_within, numbers_that, node_named, the_node, the_class, settable_param, can_automate, is_read_only, first_end, last_end}
use Rattle.vh_text.specs.Numbers.{is_within}
use Rattle.vh_text.specs.Chains.{given, fault_if}
use Rattle.vh_session.specs.Lines
use Rattle.vh_session.specs.Lines.{one, is_bits, is_any, has_aux, lacks_bus, has_preset, has_first, has_wire, has_lane, third, line_of_kind, line_of_words}
use Rattle.vh_session.specs.Keeps.{Ends, IsScriptWord, is_settable, is_automated}
use Rattle.vh_text.specs.Tokens.{IsWord}
use Rattle.vh_session.proofs.Legal.{IsLegal}
use Rattle.vh_session.proofs.Added.{length_added, channels_added, bits_added, pattern_added, preset_added, param_added, wire_added, lane_added, point_added, editor_added, script_added, is_one}
use Rattle.vh_session.proofs.NodeAdded.{node_added}
use Rattle.vh_session.specs.declared.kind.LineKind.{LineKind}
use Rattle.vh_session.specs.declared.kind.LineKind.TheVariants as kind
use Rattle.vh_session.specs.LineKinds.{kind_named, least_words, most_words}
use Rattle.vh_text.proofs.Gives.{Gives, gives_ok, gives_err, gives_given, gives_fault_if, gives_if}
use Rattle.vh_session.proofs.Accepted.{any_given, that_given, numbers_given, node_given, param_given, class_given, count_given, first_given, last_given}

-- a line of this number keeps what those before it do
abbrev pub Keeps : List ClassInfo → Draft → ℕ → Entry → Type 0
Keeps known draft line entry = IsLegal known (with_entry line entry draft)

keeps_length : (known : List ClassInfo) (draft : Draft) (line : ℕ) (text : List ℕ) → IsLegal known draft → Gives (Keeps known draft line) (Lines.length_line draft text)
keeps_length known draft line text legal = let K = Keeps known draft line in
    gives_given K (number_within 0 16777216 text) (λ n. fault_if (is_some draft.length) Repeated (Ok (LengthLine n))) (λ n is.
    gives_fault_if K (is_some draft.length) Repeated (Ok (LengthLine n)) (λ new.
    gives_ok K (LengthLine n) (length_added known draft line n legal (that_given (is_within 0 16777216) text n is))))

keeps_channels : (known : List ClassInfo) (draft : Draft) (line : ℕ) (text : List ℕ) → IsLegal known draft → Gives (Keeps known draft line) (Lines.channels_line draft text)
keeps_channels known draft line text legal = let K = Keeps known draft line in
    gives_given K (number_within 1 2 text) (λ n. fault_if (is_some draft.channels) Repeated (Ok (ChannelsLine n))) (λ n is.
    gives_fault_if K (is_some draft.channels) Repeated (Ok (ChannelsLine n)) (λ new.
    gives_ok K (ChannelsLine n) (channels_added known draft line n legal (that_given (is_within 1 2) text n is))))

keeps_bits : (known : List ClassInfo) (draft : Draft) (line : ℕ) (text : List ℕ) → IsLegal known draft → Gives (Keeps known draft line) (Lines.bits_line draft text)
keeps_bits known draft line text legal = let K = Keeps known draft line in
    gives_given K (number_that is_bits text) (λ n. fault_if (is_some draft.bits) Repeated (Ok (BitsLine n))) (λ n is.
    gives_fault_if K (is_some draft.bits) Repeated (Ok (BitsLine n)) (λ new.
    gives_ok K (BitsLine n) (bits_added known draft line n legal (that_given is_bits text n is))))

keeps_pattern : (known : List ClassInfo) (draft : Draft) (line : ℕ) (texts : List (List ℕ)) → (1 ≤ length texts) × (length texts ≤ 16) → IsLegal known draft → Gives (Keeps known draft line) (Lines.pattern_line draft texts)
keeps_pattern known draft line texts count legal = let K = Keeps known draft line in
    gives_given K (numbers_that (is_within 1 8192) texts) (λ sizes. fault_if (nat_lt 0 (length draft.pattern)) Repeated (Ok (PatternLine sizes))) (λ sizes is.
    gives_fault_if K (nat_lt 0 (length draft.pattern)) Repeated (Ok (PatternLine sizes)) (λ new.
    let are = numbers_given (is_within 1 8192) texts sizes is in
    let long = are.0 in
    let least = count.0 in
    let most = count.1 in
    gives_ok K (PatternLine sizes) (pattern_added known draft line sizes legal (omega (arith, long, least), omega (arith, long, most), are.1))))

none_of : {A : Type 0} (option : Option A) → is_some option ≡ false → option ≡ None
none_of None is = refl
none_of (Some a) is = absurd (true≢false is)

keeps_node : (known : List ClassInfo) (draft : Draft) (line : ℕ) (name class_name : List ℕ) → IsWord class_name → IsLegal known draft → Gives (Keeps known draft line) (Lines.node_line known draft name class_name)
keeps_node known draft line name class_name is_word legal = let K = Keeps known draft line in
    let last : (class : ClassInfo) → Checked Entry = λ class. fault_if (nat_le 64 (length draft.nodes)) TooMany (Ok (NodeLine name class)) in
    let next : (class : ClassInfo) → Checked Entry = λ class. fault_if (is_some (node_named draft.nodes name)) DuplicateNode (last class) in
    gives_fault_if K (not (is_name name)) BadName (given (the_class known class_name) next) (λ named.
    gives_given K (the_class known class_name) next (λ class is.
    gives_fault_if K (is_some (node_named draft.nodes name)) DuplicateNode (last class) (λ new.
    gives_fault_if K (nat_le 64 (length draft.nodes)) TooMany (Ok (NodeLine name class)) (λ few.
    let found = class_given known class_name class is in
    gives_ok K (NodeLine name class) (node_added known draft line name class legal (leb-false 64 (length draft.nodes) few) (not-false (is_name name) named) (none_of (node_named draft.nodes name) new) (subst IsWord (sym found.1) is_word) found.0)))))

keeps_preset : (known : List ClassInfo) (draft : Draft) (line : ℕ) (name file : List ℕ) → IsWord file → IsLegal known draft → Gives (Keeps known draft line) (Lines.preset_line draft name file)
keeps_preset known draft line name file is_word legal = let K = Keeps known draft line in
    let last : ℕ → Checked Entry = λ node. fault_if (has_preset draft.presets node) Repeated (Ok (PresetLine node file)) in
    gives_given K (the_node draft.nodes name) (λ node. fault_if (nat_lt 255 (length file)) BadName (last node)) (λ node is.
    gives_fault_if K (nat_lt 255 (length file)) BadName (last node) (λ short.
    gives_fault_if K (has_preset draft.presets node) Repeated (Ok (PresetLine node file)) (λ new.
    gives_ok K (PresetLine node file) (preset_added known draft line node file legal (is_word, ltb-false 255 (length file) short)))))

keeps_param : (known : List ClassInfo) (draft : Draft) (line : ℕ) (name id value : List ℕ) → IsLegal known draft → Gives (Keeps known draft line) (Lines.param_line draft name id value)
keeps_param known draft line name id value legal = let K = Keeps known draft line in
    gives_given K (the_node draft.nodes name) (λ node. given (settable_param draft.nodes node id) (λ param. given (number_within 0 one value) (λ first. fault_if (has_first draft.firsts node param.id) Repeated (Ok (ParamLine node param.id first))))) (λ node node_is.
    gives_given K (settable_param draft.nodes node id) (λ param. given (number_within 0 one value) (λ first. fault_if (has_first draft.firsts node param.id) Repeated (Ok (ParamLine node param.id first)))) (λ param param_is.
    gives_given K (number_within 0 one value) (λ first. fault_if (has_first draft.firsts node param.id) Repeated (Ok (ParamLine node param.id first))) (λ first is.
    gives_fault_if K (has_first draft.firsts node param.id) Repeated (Ok (ParamLine node param.id first)) (λ new.
    let found = param_given draft.nodes node id param param_is in
    gives_ok K (ParamLine node param.id first) (param_added known draft line node param.id first legal (ap is_settable found.0 ∙ not_from_false (is_read_only param) found.1) found.2 (that_given (is_within 0 one) value first is))))))

-- where a wire of so many words ends
ends_into : (count : ℕ) (aux : List Bool) (to : End) (further : Option (List ℕ)) → Ends count false to → lacks_bus aux to further ≡ false → (Ends count (is_some further) to) × (is_some further ≡ true → has_aux aux to ≡ true)
ends_into count aux to None ends has = (ends, λ is. absurd (true≢false (sym is)))
ends_into count aux to (Some text) ends has =
    let bus : has_aux aux to ≡ true = (and_parts (bytes_eq text (codes "aux")) (has_aux aux to) (not-false (bytes_eq text (codes "aux") && has_aux aux to) has)).1 in
    (at to ends bus, λ is. bus)
  where
    at : (to : End) → Ends count false to → has_aux aux to ≡ true → Ends count true to
    at In ends bus = ends
    at Out ends bus = absurd (true≢false (sym bus))
    at (AtNode node) ends bus = ends

keeps_between : (known : List ClassInfo) (draft : Draft) (line : ℕ) (further : Option (List ℕ)) (from to : End) → (from_text to_text : List ℕ) → first_end draft.nodes from_text ≡ Ok from → last_end draft.nodes to_text ≡ Ok to → IsLegal known draft → Gives (Keeps known draft line) (Lines.wire_between draft further (record { from = from; to = to; aux = is_some further }))
keeps_between known draft line further from to from_text to_text from_is to_is legal =
    let K = Keeps known draft line in
    let wire : Wire = record { from = from; to = to; aux = is_some further } in
    gives_fault_if K (lacks_bus draft.aux to further || has_wire draft.wires wire) BadWire (fault_if (nat_le 256 (length draft.wires)) TooMany (Ok (WireLine wire))) (λ new.
    gives_fault_if K (nat_le 256 (length draft.wires)) TooMany (Ok (WireLine wire)) (λ few.
    let parts = or_parts (lacks_bus draft.aux to further) (has_wire draft.wires wire) new in
    let ends = ends_into (length draft.nodes) draft.aux to further (last_given draft.nodes to_text to to_is) parts.0 in
    gives_ok K (WireLine wire) (wire_added known draft line wire legal (leb-false 256 (length draft.wires) few) (record { from = first_given draft.nodes from_text from from_is; to = ends.0; new = parts.1 }) ends.1)))

keeps_wire : (known : List ClassInfo) (draft : Draft) (line : ℕ) (from_text to_text : List ℕ) (further : Option (List ℕ)) → IsLegal known draft → Gives (Keeps known draft line) (Lines.wire_line draft from_text to_text further)
keeps_wire known draft line from_text to_text further legal = let K = Keeps known draft line in
    gives_given K (first_end draft.nodes from_text) (λ from. given (last_end draft.nodes to_text) (λ to. Lines.wire_between draft further (record { from = from; to = to; aux = is_some further }))) (λ from from_is.
    gives_given K (last_end draft.nodes to_text) (λ to. Lines.wire_between draft further (record { from = from; to = to; aux = is_some further })) (λ to to_is.
    keeps_between known draft line further from to from_text to_text from_is to_is legal))

one_break : (sample value : ℕ) → is_within 0 one value ≡ true → AreBreaks ((sample, value) ∷ [])
one_break sample value within = record {
  some = omega arith;
  most = omega arith;
  rise = λ i j d lt jl. absurd (omega (arith, lt, jl));
  within = λ i d lt. elim i as (λ i. i < 1 → (get_or ((sample, value) ∷ []) i d).1 ≤ 16777216) [
    | zero ↦ λ l. is_one value within
    | suc k ↦ λ l. absurd (omega (arith, l))
  ] lt;
}

keeps_lane : (known : List ClassInfo) (draft : Draft) (line : ℕ) (name id grain_text sample_text value_text : List ℕ) → IsLegal known draft → Gives (Keeps known draft line) (Lines.lane_line draft name id grain_text sample_text value_text)
keeps_lane known draft line name id grain_text sample_text value_text legal = let K = Keeps known draft line in
    gives_given K (the_node draft.nodes name) (λ node. given (settable_param draft.nodes node id) (λ param. given (number_within 0 24 grain_text) (λ grain. given (number_within 0 16777216 sample_text) (λ sample. given (number_within 0 one value_text) (λ value. fault_if (not (can_automate param) || has_lane draft.lanes node param.id) BadLane (fault_if (nat_le 256 (length draft.lanes)) TooMany (Ok (LaneLine node param.id grain sample value)))))))) (λ node node_is.
    gives_given K (settable_param draft.nodes node id) (λ param. given (number_within 0 24 grain_text) (λ grain. given (number_within 0 16777216 sample_text) (λ sample. given (number_within 0 one value_text) (λ value. fault_if (not (can_automate param) || has_lane draft.lanes node param.id) BadLane (fault_if (nat_le 256 (length draft.lanes)) TooMany (Ok (LaneLine node param.id grain sample value))))))) (λ param param_is.
    gives_given K (number_within 0 24 grain_text) (λ grain. given (number_within 0 16777216 sample_text) (λ sample. given (number_within 0 one value_text) (λ value. fault_if (not (can_automate param) || has_lane draft.lanes node param.id) BadLane (fault_if (nat_le 256 (length draft.lanes)) TooMany (Ok (LaneLine node param.id grain sample value)))))) (λ grain grain_is.
    gives_given K (number_within 0 16777216 sample_text) (λ sample. given (number_within 0 one value_text) (λ value. fault_if (not (can_automate param) || has_lane draft.lanes node param.id) BadLane (fault_if (nat_le 256 (length draft.lanes)) TooMany (Ok (LaneLine node param.id grain sample value))))) (λ sample sample_is.
    gives_given K (number_within 0 one value_text) (λ value. fault_if (not (can_automate param) || has_lane draft.lanes node param.id) BadLane (fault_if (nat_le 256 (length draft.lanes)) TooMany (Ok (LaneLine node param.id grain sample value)))) (λ value value_is.
    gives_fault_if K (not (can_automate param) || has_lane draft.lanes node param.id) BadLane (fault_if (nat_le 256 (length draft.lanes)) TooMany (Ok (LaneLine node param.id grain sample value))) (λ new.
    gives_fault_if K (nat_le 256 (length draft.lanes)) TooMany (Ok (LaneLine node param.id grain sample value)) (λ few.
    let found = param_given draft.nodes node id param param_is in
    let parts = or_parts (not (can_automate param)) (has_lane draft.lanes node param.id) new in
    let at = that_given (is_within 0 16777216) sample_text sample sample_is in
    let within = that_given (is_within 0 one) value_text value value_is in
    gives_ok K (LaneLine node param.id grain sample value) (lane_added known draft line node param.id grain sample value legal (leb-false 256 (length draft.lanes) few) (record {
      param = ap is_automated found.0 ∙ and_from (not (is_read_only param)) (can_automate param) (not_from_false (is_read_only param) found.1) (not-false (can_automate param) parts.0);
      id = found.2;
      new = parts.1;
      grain = that_given (is_within 0 24) grain_text grain grain_is;
      breaks = one_break sample value within;
      samples = All-cons (λ break. is_within 0 16777216 break.0 ≡ true) (sample, value) [] at (λ k d lt. absurd (omega (arith, lt)));
    })))))))))

keeps_point : (known : List ClassInfo) (draft : Draft) (line : ℕ) (sample_text value_text : List ℕ) → IsLegal known draft → Gives (Keeps known draft line) (Lines.point_line draft sample_text value_text)
keeps_point known draft line sample_text value_text legal = let K = Keeps known draft line in
    gives_given K (number_within 0 16777216 sample_text) (λ sample. given (number_within 0 one value_text) (λ value. fault_if (not draft.in_lane || nat_le sample (last_sample draft.lanes)) BadLane (fault_if (nat_le 4096 (break_count draft.lanes)) TooMany (Ok (PointLine sample value))))) (λ sample sample_is.
    gives_given K (number_within 0 one value_text) (λ value. fault_if (not draft.in_lane || nat_le sample (last_sample draft.lanes)) BadLane (fault_if (nat_le 4096 (break_count draft.lanes)) TooMany (Ok (PointLine sample value)))) (λ value value_is.
    gives_fault_if K (not draft.in_lane || nat_le sample (last_sample draft.lanes)) BadLane (fault_if (nat_le 4096 (break_count draft.lanes)) TooMany (Ok (PointLine sample value))) (λ rises.
    gives_fault_if K (nat_le 4096 (break_count draft.lanes)) TooMany (Ok (PointLine sample value)) (λ few.
    gives_ok K (PointLine sample value) (point_added known draft line sample value legal (leb-false sample (last_sample draft.lanes) (or_parts (not draft.in_lane) (nat_le sample (last_sample draft.lanes)) rises).1) (leb-false 4096 (break_count draft.lanes) few) (that_given (is_within 0 16777216) sample_text sample sample_is) (that_given (is_within 0 one) value_text value value_is))))))

keeps_editor : (known : List ClassInfo) (draft : Draft) (line : ℕ) (text : List ℕ) → IsLegal known draft → Gives (Keeps known draft line) (Lines.editor_line draft text)
keeps_editor known draft line text legal = let K = Keeps known draft line in
    gives_given K (any_number text) (λ n. fault_if (not (n == length draft.scripts)) BadEditor (fault_if (nat_le 8 (length draft.scripts)) TooMany (Ok EditorLine))) (λ n is.
    gives_fault_if K (not (n == length draft.scripts)) BadEditor (fault_if (nat_le 8 (length draft.scripts)) TooMany (Ok EditorLine)) (λ next.
    gives_fault_if K (nat_le 8 (length draft.scripts)) TooMany (Ok EditorLine) (λ few.
    gives_ok K EditorLine (editor_added known draft line legal (leb-false 8 (length draft.scripts) few)))))

keeps_script : (known : List ClassInfo) (draft : Draft) (line : ℕ) (script_word : ScriptWord) → IsScriptWord (length draft.nodes) script_word → IsLegal known draft → Gives (Keeps known draft line) (Lines.script_line draft script_word)
keeps_script known draft line script_word fits legal = let K = Keeps known draft line in
    gives_fault_if K (length draft.scripts == 0) BadEditor (fault_if (nat_le 4096 draft.script_count) TooMany (Ok (ScriptLine script_word))) (λ some.
    gives_fault_if K (nat_le 4096 draft.script_count) TooMany (Ok (ScriptLine script_word)) (λ few.
    let differ = eqb-false (length draft.scripts) 0 some in
    gives_ok K (ScriptLine script_word) (script_added known draft line script_word legal (grind (arith, differ)) (leb-false 4096 draft.script_count few) fits)))

keeps_begin : (known : List ClassInfo) (draft : Draft) (line : ℕ) (name id_text : List ℕ) → IsLegal known draft → Gives (Keeps known draft line) (Lines.begin_line draft name id_text)
keeps_begin known draft line name id_text legal = let K = Keeps known draft line in
    gives_given K (the_node draft.nodes name) (λ node. given (any_number id_text) (λ id. Lines.script_line draft (BeginWord node id))) (λ node node_is.
    gives_given K (any_number id_text) (λ id. Lines.script_line draft (BeginWord node id)) (λ id id_is.
    keeps_script known draft line (BeginWord node id) (node_given draft.nodes name node node_is, any_given id_text id id_is) legal))

keeps_perform : (known : List ClassInfo) (draft : Draft) (line : ℕ) (name id_text value_text : List ℕ) → IsLegal known draft → Gives (Keeps known draft line) (Lines.perform_line draft name id_text value_text)
keeps_perform known draft line name id_text value_text legal = let K = Keeps known draft line in
    gives_given K (the_node draft.nodes name) (λ node. given (any_number id_text) (λ id. given (any_number value_text) (λ value. Lines.script_line draft (PerformWord node id value)))) (λ node node_is.
    gives_given K (any_number id_text) (λ id. given (any_number value_text) (λ value. Lines.script_line draft (PerformWord node id value))) (λ id id_is.
    gives_given K (any_number value_text) (λ value. Lines.script_line draft (PerformWord node id value)) (λ value value_is.
    keeps_script known draft line (PerformWord node id value) (node_given draft.nodes name node node_is, any_given id_text id id_is, any_given value_text value value_is) legal)))

keeps_end : (known : List ClassInfo) (draft : Draft) (line : ℕ) (name id_text : List ℕ) → IsLegal known draft → Gives (Keeps known draft line) (Lines.end_line draft name id_text)
keeps_end known draft line name id_text legal = let K = Keeps known draft line in
    gives_given K (the_node draft.nodes name) (λ node. given (any_number id_text) (λ id. Lines.script_line draft (EndWord node id))) (λ node node_is.
    gives_given K (any_number id_text) (λ id. Lines.script_line draft (EndWord node id)) (λ id id_is.
    keeps_script known draft line (EndWord node id) (node_given draft.nodes name node node_is, any_given id_text id id_is) legal))

keeps_tell : (known : List ClassInfo) (draft : Draft) (line : ℕ) (name : List ℕ) (texts : List (List ℕ)) → length texts ≤ 4 → IsLegal known draft → Gives (Keeps known draft line) (Lines.tell_line draft name texts)
keeps_tell known draft line name texts most legal = let K = Keeps known draft line in
    gives_given K (the_node draft.nodes name) (λ node. given (numbers_that is_any texts) (λ numbers. Lines.script_line draft (TellWord node numbers))) (λ node node_is.
    gives_given K (numbers_that is_any texts) (λ numbers. Lines.script_line draft (TellWord node numbers)) (λ numbers is.
    let are = numbers_given is_any texts numbers is in
    let long = are.0 in
    keeps_script known draft line (TellWord node numbers) (node_given draft.nodes name node node_is, (omega (arith, long, most), are.1)) legal))

keeps_hold : (known : List ClassInfo) (draft : Draft) (line : ℕ) (name : List ℕ) → IsLegal known draft → Gives (Keeps known draft line) (Lines.hold_line draft name)
keeps_hold known draft line name legal = let K = Keeps known draft line in
    gives_given K (the_node draft.nodes name) (λ node. Lines.script_line draft (HoldWord node)) (λ node node_is. keeps_script known draft line (HoldWord node) (node_given draft.nodes name node node_is) legal)

keeps_drop : (known : List ClassInfo) (draft : Draft) (line : ℕ) (name : List ℕ) → IsLegal known draft → Gives (Keeps known draft line) (Lines.drop_line draft name)
keeps_drop known draft line name legal = let K = Keeps known draft line in
    gives_given K (the_node draft.nodes name) (λ node. Lines.script_line draft (DropWord node)) (λ node node_is. keeps_script known draft line (DropWord node) (node_given draft.nodes name node node_is) legal)

keeps_wait : (known : List ClassInfo) (draft : Draft) (line : ℕ) (text : List ℕ) → IsLegal known draft → Gives (Keeps known draft line) (Lines.wait_line draft text)
keeps_wait known draft line text legal = let K = Keeps known draft line in
    gives_given K (any_number text) (λ block. Lines.script_line draft (WaitWord block)) (λ block is. keeps_script known draft line (WaitWord block) (any_given text block is) legal)

is_at : (words : List (List ℕ)) (i : ℕ) → All IsWord words → i < length words → IsWord (word words i)
is_at words i all lt = all i [] lt

fewer : (words : List (List ℕ)) → length words ≤ 5 → length (drop 1 words) ≤ 4
fewer [] most = omega arith
fewer (first ∷ words) most = omega (arith, most)

kind_keeps : (known : List ClassInfo) (draft : Draft) (line : ℕ) (k : LineKind) (words : List (List ℕ)) → All IsWord words → (least_words k ≤ length words) × (length words ≤ most_words k) → IsLegal known draft → Gives (Keeps known draft line) (line_of_kind known draft k words)
kind_keeps known draft line kind.Length words all count legal = keeps_length known draft line (word words 0) legal
kind_keeps known draft line kind.Channels words all count legal = keeps_channels known draft line (word words 0) legal
kind_keeps known draft line kind.Bits words all count legal = keeps_bits known draft line (word words 0) legal
kind_keeps known draft line kind.Pattern words all count legal = keeps_pattern known draft line words count legal
kind_keeps known draft line kind.Node words all count legal = keeps_node known draft line (word words 0) (word words 1) (is_at words 1 all count.0) legal
kind_keeps known draft line kind.Preset words all count legal = keeps_preset known draft line (word words 0) (word words 1) (is_at words 1 all count.0) legal
kind_keeps known draft line kind.Param words all count legal = keeps_param known draft line (word words 0) (word words 1) (word words 2) legal
kind_keeps known draft line kind.Wire words all count legal = keeps_wire known draft line (word words 0) (word words 1) (third words) legal
kind_keeps known draft line kind.Lane words all count legal = keeps_lane known draft line (word words 0) (word words 1) (word words 2) (word words 3) (word words 4) legal
kind_keeps known draft line kind.Point words all count legal = keeps_point known draft line (word words 0) (word words 1) legal
kind_keeps known draft line kind.Editor words all count legal = keeps_editor known draft line (word words 0) legal
kind_keeps known draft line kind.Begin words all count legal = keeps_begin known draft line (word words 0) (word words 1) legal
kind_keeps known draft line kind.Perform words all count legal = keeps_perform known draft line (word words 0) (word words 1) (word words 2) legal
kind_keeps known draft line kind.End words all count legal = keeps_end known draft line (word words 0) (word words 1) legal
kind_keeps known draft line kind.Tell words all count legal = keeps_tell known draft line (word words 0) (drop 1 words) (fewer words count.1) legal
kind_keeps known draft line kind.Hold words all count legal = keeps_hold known draft line (word words 0) legal
kind_keeps known draft line kind.Drop words all count legal = keeps_drop known draft line (word words 0) legal
kind_keeps known draft line kind.Wait words all count legal = keeps_wait known draft line (word words 0) legal

pub words_keep : (known : List ClassInfo) (draft : Draft) (line : ℕ) (words : List (List ℕ)) → All IsWord words → IsLegal known draft → Gives (Keeps known draft line) (line_of_words known draft words)
words_keep known draft line [] all legal = gives_err (Keeps known draft line) UnknownWord
words_keep known draft line (first ∷ words) all legal =
    let K = Keeps known draft line in
    let count_ : LineKind → Checked Entry = λ k. given (arity (least_words k) (most_words k) (length words)) (λ fits. line_of_kind known draft k words) in
    gives_given K (ok_or (kind_named first) UnknownWord) count_ (λ k named.
    gives_given K (arity (least_words k) (most_words k) (length words)) (λ fits. line_of_kind known draft k words) (λ fits is.
    kind_keeps known draft line k words (All-tail IsWord first words all) (count_given (least_words k) (most_words k) (length words) fits is) legal))

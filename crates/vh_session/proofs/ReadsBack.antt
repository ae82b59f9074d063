-- A session's canonical text says the session.
use Rattle.std.proofs.Common.{◌≡◌, ◌∙◌, ℕ, zero, suc, ◌+◌, ◌*◌, ◌<◌, ◌≤◌, ◌^◌, Bool, true, false, List, [], ◌∷◌, ◌++◌, map, length, get_or, refl, sym, ap, subst, arith, Some, None, Ok, Result, nat_lt}
use Rattle.std.specs.Prelude.{All, codes, not}
use Rattle.std.specs.Fmt.{decimal}
use Rattle.std.specs.List.{filter_map}
use Rattle.std.specs.Str.{bytes_eq}
use Rattle.std.proofs.lemmas.Bool.{le-ltb, lt-ltb, not_from_true}
use Rattle.std.proofs.lemmas.List.{append-nil, length-append, length-map, length-take}
use Rattle.std.proofs.lemmas.List.Elements.{All-cons}
use Rattle.std.proofs.lemmas.Slice.Eq.{bytes_eq-Decides}
use Rattle.vh_text.specs.Lines.{lines_of}
use Rattle.vh_params.specs.declared.class.ClassInfo.{ClassInfo}
use Rattle.vh_params.specs.declared.param.ParamInfo.{ParamInfo}
use Rattle.vh_params.specs.Names.{is_name}
use Rattle.vh_params.specs.Nodes.{Node}
use Rattle.vh_params.specs.Short.{label_text}
use Rattle.vh_session.specs.declared.fault.SessionFault.{SessionFault}
use Rattle.vh_session.specs.declared.fault.SessionKind.TheVariants.{NoLine, TooLong}
use Rattle.vh_session.specs.Content.{Content, first_of, presets_from, firsts_from}
use Rattle.vh_session.specs.Ended.{SaysSession}
use Rattle.vh_session.specs.Entry.{Draft, no_draft, LengthLine, ChannelsLine, BitsLine, PatternLine, LaneText}
use Rattle.vh_session.specs.Keeps.{EachBehind, ArePresets, IsFirstBehind, IsSession, StandsUnder, IsNodeBehind, IsLaneBehind, HasClass, word_count}
use Rattle.vh_text.specs.Tokens.{IsWord}
use Rattle.vh_session.specs.Lines
use Rattle.vh_session.specs.Lines.{one, line_of_words, is_any}
use Rattle.vh_session.specs.Reading.{fault, text_from, lines_from, is_complete, draft_of}
use Rattle.vh_session.specs.Limits.{session_limit}
use Rattle.vh_session.specs.Rules.{arity}
use Rattle.vh_text.specs.Numbers.{is_within}
use Rattle.vh_text.specs.Chains.{given, fault_if}
use Rattle.vh_session.specs.Text.{name_of, lane_words, session_words, session_text, settings_words, node_words, preset_words, param_words, wire_words, lanes_words, scripts_words}
use Rattle.vh_text.specs.Written.{lines_text, line_text}
use Rattle.vh_session.proofs.Accepted.{found_holds}
use Rattle.vh_session.proofs.Behind.{behind_all}
use Rattle.vh_session.proofs.FirstsGo.{AreSet, firsts_state, firsts_go}
use Rattle.vh_session.proofs.Found.{is_small}
use Rattle.vh_session.proofs.Goes.{Goes, with_lines, goes_line, goes_on_to}
use Rattle.vh_text.proofs.Joined.{joined, lines_are}
use Rattle.vh_session.proofs.LanesBack.{lanes_state, lanes_go}
use Rattle.vh_session.proofs.NodesBack.{no_preset, no_firsts, nodes_state, nodes_go}
use Rattle.vh_text.proofs.Numerals.{number_word}
use Rattle.vh_session.proofs.PresetsBack.{ArePut, presets_go}
use Rattle.vh_session.proofs.Says.{length_says, channels_says, bits_says, pattern_says, within_small, bits_small, counts}
use Rattle.vh_text.proofs.Gives.{then_, passes_}
use Rattle.vh_session.proofs.ScriptsBack.{scripts_state, scripts_go}
use Rattle.vh_session.proofs.SectionSizes.{within_most, wire_size, lane_size, lanes_size, scripts_size, short_name}
use Rattle.vh_session.proofs.Sizes.{line_size, mapped_size, name_size, number_size, value_size, numbers_size, few_presets, few_firsts}
use Rattle.vh_session.proofs.WiresBack.{wires_state, wires_go}
use Rattle.vh_text.proofs.WordsOf.{code_word, no_words, one_more}
use Rattle.vh_text.proofs.Written.{lines_append}

pub size_words : (sizes : List ℕ) → All (λ n. is_within 1 8192 n ≡ true) sizes → All IsWord (map decimal sizes)
size_words [] all = no_words
size_words (n ∷ ns) all = one_more (decimal n) (map decimal ns) (number_word n (within_small 1 8192 n (omega arith) (all 0 n (omega arith)))) (size_words ns (λ k d lt. all (suc k) d (omega (arith, lt))))

no_params : (start : ℕ) (params : List ParamInfo) → filter_map (first_of start []) params ≡ []
no_params start [] = refl
no_params start (p ∷ ps) = no_params start ps

none_first : (start : ℕ) (nodes : List Node) → firsts_from start nodes (map no_firsts nodes) ≡ []
none_first start [] = refl
none_first start (node ∷ nodes) = ap (λ xs. xs ++ firsts_from (start + 1) nodes (map no_firsts nodes)) (no_params start node.params) ∙ none_first (start + 1) nodes

module _ (known : List ClassInfo) (content : Content) (keeps : IsSession content) (stands : StandsUnder known content) where
  abbrev header : List (List ℕ)
  header = codes "vsthost" ∷ codes "session" ∷ codes "1" ∷ []

  abbrev with_length : Draft
  with_length = record { length = Some content.length; channels = None; bits = None; pattern = []; nodes = []; lines = []; aux = []; presets = []; firsts = []; wires = []; lanes = []; in_lane = false; scripts = []; script_count = 0 }

  abbrev with_channels : Draft
  with_channels = record { length = Some content.length; channels = Some content.channels; bits = None; pattern = []; nodes = []; lines = []; aux = []; presets = []; firsts = []; wires = []; lanes = []; in_lane = false; scripts = []; script_count = 0 }

  abbrev with_bits : Draft
  with_bits = record { length = Some content.length; channels = Some content.channels; bits = Some content.bits; pattern = []; nodes = []; lines = []; aux = []; presets = []; firsts = []; wires = []; lanes = []; in_lane = false; scripts = []; script_count = 0 }

  abbrev length_ : List (List ℕ)
  length_ = codes "length" ∷ decimal content.length ∷ []

  abbrev channels_ : List (List ℕ)
  channels_ = codes "channels" ∷ decimal content.channels ∷ []

  abbrev bits_ : List (List ℕ)
  bits_ = codes "bits" ∷ decimal content.bits ∷ []

  abbrev pattern_ : List (List ℕ)
  pattern_ = codes "pattern" ∷ map decimal content.pattern

  settings_go : Goes known (length_ ∷ channels_ ∷ bits_ ∷ pattern_ ∷ []) no_draft (nodes_state known content [])
  settings_go =
      let one : (word : List ℕ) (n : ℕ) → IsWord word → n < 2 ^ 32 → All IsWord (word ∷ decimal n ∷ []) = λ word n is small. one_more word (decimal n ∷ []) is (one_more (decimal n) [] (number_word n small) no_words) in
      let sizes = keeps.pattern in
      let long = length-map content.pattern decimal in
      let least = sizes.0 in
      let most = sizes.1 in
      let a = goes_line known (codes "length" ∷ decimal content.length ∷ []) no_draft (LengthLine content.length) (one (codes "length") content.length (code_word (codes "length") refl) (within_small 0 16777216 content.length (omega arith) keeps.frames)) refl (λ stand. (length_says (with_lines stand no_draft) content.length refl keeps.frames)) in
      let b = goes_line known (codes "channels" ∷ decimal content.channels ∷ []) with_length (ChannelsLine content.channels) (one (codes "channels") content.channels (code_word (codes "channels") refl) (within_small 1 2 content.channels (omega arith) keeps.channels)) refl (λ stand. (channels_says (with_lines stand with_length) content.channels refl keeps.channels)) in
      let c = goes_line known (codes "bits" ∷ decimal content.bits ∷ []) with_channels (BitsLine content.bits) (one (codes "bits") content.bits (code_word (codes "bits") refl) (bits_small content.bits keeps.bits)) refl (λ stand. (bits_says (with_lines stand with_channels) content.bits refl keeps.bits)) in
      let d = goes_line known (codes "pattern" ∷ map decimal content.pattern) with_bits (PatternLine content.pattern) (one_more (codes "pattern") (map decimal content.pattern) (code_word (codes "pattern") refl) (size_words content.pattern sizes.2)) refl (λ stand.
      (then_ (λ fits. Lines.pattern_line (with_lines stand with_bits) (map decimal content.pattern)) tt (counts 1 16 (length (map decimal content.pattern)) (omega (arith, long, least)) (omega (arith, long, most))) ∙ pattern_says (with_lines stand with_bits) content.pattern refl sizes.2)) in
      goes_on_to known (length_ ∷ []) (channels_ ∷ bits_ ∷ pattern_ ∷ []) no_draft with_length (nodes_state known content []) a (goes_on_to known (channels_ ∷ []) (bits_ ∷ pattern_ ∷ []) with_length with_channels (nodes_state known content []) b (goes_on_to known (bits_ ∷ []) (pattern_ ∷ []) with_channels with_bits (nodes_state known content []) c d))

  none_put : (start : ℕ) (nodes : List Node) → presets_from start (map no_preset nodes) ≡ []
  none_put start [] = refl
  none_put start (node ∷ nodes) = none_put (start + 1) nodes

  bare : (nodes : List Node) (i : ℕ) → get_or (map no_firsts nodes) i [] ≡ []
  bare [] zero = refl
  bare [] (suc i) = refl
  bare (node ∷ nodes) zero = refl
  bare (node ∷ nodes) (suc i) = bare nodes i

  free : (nodes : List Node) (i : ℕ) → get_or (map no_preset nodes) i None ≡ None
  free [] zero = refl
  free [] (suc i) = refl
  free (node ∷ nodes) zero = refl
  free (node ∷ nodes) (suc i) = free nodes i

  named : EachBehind IsNodeBehind [] content.nodes
  named = keeps.nodes.1

  presets_put : ArePut known content (map no_preset content.nodes) content.presets
  presets_put = presets_go known content (map no_preset content.nodes) 0 content.presets named (length-map content.nodes no_preset) (λ node le. free content.nodes node) keeps.presets

  firsts_put : AreSet known content presets_put.after (map no_firsts content.nodes) content.firsts
  firsts_put = firsts_go known content presets_put.after (map no_firsts content.nodes) [] content.firsts named (length-map content.nodes no_firsts) (λ P all node k d lt. absurd (let e = ap (λ xs. length xs) (bare content.nodes node) in omega (arith, lt, e))) keeps.firsts

  abbrev nodes : List Node
  nodes = content.nodes

  abbrev tail : List (List (List ℕ))
  tail = (length_ ∷ channels_ ∷ bits_ ∷ pattern_ ∷ []) ++ (map node_words nodes ++ (map (preset_words nodes) content.presets ++ (map (param_words nodes) content.firsts ++ (map (wire_words nodes) content.wires ++ (lanes_words nodes content.lanes ++ scripts_words nodes 0 content.scripts)))))

  lanes_put : (in_now : Bool) × Goes known (lanes_words nodes content.lanes) (lanes_state known content presets_put.after firsts_put.after [] false) (lanes_state known content presets_put.after firsts_put.after content.lanes in_now)
  lanes_put = lanes_go known content presets_put.after firsts_put.after [] content.lanes false named keeps.lanes (let few = keeps.few_lanes in omega (arith, few))

  scripts_put : (in_now : Bool) × Goes known (scripts_words nodes 0 content.scripts) (scripts_state known content presets_put.after firsts_put.after lanes_put.0 [] 0) (scripts_state known content presets_put.after firsts_put.after in_now content.scripts (0 + word_count content.scripts))
  scripts_put = scripts_go known content presets_put.after firsts_put.after named [] content.scripts 0 0 lanes_put.0 refl (let few = keeps.scripts.few in omega (arith, few)) (let short = keeps.scripts.short in omega (arith, short)) keeps.scripts.words

  abbrev end : Draft
  end = scripts_state known content presets_put.after firsts_put.after scripts_put.0 content.scripts (0 + word_count content.scripts)

  all_go : Goes known tail no_draft end
  all_go =
      let p = presets_put.after in
      let f = firsts_put.after in
      let w0 = wires_state known content p f [] in
      let w1 = wires_state known content p f content.wires in
      let l1 = lanes_state known content p f content.lanes lanes_put.0 in
      let s = scripts_words nodes 0 content.scripts in
      let l = lanes_words nodes content.lanes in
      let w = map (wire_words nodes) content.wires in
      let fs = map (param_words nodes) content.firsts in
      let ps = map (preset_words nodes) content.presets in
      let wires = wires_go known content p f [] content.wires named keeps.wires stands.buses (let few = keeps.few_wires in omega (arith, few)) in
      let from_lanes = goes_on_to known l s w1 l1 end lanes_put.1 scripts_put.1 in
      let from_wires = goes_on_to known w (l ++ s) w0 w1 end wires from_lanes in
      let from_firsts = goes_on_to known fs (w ++ (l ++ s)) (firsts_state known content p (map no_firsts nodes)) w0 end firsts_put.goes from_wires in
      let from_presets = goes_on_to known ps (fs ++ (w ++ (l ++ s))) (nodes_state known content nodes) (firsts_state known content p (map no_firsts nodes)) end presets_put.goes from_firsts in
      let from_nodes = goes_on_to known (map node_words nodes) (ps ++ (fs ++ (w ++ (l ++ s)))) (nodes_state known content []) (nodes_state known content nodes) end (nodes_go known content [] nodes named stands.classes (let few = keeps.nodes.0 in omega (arith, few))) from_presets in
      goes_on_to known (length_ ∷ channels_ ∷ bits_ ∷ pattern_ ∷ []) (map node_words nodes ++ (ps ++ (fs ++ (w ++ (l ++ s))))) no_draft (nodes_state known content []) end settings_go from_nodes

  class_size : (node : Node) → ((class : ClassInfo) × HasClass known node class) → length node.class_name ≤ 32
  class_size node has =
      let class = has.0 in
      let name : label_text class.name ≡ node.class_name = (bytes_eq-Decides (label_text class.name) node.class_name).0 (found_holds (λ class. bytes_eq (label_text class.name) node.class_name) known class has.1.0) in
      let long = ap (λ bs. length bs) name in
      let cut = length-take class.name.len class.name.bytes in
      let within = class.name.within in
      omega (arith, long, cut, within)

  node_size : (k : ℕ) (d : Node) → k < length nodes → length (line_text (node_words (get_or nodes k d))) ≤ 71
  node_size k d lt =
      let node = get_or nodes k d in
      let e = line_size (codes "node") (node.name ∷ node.class_name ∷ []) in
      let n = name_size node.name (behind_all IsNodeBehind (λ n. is_name n.name ≡ true) [] nodes (λ before n stands. stands.named) named k d lt) in
      let c = class_size node (stands.classes k d lt) in
      omega (arith, e, n, c)

  few_params : All (λ node. length node.params ≤ 64) nodes
  few_params k d lt =
      let has = stands.classes k d lt in
      let same = ap (λ ps. length ps) has.1.1 in
      let most = has.0.params.most in
      omega (arith, same, most)

  preset_size : (k : ℕ) (d : ℕ × List ℕ) → k < length content.presets → length (line_text (preset_words nodes (get_or content.presets k d))) ≤ 296
  preset_size k d lt =
      let preset = get_or content.presets k d in
      let e = line_size (codes "preset") (name_of nodes preset.0 ∷ preset.1 ∷ []) in
      let n = short_name nodes preset.0 named in
      let f = files 0 content.presets keeps.presets k d lt in
      omega (arith, e, n, f)
    where
      files : (least : ℕ) (presets : List (ℕ × List ℕ)) → ArePresets (length nodes) least presets → (k : ℕ) (d : ℕ × List ℕ) → k < length presets → length (get_or presets k d).1 ≤ 255
      files least [] are k d lt = absurd (omega (arith, lt))
      files least (p ∷ ps) are zero d lt = are.2.1
      files least (p ∷ ps) are (suc k) d lt = files (p.0 + 1) ps are.3 k d (omega (arith, lt))

  param_size : (k : ℕ) (d : ℕ × ℕ × ℕ) → k < length content.firsts → length (line_text (param_words nodes (get_or content.firsts k d))) ≤ 59
  param_size k d lt =
      let first = get_or content.firsts k d in
      let e = line_size (codes "param") (name_of nodes first.0 ∷ decimal first.1 ∷ decimal first.2 ∷ []) in
      let n = short_name nodes first.0 named in
      let small = behind_all (IsFirstBehind nodes) (λ f. is_any f.1 ≡ true) [] content.firsts (λ before f s. s.id) keeps.firsts k d lt in
      let within = behind_all (IsFirstBehind nodes) (λ f. is_within 0 one f.2 ≡ true) [] content.firsts (λ before f s. s.value) keeps.firsts k d lt in
      let i = number_size first.1 (is_small first.1 small) in
      let v = value_size first.2 (within_most 0 one first.2 within) in
      omega (arith, e, n, i, v)

  lane_fits : (before : List LaneText) (lane : LaneText) → IsLaneBehind nodes before lane → length (lines_text (lane_words nodes lane)) ≤ 98358
  lane_fits before lane s = lane_size nodes lane lane.breaks named (is_small lane.id s.id) (within_most 0 24 lane.grain s.grain) s.breaks.most (λ k d lt. (within_most 0 16777216 (get_or lane.breaks k d).0 (s.samples k d lt), s.breaks.within k d lt))

  settings_size : length (lines_text (settings_words content)) ≤ 300
  settings_size =
      let sizes = keeps.pattern in
      let most = sizes.1 in
      let l = line_size (codes "length") (decimal content.length ∷ []) in
      let c = line_size (codes "channels") (decimal content.channels ∷ []) in
      let b = line_size (codes "bits") (decimal content.bits ∷ []) in
      let p = line_size (codes "pattern") (map decimal content.pattern) in
      let ln = number_size content.length (within_small 0 16777216 content.length (omega arith) keeps.frames) in
      let cn = number_size content.channels (within_small 1 2 content.channels (omega arith) keeps.channels) in
      let bn = number_size content.bits (bits_small content.bits keeps.bits) in
      let pn = numbers_size content.pattern (λ k d lt. within_small 1 8192 (get_or content.pattern k d) (omega arith) (sizes.2 k d lt)) in
      let e0 = length-append (line_text header) (lines_text (length_ ∷ channels_ ∷ bits_ ∷ pattern_ ∷ [])) in
      let e1 = length-append (line_text length_) (lines_text (channels_ ∷ bits_ ∷ pattern_ ∷ [])) in
      let e2 = length-append (line_text channels_) (lines_text (bits_ ∷ pattern_ ∷ [])) in
      let e3 = length-append (line_text bits_) (lines_text (pattern_ ∷ [])) in
      let e4 = length-append (line_text pattern_) (lines_text []) in
      omega (arith, l, c, b, p, ln, cn, bn, pn, e0, e1, e2, e3, e4, most)

  text_size : length (session_text content) ≤ 33554432
  unfolding session_text
  text_size =
      let s = scripts_words nodes 0 content.scripts in
      let l = lanes_words nodes content.lanes in
      let w = map (wire_words nodes) content.wires in
      let fs = map (param_words nodes) content.firsts in
      let ps = map (preset_words nodes) content.presets in
      let ns = map node_words nodes in
      let st = settings_words content in
      let add : (xs ys : List (List (List ℕ))) → length (lines_text (xs ++ ys)) ≡ length (lines_text xs) + length (lines_text ys) = λ xs ys. ap (λ bs. length bs) (lines_append xs ys) ∙ length-append (lines_text xs) (lines_text ys) in
      let a0 = add st (ns ++ (ps ++ (fs ++ (w ++ (l ++ s))))) in
      let a1 = add ns (ps ++ (fs ++ (w ++ (l ++ s)))) in
      let a2 = add ps (fs ++ (w ++ (l ++ s))) in
      let a3 = add fs (w ++ (l ++ s)) in
      let a4 = add w (l ++ s) in
      let a5 = add l s in
      let n0 = settings_size in
      let n1 = mapped_size node_words 71 nodes node_size in
      let n2 = mapped_size (preset_words nodes) 296 content.presets preset_size in
      let n3 = mapped_size (param_words nodes) 59 content.firsts param_size in
      let n4 = mapped_size (wire_words nodes) 75 content.wires (λ k d lt. wire_size nodes (get_or content.wires k d) named) in
      let n5 = lanes_size nodes content.lanes named (behind_all (IsLaneBehind nodes) (λ lane. length (lines_text (lane_words nodes lane)) ≤ 98358) [] content.lanes lane_fits keeps.lanes) in
      let n6 = scripts_size nodes 0 content.scripts named (let few = keeps.scripts.few in omega (arith, few)) keeps.scripts.words in
      let c1 = keeps.nodes.0 in
      let c2 = few_presets (length nodes) 0 content.presets (omega arith) keeps.presets in
      let c3 : length content.firsts ≤ length nodes * 64 = subst (λ xs. length xs ≤ length nodes * 64) (firsts_put.lists ∙ ap (λ xs. xs ++ content.firsts) (none_first 0 nodes)) (few_firsts 0 nodes firsts_put.after few_params) in
      let c4 = keeps.few_wires in
      let c5 = keeps.few_lanes in
      let c6 = keeps.scripts.few in
      let c7 = keeps.scripts.short in
      omega (arith, a0, a1, a2, a3, a4, a5, n0, n1, n2, n3, n4, n5, n6, c1, c2, c3, c4, c5, c6, c7)

  header_words : All IsWord header
  header_words = one_more (codes "vsthost") (codes "session" ∷ codes "1" ∷ []) (code_word (codes "vsthost") refl) (one_more (codes "session") (codes "1" ∷ []) (code_word (codes "session") refl) (one_more (codes "1") [] (code_word (codes "1") refl) no_words))

  pub reads_back : SaysSession known (session_text content) content
  unfolding session_text
  reads_back =
      let text = lines_text (session_words content) in
      let gone = all_go.1 2 [] in
      let after = with_lines gone.0 end in
      let next : Draft → Result Draft SessionFault = λ draft. fault_if (not (is_complete draft)) (fault (length (lines_of text) + 1) NoLine) (Ok draft) in
      let lines : lines_of text ≡ joined header ∷ map joined tail = lines_are (session_words content) (All-cons (All IsWord) header tail header_words all_go.0) in
      let read : text_from known (joined header ∷ map joined tail) ≡ Ok after = ap (λ ls. lines_from known 2 no_draft ls) (sym (append-nil (map joined tail))) ∙ gone.1 [] in
      let some = keeps.pattern.0 in
      let complete : is_complete after ≡ true = lt-ltb 0 (length content.pattern) (omega (arith, some)) in
      let says : draft_of known text ≡ Ok after =
      passes_ (nat_lt session_limit (length text)) (fault 0 TooLong) (given (text_from known (lines_of text)) next) (le-ltb session_limit (length text) text_size)
      ∙ ap (λ ls. given (text_from known ls) next) lines
      ∙ then_ next after read
      ∙ passes_ (not (is_complete after)) (fault (length (lines_of text) + 1) NoLine) (Ok after) (not_from_true (is_complete after) complete) in
      let presets : presets_from 0 presets_put.after ≡ content.presets = presets_put.lists ∙ ap (λ ps. ps ++ content.presets) (none_put 0 nodes) in
      let firsts : firsts_from 0 nodes firsts_put.after ≡ content.firsts = firsts_put.lists ∙ ap (λ fs. fs ++ content.firsts) (none_first 0 nodes) in
      (after, says, keeps.free, λ i. record { length = content.length; channels = content.channels; bits = content.bits; pattern = content.pattern; nodes = nodes; presets = presets i; firsts = firsts i; wires = content.wires; lanes = content.lanes; scripts = content.scripts })

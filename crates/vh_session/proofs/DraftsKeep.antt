-- What a text's lines keep, and the session that they come to.
use Rattle.std.proofs.Common.{◌≡◌, ◌⊎◌, inl, inr, ℕ, suc, ◌+◌, ◌<◌, ◌≤◌, true, false, cond, List, [], ◌∷◌, ◌++◌, length, get_or, refl, sym, ap, subst, arith, Ok, Err, Some, None, Option, nat_lt, true≢false, ◌==◌}
use Rattle.std.specs.Prelude.{All, IfSome, not, ◌&&◌}
use Rattle.std.specs.List.{filter_map, cons_option}
use Rattle.std.specs.Option.{is_some, option_map}
use Rattle.std.proofs.lemmas.Bool.{and_parts, and_from, or_left, or_right, lt-ltb, ltb-true, not-false, eqb-true, eq-eqb}
use Rattle.std.proofs.lemmas.List.{append-nil, append_assoc}
use Rattle.std.proofs.lemmas.List.Elements.{All-cons, All-tail, All-push, All-append}
use Rattle.vh_graph.specs.Paths.{IsOnCycle}
use Rattle.vh_params.specs.declared.class.ClassInfo.{ClassInfo}
use Rattle.vh_params.specs.declared.param.ParamInfo.{ParamInfo}
use Rattle.vh_params.specs.Nodes.{Node}
use Rattle.vh_params.specs.Params.{AreRising}
use Rattle.vh_text.specs.Lines.{lines_of}
use Rattle.vh_text.specs.Tokens.{bad_byte, words_of}
use Rattle.vh_session.specs.declared.fault.SessionKind.TheVariants.{BadHeader, BadByte, NoLine, TooLong}
use Rattle.vh_session.specs.Entry.{Draft, Entry, no_draft, with_entry}
use Rattle.vh_session.specs.Rules.{Checked}
use Rattle.vh_text.specs.Numbers.{is_within}
use Rattle.vh_text.specs.Chains.{given, fault_if}
use Rattle.vh_session.specs.Lines.{one, is_any, is_bits, line_of, line_of_words}
use Rattle.vh_session.specs.Reading.{fault, is_skipped, with_line, after_line, lines_from, is_header, text_from, is_complete, draft_of}
use Rattle.vh_session.specs.Limits.{session_limit}
use Rattle.vh_session.specs.Content.{presets_from, value_in, first_of, firsts_from, content_in, or_zero, node_wires}
use Rattle.vh_session.specs.Keeps.{EachBehind, AreSizes, IsFile, ArePresets, can_set, is_earlier, IsFirstBehind, IsNodeBehind, IsSession, StandsUnder}
use Rattle.vh_session.specs.Lines.{has_aux}
use Rattle.vh_session.proofs.Behind.{behind_all}
use Rattle.vh_text.proofs.Gives.{Gives, gives_ok, gives_err, gives_given, gives_fault_if, gives_if}
use Rattle.vh_session.proofs.Legal.{IsLegal, NodeFirsts, none_legal}
use Rattle.vh_session.proofs.LinesKeep.{Keeps, words_keep}
use Rattle.vh_text.proofs.Split.{all_words}

line_keeps : (known : List ClassInfo) (draft : Draft) (line : ℕ) (text : List ℕ) → IsLegal known draft → Gives (Keeps known draft line) (line_of known draft text)
line_keeps known draft line text legal =
    gives_fault_if (Keeps known draft line) (is_some (bad_byte text)) BadByte (line_of_words known draft (words_of text)) (λ printable. words_keep known draft line (words_of text) (all_words text printable) legal)

with_keeps : (known : List ClassInfo) (draft : Draft) (line : ℕ) (said : Checked Entry) → Gives (Keeps known draft line) said → Gives (IsLegal known) (with_line line draft said)
with_keeps known draft line (Ok entry) gives = gives_ok (IsLegal known) (with_entry line entry draft) (gives entry refl)
with_keeps known draft line (Err kind) gives = gives_err (IsLegal known) (fault line kind)

lines_keep : (known : List ClassInfo) (line : ℕ) (draft : Draft) (texts : List (List ℕ)) → IsLegal known draft → Gives (IsLegal known) (lines_from known line draft texts)
lines_keep known line draft [] legal = gives_ok (IsLegal known) draft legal
lines_keep known line draft (text ∷ texts) legal =
    gives_given (IsLegal known) (after_line known line draft text) (λ more. lines_from known (line + 1) more texts) (λ more is.
    lines_keep known (line + 1) more texts (gives_if (IsLegal known) (is_skipped text) (Ok draft) (with_line line draft (line_of known draft text)) (gives_ok (IsLegal known) draft legal) (with_keeps known draft line (line_of known draft text) (line_keeps known draft line text legal)) more is))

text_keeps : (known : List ClassInfo) (texts : List (List ℕ)) → Gives (IsLegal known) (text_from known texts)
text_keeps known [] = gives_err (IsLegal known) (fault 1 BadHeader)
text_keeps known (text ∷ texts) = gives_fault_if (IsLegal known) (not (is_header text)) (fault 1 BadHeader) (lines_from known 2 no_draft texts) (λ header. lines_keep known 2 no_draft texts (none_legal known))

-- lines that were read are legal and complete
pub draft_keeps : (known : List ClassInfo) (bytes : List ℕ) → Gives (λ draft. IsLegal known draft × (is_complete draft ≡ true)) (draft_of known bytes)
draft_keeps known bytes =
    let D : Draft → Type 0 = λ draft. IsLegal known draft × (is_complete draft ≡ true) in
    let end = fault (length (lines_of bytes) + 1) NoLine in
    gives_fault_if D (nat_lt session_limit (length bytes)) (fault 0 TooLong) (given (text_from known (lines_of bytes)) (λ draft. fault_if (not (is_complete draft)) end (Ok draft))) (λ short.
    gives_given D (text_from known (lines_of bytes)) (λ draft. fault_if (not (is_complete draft)) end (Ok draft)) (λ draft is.
    gives_fault_if D (not (is_complete draft)) end (Ok draft) (λ complete.
    gives_ok D draft (text_keeps known (lines_of bytes) draft is, not-false (is_complete draft) complete))))

presets_rise : (count least node : ℕ) (presets : List (Option (List ℕ))) → least ≤ node → node + length presets ≤ count → All (λ preset. IfSome preset IsFile) presets → ArePresets count least (presets_from node presets)
presets_rise count least node [] le room files = tt
presets_rise count least node (None ∷ presets) le room files = presets_rise count least (node + 1) presets (omega (arith, le)) (omega (arith, room)) (All-tail (λ preset. IfSome preset IsFile) None presets files)
presets_rise count least node (Some file ∷ presets) le room files =
    (le, omega (arith, room), files 0 None (omega arith), presets_rise count (node + 1) (node + 1) presets (omega arith) (omega (arith, room)) (All-tail (λ preset. IfSome preset IsFile) (Some file) presets files))

-- a value that is found among first values
value_found : (P : ℕ × ℕ → Type 0) (firsts : List (ℕ × ℕ)) (id value : ℕ) → value_in firsts id ≡ Some value → All P firsts → P (id, value)
value_found P [] id value is all = absurd (subst (λ o. elim o as (λ _. Type 0) [ None ↦ Unit {0} | Some m ↦ ⊥ ]) is tt)
value_found P (first ∷ firsts) id value is all = elim (first.0 == id) as (λ t. (first.0 == id) ≡ t → cond t (Some first.1) (value_in firsts id) ≡ Some value → P (id, value)) [
  | true ↦ λ test found.
      let same = eqb-true first.0 id test in
      let known : first.1 ≡ value = ap (λ o. or_zero o) found in
      subst (λ v. P (id, v)) known (subst (λ i. P (i, first.1)) same (all 0 first (omega arith)))
  | false ↦ λ test found. value_found P firsts id value found (All-tail P first firsts all)
] refl is

earlier_node : (a b : ℕ × ℕ × ℕ) → a.0 < b.0 → is_earlier a b ≡ true
earlier_node a b lt = or_left (nat_lt a.0 b.0) ((a.0 == b.0) && nat_lt a.1 b.1) (lt-ltb a.0 b.0 lt)

earlier_id : (a b : ℕ × ℕ × ℕ) → a.0 ≡ b.0 → a.1 < b.1 → is_earlier a b ≡ true
earlier_id a b same lt = or_right (nat_lt a.0 b.0) ((a.0 == b.0) && nat_lt a.1 b.1) (and_from (a.0 == b.0) (nat_lt a.1 b.1) (eq-eqb a.0 b.0 same) (lt-ltb a.1 b.1 lt))

-- first values before those of these parameters of a node
abbrev Before : ℕ → List ParamInfo → List (ℕ × ℕ × ℕ) → Type 0
Before node params done = All (λ other. (i : ℕ) (d : ParamInfo) → i < length params → is_earlier other (node, (get_or params i d).id, 0) ≡ true) done

rising_tail : (param : ParamInfo) (params : List ParamInfo) → AreRising (param ∷ params) → AreRising params
rising_tail param params rising i j d lt jl = rising (suc i) (suc j) d (omega (arith, lt)) (omega (arith, jl))

before_tail : (node : ℕ) (param : ParamInfo) (params : List ParamInfo) (done : List (ℕ × ℕ × ℕ)) → Before node (param ∷ params) done → Before node params done
before_tail node param params done before k d lt i e il = before k d lt (suc i) e (omega (arith, il))

node_rises : (nodes : List Node) (node : ℕ) (given : List (ℕ × ℕ)) (params : List ParamInfo) (done : List (ℕ × ℕ × ℕ)) → NodeFirsts nodes node given → AreRising params → Before node params done → EachBehind (IsFirstBehind nodes) done (filter_map (first_of node given) params)
node_rises nodes node given [] done fit rising before = tt
node_rises nodes node given (param ∷ params) done fit rising before =
    let rest : (more : List (ℕ × ℕ × ℕ)) → Before node params more → EachBehind (IsFirstBehind nodes) more (filter_map (first_of node given) params) = λ more is. node_rises nodes node given params more fit (rising_tail param params rising) is in
    elim (value_in given param.id) as (λ found. value_in given param.id ≡ found → EachBehind (IsFirstBehind nodes) done (cons_option (option_map (λ value. (node, param.id, value)) found) (filter_map (first_of node given) params))) [
      | None ↦ λ is. rest done (before_tail node param params done before)
      | Some value ↦ λ is.
          let P : ℕ × ℕ → Type 0 = λ first. (can_set nodes node first.0 ≡ true) × (is_any first.0 ≡ true) × (is_within 0 one first.1 ≡ true) in
          let fits = value_found P given param.id value is fit in
          let B : ℕ × ℕ × ℕ → Type 0 = λ other. (i : ℕ) (d : ParamInfo) → i < length params → is_earlier other (node, (get_or params i d).id, 0) ≡ true in
          let here : B (node, param.id, value) = λ i d il. earlier_id (node, param.id, value) (node, (get_or params i d).id, 0) refl (rising 0 (suc i) d (omega arith) (omega (arith, il))) in
          (record { rising = λ k d lt. before k d lt 0 param (omega arith); settable = fits.0; id = fits.1; value = fits.2 }, rest (done ++ (node, param.id, value) ∷ []) (All-push B done (node, param.id, value) (before_tail node param params done before) here))
    ] refl

behind_append : {A : Type 0} (Stands : List A → A → Type 0) (before xs ys : List A) → EachBehind Stands before xs → EachBehind Stands (before ++ xs) ys → EachBehind Stands before (xs ++ ys)
behind_append Stands before [] ys first rest = subst (λ bs. EachBehind Stands bs ys) (append-nil before) rest
behind_append Stands before (x ∷ xs) ys first rest = (first.0, behind_append Stands (before ++ x ∷ []) xs ys first.1 (subst (λ bs. EachBehind Stands bs ys) (sym (append_assoc before (x ∷ []) xs)) rest))

-- the first values of one node
of_node : (node : ℕ) (given : List (ℕ × ℕ)) (params : List ParamInfo) → All (λ first. first.0 < node + 1) (filter_map (first_of node given) params)
of_node node given [] = λ k d lt. absurd (omega (arith, lt))
of_node node given (param ∷ params) =
    let N : ℕ × ℕ × ℕ → Type 0 = λ first. first.0 < node + 1 in
    elim (value_in given param.id) as (λ found. All N (cons_option (option_map (λ value. (node, param.id, value)) found) (filter_map (first_of node given) params))) [
      | None ↦ of_node node given params
      | Some value ↦ All-cons N (node, param.id, value) (filter_map (first_of node given) params) (omega arith) (of_node node given params)
    ]

firsts_rise : (all : List Node) (node : ℕ) (nodes : List Node) (firsts : List (List (ℕ × ℕ))) (done : List (ℕ × ℕ × ℕ)) → All (λ node. AreRising node.params) nodes → ((n : ℕ) → NodeFirsts all (node + n) (get_or firsts n [])) → All (λ other. other.0 < node) done → EachBehind (IsFirstBehind all) done (firsts_from node nodes firsts)
firsts_rise all node [] firsts done rising fit before = tt
firsts_rise all node (n ∷ nodes) [] done rising fit before = tt
firsts_rise all node (n ∷ nodes) (given ∷ firsts) done rising fit before =
    let R : Node → Type 0 = λ n. AreRising n.params in
    let N : ℕ × ℕ × ℕ → Type 0 = λ other. other.0 < node + 1 in
    let mine = filter_map (first_of node given) n.params in
    let z : node + 0 ≡ node = omega arith in
    let shift : (m : ℕ) → node + suc m ≡ (node + 1) + m = λ m. omega arith in
    behind_append (IsFirstBehind all) done mine (firsts_from (node + 1) nodes firsts)
    (node_rises all node given n.params done (subst (λ m. NodeFirsts all m given) z (fit 0)) (rising 0 n (omega arith)) (λ k d lt i e il. earlier_node (get_or done k d) (node, (get_or n.params i e).id, 0) (before k d lt)))
    (firsts_rise all (node + 1) nodes firsts (done ++ mine) (All-tail R n nodes rising) (λ m. subst (λ i. NodeFirsts all i (get_or firsts m [])) (shift m) (fit (suc m)))
    (All-append N done mine (λ k d lt. let b = before k d lt in omega (arith, b)) (of_node node given n.params)))

or_zero_fits : (P : ℕ → Type 0) (option : Option ℕ) → is_some option ≡ true → IfSome option P → P (or_zero option)
or_zero_fits P None is fits = absurd (true≢false (sym is))
or_zero_fits P (Some n) is fits = fits

sizes_stand : (pattern : List ℕ) → nat_lt 0 (length pattern) ≡ true → (pattern ≡ []) ⊎ AreSizes pattern → AreSizes pattern
sizes_stand pattern some (inl none) = absurd (let lt = ltb-true 0 (length pattern) some in let e = ap (λ xs. length xs) none in omega (arith, lt, e))
sizes_stand pattern some (inr are) = are

pub session_keeps : (known : List ClassInfo) (draft : Draft) → IsLegal known draft → is_complete draft ≡ true → ((node : ℕ) → IsOnCycle (node_wires draft.wires) node → ⊥) → IsSession (content_in draft)
session_keeps known draft legal complete free =
    let halves = and_parts (is_some draft.length && is_some draft.channels) (is_some draft.bits && nat_lt 0 (length draft.pattern)) complete in
    let first = and_parts (is_some draft.length) (is_some draft.channels) halves.0 in
    let second = and_parts (is_some draft.bits) (nat_lt 0 (length draft.pattern)) halves.1 in
    let many = legal.2.as_many in
    record {
      frames = or_zero_fits (λ n. is_within 0 16777216 n ≡ true) draft.length first.0 legal.0.frames_fit;
      channels = or_zero_fits (λ n. is_within 1 2 n ≡ true) draft.channels first.1 legal.0.channels_fit;
      bits = or_zero_fits (λ n. is_bits n ≡ true) draft.bits second.0 legal.0.bits_fit;
      pattern = sizes_stand draft.pattern second.1 legal.0.sizes_fit;
      nodes = legal.1.stand;
      presets = presets_rise (length draft.nodes) 0 0 draft.presets (omega arith) (omega (arith, many)) legal.2.files;
      firsts = firsts_rise draft.nodes 0 draft.nodes draft.firsts [] (behind_all IsNodeBehind (λ node. AreRising node.params) [] draft.nodes (λ before node stands. stands.rising) legal.1.stand.1) (λ n. let z : n ≡ 0 + n = omega arith in subst (λ m. NodeFirsts draft.nodes m (get_or draft.firsts n [])) z (legal.3.fit n)) (λ k d lt. absurd (omega (arith, lt)));
      few_wires = legal.4.few;
      wires = legal.4.stand;
      free = free;
      few_lanes = legal.5.few;
      lanes = legal.5.stand;
      scripts = legal.6.stand;
    }

pub session_stands : (known : List ClassInfo) (draft : Draft) → IsLegal known draft → StandsUnder known (content_in draft)
session_stands known draft legal = record { classes = legal.1.classed; buses = λ k d lt is. subst (λ aux. has_aux aux (get_or draft.wires k d).to ≡ true) legal.1.buses (legal.4.into_buses k d lt is) }

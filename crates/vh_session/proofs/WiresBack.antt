-- Wires that are written are read.
use Rattle.std.proofs.Common.{◌≡◌, ◌∙◌, ℕ, ◌+◌, ◌<◌, ◌≤◌, Bool, true, false, List, [], ◌∷◌, ◌++◌, map, length, refl, sym, ap, arith, Some, None, Option, Ok}
use Rattle.std.specs.Prelude.{All, codes, if◌then◌else◌}
use Rattle.std.proofs.lemmas.Bool.{not_from_true}
use Rattle.std.proofs.lemmas.List.{append_assoc, append-nil, length-append}
use Rattle.std.proofs.lemmas.List.Elements.{All-tail}
use Rattle.vh_params.specs.declared.class.ClassInfo.{ClassInfo}
use Rattle.vh_params.specs.Names.{is_name}
use Rattle.vh_params.specs.Nodes.{Node, no_node}
use Rattle.vh_session.specs.declared.wire.End.{End}
use Rattle.vh_session.specs.declared.wire.End.TheVariants.{In, Out, Node as AtNode}
use Rattle.vh_session.specs.declared.wire.Wire.{Wire}
use Rattle.vh_session.specs.Content.{Content}
use Rattle.vh_session.specs.Entry.{Draft, WireLine}
use Rattle.vh_session.specs.Lines.{line_of_words, wire_line, has_aux}
use Rattle.vh_session.specs.Rules.{Checked, the_node, first_end, last_end}
use Rattle.vh_text.specs.Chains.{given}
use Rattle.vh_session.specs.Text.{wire_words, end_word, name_of}
use Rattle.vh_session.specs.Keeps.{EachBehind, IsNodeBehind, IsWireBehind, Begins, Ends, buses_of}
use Rattle.vh_text.specs.Tokens.{IsWord}
use Rattle.vh_session.proofs.Behind.{behind_all}
use Rattle.vh_session.proofs.Found.{node_found}
use Rattle.vh_session.proofs.Goes.{Goes, with_lines, goes_none, goes_on_to, goes_line, goes_same}
use Rattle.vh_session.proofs.NodesBack.{state}
use Rattle.vh_session.proofs.Says.{wire_says}
use Rattle.vh_text.proofs.Gives.{then_}
use Rattle.vh_session.proofs.WordsOf.{name_rules, name_word}
use Rattle.vh_text.proofs.WordsOf.{code_word, no_words, one_more}

named : (nodes : List Node) (node : ℕ) → EachBehind IsNodeBehind [] nodes → node < length nodes → is_name (name_of nodes node) ≡ true
named nodes node each lt = behind_all IsNodeBehind (λ n. is_name n.name ≡ true) [] nodes (λ before n stands. stands.named) each node no_node lt

first_found : (nodes : List Node) (end : End) → EachBehind IsNodeBehind [] nodes → Begins (length nodes) end → first_end nodes (end_word nodes end) ≡ Ok end
first_found nodes In each begins = refl
first_found nodes Out each begins = absurd begins
first_found nodes (AtNode node) each begins =
    let at : ℕ → Checked End = λ node. Ok (AtNode node) in
    ap (λ t. if t then Ok In else given (the_node nodes (name_of nodes node)) at) (name_rules (name_of nodes node) (named nodes node each begins)).not_in
    ∙ then_ at node (node_found nodes node each begins)

last_found : (nodes : List Node) (aux : Bool) (end : End) → EachBehind IsNodeBehind [] nodes → Ends (length nodes) aux end → last_end nodes (end_word nodes end) ≡ Ok end
last_found nodes aux In each ends = absurd ends
last_found nodes aux Out each ends = refl
last_found nodes aux (AtNode node) each ends =
    let at : ℕ → Checked End = λ node. Ok (AtNode node) in
    ap (λ t. if t then Ok Out else given (the_node nodes (name_of nodes node)) at) (name_rules (name_of nodes node) (named nodes node each ends)).not_out
    ∙ then_ at node (node_found nodes node each ends)

begins_word : (nodes : List Node) (end : End) → EachBehind IsNodeBehind [] nodes → Begins (length nodes) end → IsWord (end_word nodes end)
begins_word nodes In each begins = code_word (codes "in") refl
begins_word nodes Out each begins = absurd begins
begins_word nodes (AtNode node) each begins = name_word (name_of nodes node) (named nodes node each begins)

ends_word : (nodes : List Node) (aux : Bool) (end : End) → EachBehind IsNodeBehind [] nodes → Ends (length nodes) aux end → IsWord (end_word nodes end)
ends_word nodes aux In each ends = absurd ends
ends_word nodes aux Out each ends = code_word (codes "out") refl
ends_word nodes aux (AtNode node) each ends = name_word (name_of nodes node) (named nodes node each ends)

aux_words : (aux : Bool) → All IsWord (if aux then codes "aux" ∷ [] else [])
aux_words true = one_more (codes "aux") [] (code_word (codes "aux") refl) no_words
aux_words false = no_words

abbrev pub wires_state : List ClassInfo → Content → List (Option (List ℕ)) → List (List (ℕ × ℕ)) → List Wire → Draft
wires_state known content presets firsts wires = state content content.nodes (buses_of known content.nodes) presets firsts wires [] false [] 0

wire_said : (known : List ClassInfo) (draft : Draft) (wire : Wire) → EachBehind IsNodeBehind [] draft.nodes → IsWireBehind (length draft.nodes) draft.wires wire → (wire.aux ≡ true → has_aux draft.aux wire.to ≡ true) → length draft.wires < 256 → line_of_words known draft (wire_words draft.nodes wire) ≡ Ok (WireLine wire)
wire_said known draft wire each stands bus few =
    let from = first_found draft.nodes wire.from each stands.from in
    let to = last_found draft.nodes wire.aux wire.to each stands.to in
    let start = end_word draft.nodes wire.from in
    let end = end_word draft.nodes wire.to in
    elim wire.aux as (λ aux. wire.aux ≡ aux → line_of_words known draft (codes "wire" ∷ start ∷ end ∷ (if aux then codes "aux" ∷ [] else [])) ≡ Ok (WireLine wire)) [
      | true ↦ λ is. (wire_says draft start end (Some (codes "aux")) wire from to (sym is) (not_from_true (has_aux draft.aux wire.to) (bus is)) stands.new few)
      | false ↦ λ is. (wire_says draft start end None wire from to (sym is) refl stands.new few)
    ] refl

pub wires_go : (known : List ClassInfo) (content : Content) (presets : List (Option (List ℕ))) (firsts : List (List (ℕ × ℕ))) (before wires : List Wire) → EachBehind IsNodeBehind [] content.nodes → EachBehind (IsWireBehind (length content.nodes)) before wires → All (λ wire. wire.aux ≡ true → has_aux (buses_of known content.nodes) wire.to ≡ true) wires → length before + length wires ≤ 256
    → Goes known (map (wire_words content.nodes) wires) (wires_state known content presets firsts before) (wires_state known content presets firsts (before ++ wires))
wires_go known content presets firsts before [] named_ each buses few = goes_same known [] (wires_state known content presets firsts before) (wires_state known content presets firsts before) (wires_state known content presets firsts (before ++ [])) (ap (λ ws. wires_state known content presets firsts ws) (sym (append-nil before))) (goes_none known (wires_state known content presets firsts before))
wires_go known content presets firsts before (wire ∷ wires) named_ each buses few =
    let S : List Wire → Draft = λ ws. wires_state known content presets firsts ws in
    let nodes = content.nodes in
    let stands = each.0 in
    let words = one_more (codes "wire") (end_word nodes wire.from ∷ end_word nodes wire.to ∷ (if wire.aux then codes "aux" ∷ [] else [])) (code_word (codes "wire") refl) (one_more (end_word nodes wire.from) (end_word nodes wire.to ∷ (if wire.aux then codes "aux" ∷ [] else [])) (begins_word nodes wire.from named_ stands.from) (one_more (end_word nodes wire.to) (if wire.aux then codes "aux" ∷ [] else []) (ends_word nodes wire.aux wire.to named_ stands.to) (aux_words wire.aux))) in
    let first = goes_line known (wire_words nodes wire) (S before) (WireLine wire) words refl (λ stand. wire_said known (with_lines stand (S before)) wire named_ stands (buses 0 wire (omega arith)) (omega (arith, few))) in
    let long = length-append before (wire ∷ []) in
    let rest = wires_go known content presets firsts (before ++ wire ∷ []) wires named_ each.1 (All-tail (λ wire. wire.aux ≡ true → has_aux (buses_of known content.nodes) wire.to ≡ true) wire wires buses) (omega (arith, few, long)) in
    goes_same known (map (wire_words nodes) (wire ∷ wires)) (S before) (S ((before ++ wire ∷ []) ++ wires)) (S (before ++ (wire ∷ wires))) (ap S (append_assoc before (wire ∷ []) wires))
    (goes_on_to known (wire_words nodes wire ∷ []) (map (wire_words nodes) wires) (S before) (S (before ++ wire ∷ [])) (S ((before ++ wire ∷ []) ++ wires)) first rest)

-- Nodes that are written are read.
use Rattle.std.proofs.Common.{◌≡◌, ◌∙◌, ℕ, ◌+◌, ◌≤◌, Bool, false, List, [], ◌∷◌, ◌++◌, map, length, refl, sym, ap, arith, Some, None, Option, Ok}
use Rattle.std.specs.Prelude.{All, codes}
use Rattle.std.specs.Str.{bytes_eq}
use Rattle.std.proofs.lemmas.List.{append_assoc, append-nil, length-append, map-append}
use Rattle.std.proofs.lemmas.List.Elements.{All-tail}
use Rattle.std.proofs.lemmas.Slice.Eq.{bytes_eq-Decides}
use Rattle.vh_params.specs.declared.class.ClassInfo.{ClassInfo}
use Rattle.vh_params.specs.Nodes.{Node}
use Rattle.vh_params.specs.Short.{label_text}
use Rattle.vh_session.specs.declared.wire.Wire.{Wire}
use Rattle.vh_session.specs.Content.{Content}
use Rattle.vh_session.specs.Entry.{Draft, LaneText, ScriptWord, NodeLine, node_of_line, with_entry}
use Rattle.vh_session.specs.Lines.{line_of_words, node_line}
use Rattle.vh_session.specs.Rules.{class_named}
use Rattle.vh_session.specs.Text.{node_words}
use Rattle.vh_session.specs.Keeps.{EachBehind, IsNodeBehind, HasClass, buses_of, has_bus}
use Rattle.vh_session.proofs.Accepted.{found_holds}
use Rattle.vh_session.proofs.Goes.{Goes, with_lines, goes_none, goes_on_to, goes_line, goes_same}
use Rattle.vh_session.proofs.Says.{node_says}
use Rattle.vh_session.proofs.WordsOf.{name_word}
use Rattle.vh_text.proofs.WordsOf.{code_word, no_words, one_more}

-- what the lines up to some point come to
abbrev pub state : Content → List Node → List Bool → List (Option (List ℕ)) → List (List (ℕ × ℕ)) → List Wire → List LaneText → Bool → List (List ScriptWord) → ℕ → Draft
state content nodes aux presets firsts wires lanes in_lane scripts count = record {
  length = Some content.length;
  channels = Some content.channels;
  bits = Some content.bits;
  pattern = content.pattern;
  nodes = nodes;
  lines = [];
  aux = aux;
  presets = presets;
  firsts = firsts;
  wires = wires;
  lanes = lanes;
  in_lane = in_lane;
  scripts = scripts;
  script_count = count;
}

abbrev pub no_preset : Node → Option (List ℕ)
no_preset node = None

abbrev pub no_firsts : Node → List (ℕ × ℕ)
no_firsts node = []

abbrev pub nodes_state : List ClassInfo → Content → List Node → Draft
nodes_state known content nodes = state content nodes (buses_of known nodes) (map no_preset nodes) (map no_firsts nodes) [] [] false [] 0

same_node : (known : List ClassInfo) (node : Node) (class : ClassInfo) → HasClass known node class → node_of_line node.name class ≡ node
same_node known node class has =
    let name : label_text class.name ≡ node.class_name = (bytes_eq-Decides (label_text class.name) node.class_name).0 (found_holds (λ class. bytes_eq (label_text class.name) node.class_name) known class has.0) in
    let params = has.1 in
    let units = has.2 in
    λ i. record { name = node.name; class_name = name i; params = params i; units = units i }

node_more : (known : List ClassInfo) (content : Content) (before : List Node) (node : Node) (class : ClassInfo) → HasClass known node class → with_entry 0 (NodeLine node.name class) (nodes_state known content before) ≡ with_lines (0 ∷ []) (nodes_state known content (before ++ node ∷ []))
node_more known content before node class has =
    let same = same_node known node class has in
    let aux : buses_of known before ++ class.aux ∷ [] ≡ buses_of known (before ++ node ∷ []) = ap (λ o. buses_of known before ++ has_bus o ∷ []) (sym has.0) ∙ sym (map-append (λ (n : Node). has_bus (class_named known n.class_name)) before (node ∷ [])) in
    let presets = sym (map-append no_preset before (node ∷ [])) in
    let firsts = sym (map-append no_firsts before (node ∷ [])) in
    λ i. with_lines (0 ∷ []) (state content (before ++ same i ∷ []) (aux i) (presets i) (firsts i) [] [] false [] 0)

-- the nodes' lines don't matter to what further lines come to
pub goes_from : (known : List ClassInfo) (lines : List (List (List ℕ))) (before after : Draft) (stand : List ℕ) → Goes known lines before (with_lines stand after) → Goes known lines before after
goes_from known lines before after stand goes = goes

pub nodes_go : (known : List ClassInfo) (content : Content) (before nodes : List Node) → EachBehind IsNodeBehind before nodes → All (λ node. (class : ClassInfo) × HasClass known node class) nodes → length before + length nodes ≤ 64 → Goes known (map node_words nodes) (nodes_state known content before) (nodes_state known content (before ++ nodes))
nodes_go known content before [] each has few = goes_same known [] (nodes_state known content before) (nodes_state known content before) (nodes_state known content (before ++ [])) (ap (λ ns. nodes_state known content ns) (sym (append-nil before))) (goes_none known (nodes_state known content before))
nodes_go known content before (node ∷ nodes) each has few =
    let class = (has 0 node (omega arith)).0 in
    let of = (has 0 node (omega arith)).1 in
    let stands = each.0 in
    let words = one_more (codes "node") (node.name ∷ node.class_name ∷ []) (code_word (codes "node") refl) (one_more node.name (node.class_name ∷ []) (name_word node.name stands.named) (one_more node.class_name [] stands.class no_words)) in
    let says : (stand : List ℕ) → line_of_words known (with_lines stand (nodes_state known content before)) (node_words node) ≡ Ok (NodeLine node.name class) = λ stand.
    (node_says known (with_lines stand (nodes_state known content before)) node.name node.class_name class stands.named of.0 stands.new (omega (arith, few))) in
    let first = goes_line known (node_words node) (nodes_state known content before) (NodeLine node.name class) words refl says in
    let first_ = goes_same known (node_words node ∷ []) (nodes_state known content before) (with_entry 0 (NodeLine node.name class) (nodes_state known content before)) (with_lines (0 ∷ []) (nodes_state known content (before ++ node ∷ []))) (node_more known content before node class of) first in
    let long = length-append before (node ∷ []) in
    let rest = nodes_go known content (before ++ node ∷ []) nodes each.1 (All-tail (λ node. (class : ClassInfo) × HasClass known node class) node nodes has) (omega (arith, few, long)) in
    goes_same known (map node_words (node ∷ nodes)) (nodes_state known content before) (nodes_state known content ((before ++ node ∷ []) ++ nodes)) (nodes_state known content (before ++ (node ∷ nodes))) (ap (λ ns. nodes_state known content ns) (append_assoc before (node ∷ []) nodes))
    (goes_on_to known (node_words node ∷ []) (map node_words nodes) (nodes_state known content before) (nodes_state known content (before ++ node ∷ [])) (nodes_state known content ((before ++ node ∷ []) ++ nodes)) (goes_from known (node_words node ∷ []) (nodes_state known content before) (nodes_state known content (before ++ node ∷ [])) (0 ∷ []) first_) rest)

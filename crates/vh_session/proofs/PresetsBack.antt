-- Presets that are written are read.
use Rattle.std.proofs.Common.{◌≡◌, ◌∙◌, ℕ, zero, suc, ◌+◌, ◌<◌, ◌≤◌, false, List, [], ◌∷◌, ◌++◌, map, set, length, get_or, refl, sym, ap, subst, arith, Some, None, Option, Ok}
use Rattle.std.specs.Prelude.{codes}
use Rattle.std.specs.Option.{is_some}
use Rattle.std.proofs.lemmas.List.{append_assoc, append-nil, length-set}
use Rattle.vh_params.specs.declared.class.ClassInfo.{ClassInfo}
use Rattle.vh_params.specs.Nodes.{Node, no_node}
use Rattle.vh_session.specs.Content.{Content, presets_from}
use Rattle.vh_session.specs.Entry.{Draft, PresetLine}
use Rattle.vh_session.specs.Lines.{line_of_words, preset_line}
use Rattle.vh_session.specs.Text.{preset_words, name_of}
use Rattle.vh_session.specs.Keeps.{EachBehind, IsNodeBehind, ArePresets, buses_of}
use Rattle.vh_text.specs.Tokens.{IsWord}
use Rattle.vh_session.proofs.Found.{node_found}
use Rattle.vh_session.proofs.Goes.{Goes, with_lines, goes_none, goes_on_to, goes_line}
use Rattle.vh_session.proofs.NodesBack.{state}
use Rattle.vh_session.proofs.Says.{preset_says}
use Rattle.vh_session.proofs.Behind.{behind_all}
use Rattle.vh_session.proofs.WordsOf.{name_word}
use Rattle.vh_text.proofs.WordsOf.{code_word, no_words, one_more}

-- no preset from this node on
abbrev pub FreeFrom : ℕ → List (Option (List ℕ)) → Type 0
FreeFrom least presets = (node : ℕ) → least ≤ node → get_or presets node None ≡ None

none_from : (start : ℕ) (presets : List (Option (List ℕ))) → ((node : ℕ) → get_or presets node None ≡ None) → presets_from start presets ≡ []
none_from start [] free = refl
none_from start (None ∷ presets) free = none_from (start + 1) presets (λ node. free (suc node))
none_from start (Some file ∷ presets) free = absurd (subst (λ o. elim o as (λ _. Type 0) [ None ↦ ⊥ | Some f ↦ Unit {0} ]) (free 0) tt)

preset_last : (start : ℕ) (presets : List (Option (List ℕ))) (node : ℕ) (file : List ℕ) → node < length presets → FreeFrom node presets → presets_from start (set presets node (Some file)) ≡ presets_from start presets ++ (start + node, file) ∷ []
preset_last start [] node file lt free = absurd (omega (arith, lt))
preset_last start (None ∷ presets) zero file lt free =
    let rest = none_from (start + 1) presets (λ node. free (suc node) (omega arith)) in
    ap (λ ps. (start, file) ∷ ps) rest ∙ sym (ap (λ ps. ps ++ (start + 0, file) ∷ []) rest ∙ ap (λ n. (n, file) ∷ []) (let e : start + 0 ≡ start = omega arith in e))
preset_last start (Some other ∷ presets) zero file lt free = absurd (subst (λ o. elim o as (λ _. Type 0) [ None ↦ ⊥ | Some f ↦ Unit {0} ]) (free 0 (omega arith)) tt)
preset_last start (None ∷ presets) (suc node) file lt free =
    preset_last (start + 1) presets node file (omega (arith, lt)) (λ n le. free (suc n) (omega (arith, le)))
    ∙ ap (λ n. presets_from (start + 1) presets ++ (n, file) ∷ []) (let e : (start + 1) + node ≡ start + suc node = omega arith in e)
preset_last start (Some other ∷ presets) (suc node) file lt free =
    ap (λ ps. (start, other) ∷ ps) (preset_last (start + 1) presets node file (omega (arith, lt)) (λ n le. free (suc n) (omega (arith, le)))
    ∙ ap (λ n. presets_from (start + 1) presets ++ (n, file) ∷ []) (let e : (start + 1) + node ≡ start + suc node = omega arith in e))

free_behind : (presets : List (Option (List ℕ))) (node : ℕ) (file : List ℕ) → FreeFrom node presets → FreeFrom (node + 1) (set presets node (Some file))
free_behind [] node file free n le = free n (omega (arith, le))
free_behind (p ∷ presets) zero file free zero le = absurd (omega (arith, le))
free_behind (p ∷ presets) zero file free (suc n) le = free (suc n) (omega arith)
free_behind (p ∷ presets) (suc node) file free zero le = absurd (omega (arith, le))
free_behind (p ∷ presets) (suc node) file free (suc n) le = free_behind presets node file (λ m l. free (suc m) (omega (arith, l))) n (omega (arith, le))

abbrev pub presets_state : List ClassInfo → Content → List (Option (List ℕ)) → Draft
presets_state known content presets = state content content.nodes (buses_of known content.nodes) presets (map (λ node. []) content.nodes) [] [] false [] 0

-- what presets come to, one after the other
pub record ArePut (known : List ClassInfo) (content : Content) (before : List (Option (List ℕ))) (presets : List (ℕ × List ℕ)) : Type 0 where
  pub after : List (Option (List ℕ))
  pub goes : Goes known (map (preset_words content.nodes) presets) (presets_state known content before) (presets_state known content after)
  pub lists : presets_from 0 after ≡ presets_from 0 before ++ presets

pub named_word : (nodes : List Node) (node : ℕ) → EachBehind IsNodeBehind [] nodes → node < length nodes → IsWord (name_of nodes node)
named_word nodes node each lt = behind_all IsNodeBehind (λ n. IsWord n.name) [] nodes (λ before n stands. name_word n.name stands.named) each node no_node lt

pub presets_go : (known : List ClassInfo) (content : Content) (before : List (Option (List ℕ))) (least : ℕ) (presets : List (ℕ × List ℕ)) → EachBehind IsNodeBehind [] content.nodes → length before ≡ length content.nodes → FreeFrom least before → ArePresets (length content.nodes) least presets → ArePut known content before presets
presets_go known content before least [] named many free are = record { after = before; goes = goes_none known (presets_state known content before); lists = sym (append-nil (presets_from 0 before)) }
presets_go known content before least (preset ∷ presets) named many free are =
    let node = preset.0 in
    let file = preset.1 in
    let lt : node < length content.nodes = are.1 in
    let after = set before node (Some file) in
    let free_here : FreeFrom node before = λ n le. free n (let low = are.0 in omega (arith, low, le)) in
    let words = one_more (codes "preset") (name_of content.nodes node ∷ file ∷ []) (code_word (codes "preset") refl) (one_more (name_of content.nodes node) (file ∷ []) (named_word content.nodes node named lt) (one_more file [] are.2.0 no_words)) in
    let says : (stand : List ℕ) → line_of_words known (with_lines stand (presets_state known content before)) (preset_words content.nodes preset) ≡ Ok (PresetLine node file) = λ stand.
    (preset_says (with_lines stand (presets_state known content before)) (name_of content.nodes node) file node (node_found content.nodes node named lt) are.2.1 (ap (λ o. is_some o) (free_here node (omega arith)))) in
    let first = goes_line known (preset_words content.nodes preset) (presets_state known content before) (PresetLine node file) words refl says in
    let rest = presets_go known content after (node + 1) presets named (length-set before node (Some file) ∙ many) (free_behind before node file free_here) are.3 in
    record {
      after = rest.after;
      goes = goes_on_to known (preset_words content.nodes preset ∷ []) (map (preset_words content.nodes) presets) (presets_state known content before) (presets_state known content after) (presets_state known content rest.after) first rest.goes;
      lists = rest.lists ∙ ap (λ ps. ps ++ presets) (preset_last 0 before node file (omega (arith, lt, many)) free_here ∙ ap (λ n. presets_from 0 before ++ (n, file) ∷ []) (let e : 0 + node ≡ node = omega arith in e)) ∙ append_assoc (presets_from 0 before) (preset ∷ []) presets;
    }

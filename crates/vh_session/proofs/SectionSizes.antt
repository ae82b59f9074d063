-- How long each part of the canonical text may be.
use Rattle.std.proofs.Common.{◌≡◌, ℕ, zero, suc, ◌+◌, ◌*◌, ◌<◌, ◌≤◌, ◌^◌, true, false, List, [], ◌∷◌, ◌++◌, map, length, get_or, ap, arith}
use Rattle.std.specs.Prelude.{All, codes, nat_le, if◌then◌else◌}
use Rattle.std.specs.Fmt.{decimal}
use Rattle.std.proofs.lemmas.Bool.{and_parts, leb-true}
use Rattle.std.proofs.lemmas.List.{length-append}
use Rattle.std.proofs.lemmas.List.Elements.{All-tail}
use Rattle.vh_params.specs.Nodes.{Node}
use Rattle.vh_session.specs.declared.wire.End.{End}
use Rattle.vh_session.specs.declared.wire.End.TheVariants.{In, Out, Node as AtNode}
use Rattle.vh_session.specs.declared.wire.Wire.{Wire}
use Rattle.vh_session.specs.Entry.{LaneText, ScriptWord, BeginWord, PerformWord, EndWord, TellWord, HoldWord, DropWord, WaitWord}
use Rattle.vh_text.specs.Numbers.{is_within}
use Rattle.vh_session.specs.Text.{name_of, wire_words, end_word, point_words, lane_with, lane_words, lanes_words, script_words, scripts_words}
use Rattle.vh_text.specs.Written.{line_text, lines_text}
use Rattle.vh_session.specs.Keeps.{EachBehind, IsNodeBehind, IsScriptWord, word_count}
use Rattle.vh_session.proofs.Behind.{behind_all}
use Rattle.vh_session.proofs.Found.{is_small}
use Rattle.vh_session.proofs.Sizes.{line_size, mapped_size, name_size, number_size, value_size, numbers_size}
use Rattle.vh_text.proofs.Written.{lines_append}

pub within_most : (least most n : ℕ) → is_within least most n ≡ true → n ≤ most
within_most least most n within = leb-true n most (and_parts (nat_le least n) (nat_le n most) within).1

-- names are short; past the last node there is none
pub short_name : (nodes : List Node) (node : ℕ) → EachBehind IsNodeBehind [] nodes → length (name_of nodes node) ≤ 32
short_name nodes node named = at nodes node (behind_all IsNodeBehind (λ n. length n.name ≤ 32) [] nodes (λ before n stands. name_size n.name stands.named) named)
  where
    at : (nodes : List Node) (node : ℕ) → All (λ n. length n.name ≤ 32) nodes → length (name_of nodes node) ≤ 32
    at [] zero all = omega arith
    at [] (suc node) all = omega arith
    at (n ∷ nodes) zero all = all 0 n (omega arith)
    at (n ∷ nodes) (suc node) all = at nodes node (All-tail (λ n. length n.name ≤ 32) n nodes all)

pub short_end : (nodes : List Node) (end : End) → EachBehind IsNodeBehind [] nodes → length (end_word nodes end) ≤ 32
short_end nodes In named = omega arith
short_end nodes Out named = omega arith
short_end nodes (AtNode node) named = short_name nodes node named

pub point_size : (point : ℕ × ℕ) → point.0 ≤ 16777216 → point.1 ≤ 16777216 → length (line_text (point_words point)) ≤ 24
point_size point at value =
    let e = line_size (codes "point") (decimal point.0 ∷ decimal point.1 ∷ []) in
    let a = value_size point.0 at in
    let b = value_size point.1 value in
    omega (arith, e, a, b)

pub wire_size : (nodes : List Node) (wire : Wire) → EachBehind IsNodeBehind [] nodes → length (line_text (wire_words nodes wire)) ≤ 75
wire_size nodes wire named =
    let a = short_end nodes wire.from named in
    let b = short_end nodes wire.to named in
    elim wire.aux as (λ aux. length (line_text (codes "wire" ∷ end_word nodes wire.from ∷ end_word nodes wire.to ∷ (if aux then codes "aux" ∷ [] else []))) ≤ 75) [
      | true ↦ let e = line_size (codes "wire") (end_word nodes wire.from ∷ end_word nodes wire.to ∷ codes "aux" ∷ []) in omega (arith, e, a, b)
      | false ↦ let e = line_size (codes "wire") (end_word nodes wire.from ∷ end_word nodes wire.to ∷ []) in omega (arith, e, a, b)
    ]

pub word_size : (nodes : List Node) (word : ScriptWord) → EachBehind IsNodeBehind [] nodes → IsScriptWord (length nodes) word → length (line_text (script_words nodes word)) ≤ 82
word_size nodes (BeginWord node id) named fits = let e = line_size (codes "begin") (name_of nodes node ∷ decimal id ∷ []) in let n = short_name nodes node named in let a = number_size id (is_small id fits.1) in omega (arith, e, n, a)
word_size nodes (PerformWord node id value) named fits = let e = line_size (codes "perform") (name_of nodes node ∷ decimal id ∷ decimal value ∷ []) in let n = short_name nodes node named in let a = number_size id (is_small id fits.1) in let b = number_size value (is_small value fits.2) in omega (arith, e, n, a, b)
word_size nodes (EndWord node id) named fits = let e = line_size (codes "end") (name_of nodes node ∷ decimal id ∷ []) in let n = short_name nodes node named in let a = number_size id (is_small id fits.1) in omega (arith, e, n, a)
word_size nodes (TellWord node numbers) named fits =
    let e = line_size (codes "tell") (name_of nodes node ∷ map decimal numbers) in
    let n = short_name nodes node named in
    let a = numbers_size numbers (λ k d lt. is_small (get_or numbers k d) (fits.1.1 k d lt)) in
    let most = fits.1.0 in
    omega (arith, e, n, a, most)
word_size nodes (HoldWord node) named fits = let e = line_size (codes "hold") (name_of nodes node ∷ []) in let n = short_name nodes node named in omega (arith, e, n)
word_size nodes (DropWord node) named fits = let e = line_size (codes "drop") (name_of nodes node ∷ []) in let n = short_name nodes node named in omega (arith, e, n)
word_size nodes (WaitWord block) named fits = let e = line_size (codes "wait") (decimal block ∷ []) in let a = number_size block (is_small block fits) in omega (arith, e, a)

pub scripts_size : (nodes : List Node) (editor : ℕ) (scripts : List (List ScriptWord)) → EachBehind IsNodeBehind [] nodes → editor + length scripts ≤ 8 → All (λ script. All (IsScriptWord (length nodes)) script) scripts → length (lines_text (scripts_words nodes editor scripts)) ≤ length scripts * 18 + word_count scripts * 82
scripts_size nodes editor [] named few fits = omega arith
scripts_size nodes editor (script ∷ scripts) named few fits =
    let W : List ScriptWord → Type 0 = λ script. All (IsScriptWord (length nodes)) script in
    let line = codes "editor" ∷ decimal editor ∷ [] in
    let mine = map (script_words nodes) script in
    let others = scripts_words nodes (editor + 1) scripts in
    let e = line_size (codes "editor") (decimal editor ∷ []) in
    let a = number_size editor (omega (arith, few)) in
    let all = length-append (line_text line) (lines_text (mine ++ others)) in
    let both = ap (λ bs. length bs) (lines_append mine others) in
    let parts = length-append (lines_text mine) (lines_text others) in
    let m = mapped_size (script_words nodes) 82 script (λ k d lt. word_size nodes (get_or script k d) named (fits 0 script (omega arith) k d lt)) in
    let rest = scripts_size nodes (editor + 1) scripts named (omega (arith, few)) (All-tail W script scripts fits) in
    omega (arith, e, a, all, both, parts, m, rest)

pub lane_size : (nodes : List Node) (lane : LaneText) (breaks : List (ℕ × ℕ)) → EachBehind IsNodeBehind [] nodes → lane.id < 2 ^ 32 → lane.grain ≤ 24 → length breaks ≤ 4096 → All (λ break. (break.0 ≤ 16777216) × (break.1 ≤ 16777216)) breaks → length (lines_text (lane_with nodes lane breaks)) ≤ 98358
lane_size nodes lane [] named id grain most all = omega arith
lane_size nodes lane (break ∷ breaks) named id grain most all =
    let line = codes "lane" ∷ name_of nodes lane.node ∷ decimal lane.id ∷ decimal lane.grain ∷ decimal break.0 ∷ decimal break.1 ∷ [] in
    let e = line_size (codes "lane") (name_of nodes lane.node ∷ decimal lane.id ∷ decimal lane.grain ∷ decimal break.0 ∷ decimal break.1 ∷ []) in
    let n = short_name nodes lane.node named in
    let a = number_size lane.id id in
    let g = number_size lane.grain (omega (arith, grain)) in
    let s = value_size break.0 (all 0 break (omega arith)).0 in
    let v = value_size break.1 (all 0 break (omega arith)).1 in
    let both = length-append (line_text line) (lines_text (map point_words breaks)) in
    let points = mapped_size point_words 24 breaks (λ k d lt. point_size (get_or breaks k d) (all (suc k) d (omega (arith, lt))).0 (all (suc k) d (omega (arith, lt))).1) in
    omega (arith, e, n, a, g, s, v, both, points, most)

pub lanes_size : (nodes : List Node) (lanes : List LaneText) → EachBehind IsNodeBehind [] nodes → All (λ lane. length (lines_text (lane_words nodes lane)) ≤ 98358) lanes → length (lines_text (lanes_words nodes lanes)) ≤ length lanes * 98358
lanes_size nodes [] named all = omega arith
lanes_size nodes (lane ∷ lanes) named all =
    let both = ap (λ bs. length bs) (lines_append (lane_words nodes lane) (lanes_words nodes lanes)) in
    let parts = length-append (lines_text (lane_words nodes lane)) (lines_text (lanes_words nodes lanes)) in
    let here = all 0 lane (omega arith) in
    let rest = lanes_size nodes lanes named (All-tail (λ lane. length (lines_text (lane_words nodes lane)) ≤ 98358) lane lanes all) in
    omega (arith, both, parts, here, rest)

-- A session's lines that are written one after the other.
use Rattle.std.proofs.Common.{◌≡◌, ◌∙◌, ℕ, suc, ◌+◌, ◌<◌, List, [], ◌∷◌, ◌++◌, drop, map, length, get_or, refl, sym, ap, arith}
use Rattle.std.proofs.Math.Seq.{drop-cons}
use Rattle.std.proofs.lemmas.List.{append_assoc, append-nil}
use Rattle.std.specs.Prelude.{codes}
use Rattle.std.specs.Fmt.{decimal}
use Rattle.vh_params.specs.Nodes.{Node}
use Rattle.vh_session.specs.Entry.{LaneText, ScriptWord}
use Rattle.vh_text.specs.Written.{line_text, lines_text}
use Rattle.vh_text.proofs.Written.{lines_append, part}
use Rattle.vh_session.specs.Text.{lane_words, lanes_words, script_words, scripts_words}

pub next_lane : (nodes : List Node) (lanes : List LaneText) (i : ℕ) (d : LaneText) (before after all : List ℕ) → i < length lanes
    → before ++ lines_text (lanes_words nodes (drop i lanes)) ≡ all → after ≡ before ++ lines_text (lane_words nodes (get_or lanes i d)) → after ++ lines_text (lanes_words nodes (drop (i + 1) lanes)) ≡ all
next_lane nodes lanes i d before after all lt is now =
    let e : suc i ≡ i + 1 = omega arith in
    let rest = lanes_words nodes (drop (suc i) lanes) in
    ap (λ m. after ++ lines_text (lanes_words nodes (drop m lanes))) (sym e)
    ∙ ap (λ bs. bs ++ lines_text rest) now
    ∙ append_assoc before (lines_text (lane_words nodes (get_or lanes i d))) (lines_text rest)
    ∙ ap (λ bs. before ++ bs) (sym (lines_append (lane_words nodes (get_or lanes i d)) rest))
    ∙ ap (λ ls. before ++ lines_text (lanes_words nodes ls)) (sym (drop-cons lanes i d lt)) ∙ is

pub next_script : (nodes : List Node) (scripts : List (List ScriptWord)) (i : ℕ) (before middle after all : List ℕ) → i < length scripts
    → before ++ lines_text (scripts_words nodes i (drop i scripts)) ≡ all → middle ≡ before ++ line_text (codes "editor" ∷ decimal i ∷ []) → after ≡ middle ++ lines_text (map (script_words nodes) (get_or scripts i []))
    → after ++ lines_text (scripts_words nodes (i + 1) (drop (i + 1) scripts)) ≡ all
next_script nodes scripts i before middle after all lt is first now =
    let e : suc i ≡ i + 1 = omega arith in
    let words = map (script_words nodes) (get_or scripts i []) in
    let rest = scripts_words nodes (i + 1) (drop (suc i) scripts) in
    let line = line_text (codes "editor" ∷ decimal i ∷ []) in
    ap (λ m. after ++ lines_text (scripts_words nodes (i + 1) (drop m scripts))) (sym e)
    ∙ ap (λ bs. bs ++ lines_text rest) (now ∙ ap (λ bs. bs ++ lines_text words) first)
    ∙ append_assoc (before ++ line) (lines_text words) (lines_text rest)
    ∙ append_assoc before line (lines_text words ++ lines_text rest)
    ∙ ap (λ bs. before ++ (line ++ bs)) (sym (lines_append words rest))
    ∙ ap (λ ss. before ++ lines_text (scripts_words nodes i ss)) (sym (drop-cons scripts i [] lt)) ∙ is

-- seven groups of lines
pub all_lines : (b0 b1 b2 b3 b4 b5 b6 b7 : List ℕ) (l0 l1 l2 l3 l4 l5 l6 : List (List (List ℕ))) → b1 ≡ b0 ++ lines_text l0 → b2 ≡ b1 ++ lines_text l1 → b3 ≡ b2 ++ lines_text l2 → b4 ≡ b3 ++ lines_text l3 → b5 ≡ b4 ++ lines_text l4 → b6 ≡ b5 ++ lines_text l5 → b7 ≡ b6 ++ lines_text l6
    → b7 ≡ b0 ++ lines_text (l0 ++ (l1 ++ (l2 ++ (l3 ++ (l4 ++ (l5 ++ l6))))))
all_lines b0 b1 b2 b3 b4 b5 b6 b7 l0 l1 l2 l3 l4 l5 l6 w0 w1 w2 w3 w4 w5 w6 =
    let p5 = part b5 b6 b7 l5 l6 w5 w6 in
    let p4 = part b4 b5 b7 l4 (l5 ++ l6) w4 p5 in
    let p3 = part b3 b4 b7 l3 (l4 ++ (l5 ++ l6)) w3 p4 in
    let p2 = part b2 b3 b7 l2 (l3 ++ (l4 ++ (l5 ++ l6))) w2 p3 in
    let p1 = part b1 b2 b7 l1 (l2 ++ (l3 ++ (l4 ++ (l5 ++ l6)))) w1 p2 in
    part b0 b1 b7 l0 (l1 ++ (l2 ++ (l3 ++ (l4 ++ (l5 ++ l6))))) w0 p1

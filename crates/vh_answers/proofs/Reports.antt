-- A report's lines, one after the other.
use Rattle.std.proofs.Common.{◌≡◌, ◌∙◌, ℕ, zero, suc, ◌+◌, ◌<◌, ◌≤◌, cond, List, [], ◌∷◌, ◌++◌, take, drop, length, get_or, Some, refl, ap, sym, arith}
use Rattle.std.proofs.lemmas.Bool.{eq-eqb, ne_eqb}
use Rattle.std.proofs.lemmas.List.{drop_all}
use Rattle.vh_params.specs.declared.param.ParamInfo.{ParamInfo}
use Rattle.vh_params.specs.Nodes.{Node, node_at, no_node}
use Rattle.vh_params.specs.Params.{param_in, AreRising}
use Rattle.vh_text.specs.Written.{line_text}
use Rattle.vh_answers.specs.declared.report.EditorCounts.{EditorCounts}
use Rattle.vh_answers.specs.Report.{param_words, params_text, nodes_text, editor_words, editors_text}
use Rattle.vh_answers.proofs.Told.{next_at, next_item}

-- a parameter is found by its id
pub found : (params : List ParamInfo) (i : ℕ) (d : ParamInfo) → AreRising params → i < length params → param_in params (get_or params i d).id ≡ Some (get_or params i d)
found [] i d are lt = absurd (omega (arith, lt))
found (param ∷ params) zero d are lt = ap (λ b. cond b (Some param) (param_in params param.id)) (eq-eqb param.id param.id refl)
found (param ∷ params) (suc i) d are lt =
    let other = get_or params i d in
    let below : param.id < other.id = are 0 (suc i) d (omega arith) lt in
    ap (λ b. cond b (Some param) (param_in params other.id)) (ne_eqb param.id other.id (λ same. omega (arith, below, same)))
    ∙ found params i d (λ j k e before within. are (suc j) (suc k) e (omega (arith, before)) (omega (arith, within))) (omega (arith, lt))

pub next_param : (name : List ℕ) (mode : ℕ) (params : List ParamInfo) (values : List ℕ) (i : ℕ) (param : ParamInfo) → i < length params → param ≡ get_or params i param → i < length values
    → params_text name mode (drop i params) (drop i values) ≡ line_text (param_words name mode param (get_or values i 0)) ++ params_text name mode (drop (i + 1) params) (drop (i + 1) values)
next_param name mode params values i param inside is lt =
    ap (λ ps. params_text name mode ps (drop i values)) (next_item params i param inside is)
    ∙ ap (λ vs. params_text name mode (param ∷ drop (i + 1) params) vs) (next_at values i 0 lt)

no_values : (name : List ℕ) (mode : ℕ) (params : List ParamInfo) → params_text name mode params [] ≡ []
no_values name mode [] = refl
no_values name mode (param ∷ params) = refl

pub last_param : (name : List ℕ) (mode : ℕ) (params : List ParamInfo) (values : List ℕ) (i : ℕ) → length values ≤ i → params_text name mode params (drop i values) ≡ []
last_param name mode params values i le = ap (λ vs. params_text name mode params vs) (drop_all i values le) ∙ no_values name mode params

pub next_node : (nodes : List Node) (values modes : List ℕ) (k : ℕ) (name : List ℕ) (params : List ParamInfo) (own others : List ℕ) → k < length nodes → k < length modes
    → name ≡ (node_at nodes k).name → params ≡ (node_at nodes k).params → own ≡ take (length params) values → others ≡ drop (length params) values
    → nodes_text (drop k nodes) values (drop k modes) ≡ params_text name (get_or modes k 0) params own ++ nodes_text (drop (k + 1) nodes) others (drop (k + 1) modes)
next_node nodes values modes k name params own others inside there named is front back =
    let node = node_at nodes k in
    let rest = drop (k + 1) nodes in
    let later = drop (k + 1) modes in
    let mode = get_or modes k 0 in
    ap (λ ns. nodes_text ns values (drop k modes)) (next_at nodes k no_node inside)
    ∙ ap (λ ms. nodes_text (node ∷ rest) values ms) (next_at modes k 0 there)
    ∙ ap (λ ps. params_text node.name mode ps (take (length ps) values) ++ nodes_text rest (drop (length ps) values) later) (sym is)
    ∙ ap (λ n. params_text n mode params (take (length params) values) ++ nodes_text rest (drop (length params) values) later) (sym named)
    ∙ ap (λ vs. params_text name mode params vs ++ nodes_text rest (drop (length params) values) later) (sym front)
    ∙ ap (λ vs. params_text name mode params own ++ nodes_text rest vs later) (sym back)

pub next_editor : (editors : List EditorCounts) (n : ℕ) (d : EditorCounts) → n < length editors
    → editors_text n (drop n editors) ≡ line_text (editor_words n (get_or editors n d)) ++ editors_text (n + 1) (drop (n + 1) editors)
next_editor editors n d lt =
    let e : suc n ≡ n + 1 = omega arith in
    ap (λ es. editors_text n es) (next_at editors n d lt)
    ∙ ap (λ m. line_text (editor_words n (get_or editors n d)) ++ editors_text m (drop (n + 1) editors)) e

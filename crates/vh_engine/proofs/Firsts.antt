-- Parameters at their first values.
use Rattle.std.proofs.Common.{◌≡◌, ◌∙◌, ℕ, zero, suc, ◌+◌, ◌<◌, ◌≤◌, ◌^◌, Bool, true, false, cond, List, [], ◌∷◌, length, map, take, drop, Option, Some, None, refl, sym, ap, subst, arith}
use Rattle.std.specs.Prelude.{All, slice_index_or, sum_by, ◌==◌, ◌&&◌}
use Rattle.std.specs.List.{slice_get, find}
use Rattle.std.specs.Option.{option_map}
use Rattle.std.proofs.lemmas.Bool.{eq-eqb, ne_eqb}
use Rattle.std.proofs.lemmas.List.{drop-drop, length-drop, take-append-drop}
use Rattle.std.proofs.lemmas.List.Elements.{All-append}
use Rattle.std.proofs.lemmas.List.Sums.{sum_by-cons}
use Rattle.vh_lane.specs.declared.lane.Lane.{Lane}
use Rattle.vh_lane.specs.Kept.{value_of}
use Rattle.vh_lane.specs.Values.{lane_at}
use Rattle.vh_params.specs.declared.param.ParamInfo.{ParamInfo}
use Rattle.vh_params.specs.Flags.{is_read_only}
use Rattle.vh_params.specs.Nodes.{Node, node_at}
use Rattle.vh_params.specs.Params.{param_in, AreRising}
use Rattle.vh_plugin.specs.Class.{Param, Class, param_of}
use Rattle.vh_session.specs.Entry.{LaneText}
use Rattle.vh_session.specs.Parts.{laned}
use Rattle.vh_meaning.specs.Block.{untouched}
use Rattle.vh_meaning.specs.Scene.{by_node, lane_in, line_of as line_in}
use Rattle.vh_meaning.specs.Stands.{Touch}
use Rattle.vh_engine.specs.declared.control.Control.{Control}
use Rattle.vh_engine.specs.Controls.{touch_of, line_at}
use Rattle.vh_engine.specs.Nodes.{AreOf, sent_of}
use Rattle.vh_engine.specs.Plans.{is_lane_of, IsLaneOf, IsFirst, IsFirstBoard, begin_of}

-- each class has as many parameters as its node
abbrev pub HaveParams : (ℕ → Class) → List ℕ → List Node → Type 0
HaveParams class_of codes nodes = (k : ℕ) → k < length codes → length (class_of (slice_index_or codes k 0)).params ≡ length (node_at nodes k).params

-- the first values of a node stand behind those of the nodes before it
pub firsts_of_node : (class_of : ℕ → Class) (codes : List ℕ) (nodes : List Node) (values : List ℕ) (node : ℕ) → HaveParams class_of codes nodes → length codes ≡ length nodes → node < length codes
    → slice_index_or (by_node class_of codes values) node [] ≡ take (length (node_at nodes node).params) (drop (begin_of nodes node) values)
firsts_of_node class_of [] nodes values node have long lt = absurd (omega (arith, lt))
firsts_of_node class_of (code ∷ codes) [] values node have long lt = absurd (omega (arith, long))
firsts_of_node class_of (code ∷ codes) (n ∷ nodes) values zero have long lt = ap (λ (k : ℕ). take k values) (have 0 (omega arith))
firsts_of_node class_of (code ∷ codes) (n ∷ nodes) values (suc node) have long lt =
    let here : length (class_of code).params ≡ length n.params = have 0 (omega arith) in
    let begins : begin_of (n ∷ nodes) (suc node) ≡ length n.params + begin_of nodes node = sum_by-cons (λ (x : Node). length x.params) n (take node nodes) in
    let places : length (class_of code).params + begin_of nodes node ≡ begin_of (n ∷ nodes) (suc node) = omega (arith, here, begins) in
    firsts_of_node class_of codes nodes (drop (length (class_of code).params) values) node (λ k within. have (suc k) (omega (arith, within))) (omega (arith, long)) (omega (arith, lt))
    ∙ ap (λ (l : List ℕ). take (length (node_at nodes node).params) l)
    (drop-drop (begin_of nodes node) (length (class_of code).params) values ∙ ap (λ (k : ℕ). drop k values) places)

-- values that are at most 1.0 node by node are so all
pub within_by_node : (class_of : ℕ → Class) (codes : List ℕ) (nodes : List Node) (values : List ℕ) → HaveParams class_of codes nodes → length codes ≡ length nodes → length values ≡ sum_by (λ node. length node.params) nodes
    → ((node : ℕ) → node < length codes → All (λ value. value ≤ 2 ^ 24) (slice_index_or (by_node class_of codes values) node [])) → All (λ value. value ≤ 2 ^ 24) values
within_by_node class_of [] [] values have long flat within = λ k d lt. absurd (omega (arith, flat, lt))
within_by_node class_of [] (n ∷ nodes) values have long flat within = absurd (omega (arith, long))
within_by_node class_of (code ∷ codes) [] values have long flat within = absurd (omega (arith, long))
within_by_node class_of (code ∷ codes) (n ∷ nodes) values have long flat within =
    let count = length (class_of code).params in
    let here : count ≡ length n.params = have 0 (omega arith) in
    let sums = sum_by-cons (λ (x : Node). length x.params) n nodes in
    let rest : length (drop count values) ≡ sum_by (λ node. length node.params) nodes = let dropped = length-drop count values in omega (arith, flat, here, sums, dropped) in
    subst (λ (l : List ℕ). All (λ value. value ≤ 2 ^ 24) l) (take-append-drop count values)
    (All-append (λ (value : ℕ). value ≤ 2 ^ 24) (take count values) (drop count values) (within 0 (omega arith))
    (within_by_node class_of codes nodes (drop count values) (λ k lt. have (suc k) (omega (arith, lt))) (omega (arith, long)) rest (λ node lt. within (suc node) (omega (arith, lt)))))

rest_of_first : (lanes : List (ℕ × ℕ × Lane)) (node : ℕ) (param : ParamInfo) (params : List ParamInfo) (first : ℕ) (firsts : List ℕ) (control : Control) (board : List Control)
    → IsFirstBoard lanes node (param ∷ params) (first ∷ firsts) (control ∷ board) → IsFirstBoard lanes node params firsts board
rest_of_first lanes node param params first firsts control board is = record {
  long = let long = is.long in omega (arith, long);
  each = λ k f d e lt. is.each (suc k) f d e (omega (arith, lt));
}

head_of_first : (lanes : List (ℕ × ℕ × Lane)) (node : ℕ) (param : ParamInfo) (params : List ParamInfo) (first : ℕ) (firsts : List ℕ) (control : Control) (board : List Control)
    → IsFirstBoard lanes node (param ∷ params) (first ∷ firsts) (control ∷ board) → IsFirst lanes node param first control
head_of_first lanes node param params first firsts control board is = is.each 0 first param control (omega arith)

abbrev made : ℕ → ℕ → ℕ → Touch
made value begun ended = record { value = value; begun = begun; ended = ended }

touch_of_first : (lanes : List (ℕ × ℕ × Lane)) (node : ℕ) (param : ParamInfo) (first : ℕ) (control : Control) → IsFirst lanes node param first control → touch_of control ≡ record { value = first; begun = 0; ended = 0 }
touch_of_first lanes node param first control is =
    ap (λ (v : ℕ). made v control.begun control.ended) is.held ∙ ap (λ (n : ℕ). made first n control.ended) is.begun ∙ ap (made first 0) is.ended

-- no gesture began, and each parameter is at its first value
pub untouched_board : (lanes : List (ℕ × ℕ × Lane)) (node : ℕ) (params : List ParamInfo) (firsts : List ℕ) (board : List Control) → IsFirstBoard lanes node params firsts board → length params ≤ length firsts
    → map touch_of board ≡ untouched (map param_of params) (take (length params) firsts)
untouched_board lanes node [] firsts [] is few = refl
untouched_board lanes node [] firsts (control ∷ board) is few = let long = is.long in absurd (omega (arith, long))
untouched_board lanes node (param ∷ params) firsts [] is few = let long = is.long in absurd (omega (arith, long))
untouched_board lanes node (param ∷ params) [] (control ∷ board) is few = absurd (omega (arith, few))
untouched_board lanes node (param ∷ params) (first ∷ firsts) (control ∷ board) is few =
    ap (λ (touch : Touch). touch ∷ map touch_of board) (touch_of_first lanes node param first control (head_of_first lanes node param params first firsts control board is))
    ∙ ap (λ (l : List Touch). record { value = first; begun = 0; ended = 0 } ∷ l)
    (untouched_board lanes node params firsts board (rest_of_first lanes node param params first firsts control board is) (omega (arith, few)))

-- they were sent these values
pub sent_first : (lanes : List (ℕ × ℕ × Lane)) (node : ℕ) (params : List ParamInfo) (firsts : List ℕ) (board : List Control) → IsFirstBoard lanes node params firsts board → length params ≤ length firsts
    → sent_of board ≡ take (length params) firsts
sent_first lanes node [] firsts [] is few = refl
sent_first lanes node [] firsts (control ∷ board) is few = let long = is.long in absurd (omega (arith, long))
sent_first lanes node (param ∷ params) firsts [] is few = let long = is.long in absurd (omega (arith, long))
sent_first lanes node (param ∷ params) [] (control ∷ board) is few = absurd (omega (arith, few))
sent_first lanes node (param ∷ params) (first ∷ firsts) (control ∷ board) is few =
    ap (λ (v : ℕ). v ∷ sent_of board) (head_of_first lanes node param params first firsts control board is).sent
    ∙ ap (λ (l : List ℕ). first ∷ l) (sent_first lanes node params firsts board (rest_of_first lanes node param params first firsts control board is) (omega (arith, few)))

-- and are those of the node
pub of_first : (lanes : List (ℕ × ℕ × Lane)) (node : ℕ) (params : List ParamInfo) (firsts : List ℕ) (board : List Control) → IsFirstBoard lanes node params firsts board → length params ≤ length firsts → AreOf (map param_of params) board
of_first lanes node [] firsts [] is few = record { ids = refl; steps = refl; shown = refl }
of_first lanes node [] firsts (control ∷ board) is few = let long = is.long in absurd (omega (arith, long))
of_first lanes node (param ∷ params) firsts [] is few = let long = is.long in absurd (omega (arith, long))
of_first lanes node (param ∷ params) [] (control ∷ board) is few = absurd (omega (arith, few))
of_first lanes node (param ∷ params) (first ∷ firsts) (control ∷ board) is few =
    let here = head_of_first lanes node param params first firsts control board is in
    let rest = of_first lanes node params firsts board (rest_of_first lanes node param params first firsts control board is) (omega (arith, few)) in
    record {
      ids = ap (λ (n : ℕ). n ∷ map (λ (c : Control). c.id) board) here.id ∙ ap (λ (l : List ℕ). param.id ∷ l) rest.ids;
      steps = ap (λ (n : ℕ). n ∷ map (λ (c : Control). c.steps) board) here.steps ∙ ap (λ (l : List ℕ). param.steps ∷ l) rest.steps;
      shown = ap (λ (b : Bool). b ∷ map (λ (c : Control). c.shown) board) here.shown ∙ ap (λ (l : List Bool). is_read_only param.flags ∷ l) rest.shown;
    }

-- the lane at a place, where there is one
abbrev pub lane_at_place : List (ℕ × ℕ × Lane) → Option ℕ → Option (ℕ × ℕ × Lane)
lane_at_place lanes None = None
lane_at_place lanes (Some place) = slice_get lanes place

-- the lane of a parameter is the first of its node and id
pub lane_found : (lanes : List (ℕ × ℕ × Lane)) (node id : ℕ) (place : Option ℕ) → IsLaneOf lanes node id place → option_map laned (lane_at_place lanes place) ≡ lane_in (map laned lanes) node id
lane_found [] node id None is = refl
lane_found [] node id (Some place) is = let within = is.0 in absurd (omega (arith, within))
lane_found (lane ∷ lanes) node id None is =
    lane_found lanes node id None (λ i d lt. is (suc i) d (omega (arith, lt)))
    ∙ ap (λ (b : Bool). cond b (Some (laned lane)) (lane_in (map laned lanes) node id)) (sym (is 0 lane (omega arith)))
lane_found (lane ∷ lanes) node id (Some zero) is = ap (λ (b : Bool). cond b (Some (laned lane)) (lane_in (map laned lanes) node id)) (sym (is.1 lane))
lane_found (lane ∷ lanes) node id (Some (suc place)) is =
    let within = is.0 in
    lane_found lanes node id (Some place) (omega (arith, within), λ d. is.1 d, λ i d lt. is.2 (suc i) d (omega (arith, lt)))
    ∙ ap (λ (b : Bool). cond b (Some (laned lane)) (lane_in (map laned lanes) node id)) (sym (is.2 0 lane (omega arith)))

-- a lane of a parameter's steps has the value that the definition gives it
pub line_of_lane : (found : Option (ℕ × ℕ × Lane)) (steps : ℕ) → ((lane : ℕ × ℕ × Lane) → found ≡ Some lane → lane.2.steps ≡ steps) → option_map (λ lane. value_of lane.2) found ≡ line_in steps (option_map laned found)
line_of_lane None steps same = refl
line_of_lane (Some lane) steps same = ap (λ (n : ℕ). Some (λ (s : ℕ). lane_at n lane.2.grain lane.2.breaks.items s)) (same lane refl)

-- a parameter is found by its id
pub found_at : (params : List ParamInfo) (k : ℕ) (d : ParamInfo) → AreRising params → k < length params → param_in params (slice_index_or params k d).id ≡ Some (slice_index_or params k d)
found_at [] k d rising lt = absurd (omega (arith, lt))
found_at (param ∷ params) zero d rising lt = ap (λ (b : Bool). cond b (Some param) (param_in params param.id)) (eq-eqb param.id param.id refl)
found_at (param ∷ params) (suc k) d rising lt =
    let before = rising 0 (suc k) d (omega arith) lt in
    ap (λ (b : Bool). cond b (Some param) (param_in params (slice_index_or params k d).id)) (ne_eqb param.id (slice_index_or params k d).id (λ e. omega (arith, before, e)))
    ∙ found_at params k d (λ i j e less within. rising (suc i) (suc j) e (omega (arith, less)) (omega (arith, within))) (omega (arith, lt))

-- A session's lanes, as its parameters find them.
use Rattle.std.proofs.Common.{◌≡◌, ◌∙◌, ℕ, suc, ◌<◌, ◌==◌, nat_lt, Bool, true, false, cond, List, [], ◌∷◌, length, map, Option, Some, None, refl, sym, ap, subst, arith}
use Rattle.std.specs.Prelude.{All, not, slice_index_or}
use Rattle.std.specs.List.{slice_get}
use Rattle.std.specs.Option.{option_map}
use Rattle.std.proofs.lemmas.Bool.{and_parts, eqb-true, lt-ltb, true≢false}
use Rattle.std.proofs.lemmas.List.{length-map, get_or-map, get_or_default}
use Rattle.std.proofs.lemmas.Option.{get_or_from_slice_get}
use Rattle.vh_lane.specs.declared.lane.Lane.{Lane}
use Rattle.vh_lane.specs.Kept.{value_of}
use Rattle.vh_params.specs.declared.param.ParamInfo.{ParamInfo}
use Rattle.vh_params.specs.Flags.{is_read_only}
use Rattle.vh_params.specs.Nodes.{nodes_of, node_at, info_in, no_node}
use Rattle.vh_params.specs.Params.{param_in, AreRising}
use Rattle.vh_plugin.specs.Class.{Param, param_of}
use Rattle.vh_session.specs.declared.session.Session.{Session}
use Rattle.vh_session.specs.Entry.{LaneText}
use Rattle.vh_session.specs.Keeps.{IsNodeBehind, IsLaneBehind, is_automated, has_automation}
use Rattle.vh_session.specs.Parts.{laned, HasSteps, steps_in}
use Rattle.vh_session.specs.Rules.{can_automate}
use Rattle.vh_session.proofs.Behind.{behind_all}
use Rattle.vh_meaning.specs.Scene.{lane_in, line_of as line_in}
use Rattle.vh_engine.specs.declared.control.Control.{Control}
use Rattle.vh_engine.specs.Controls.{IsPlaced, line_at}
use Rattle.vh_engine.specs.Plans.{is_lane_of, IsLaneOf, IsFirst, IsFirstBoard}
use Rattle.vh_engine.proofs.Firsts.{lane_at_place, lane_found, line_of_lane, found_at}

-- some element of a list that has one
pub some_of : {A : Type 0} (xs : List A) (k : ℕ) → k < length xs → A
some_of [] k lt = absurd (omega (arith, lt))
some_of (x ∷ xs) k lt = x

pub lane_placed : (lanes : List (ℕ × ℕ × Lane)) (node id : ℕ) (place : Option ℕ) → IsLaneOf lanes node id place → IsPlaced (length lanes) place
lane_placed lanes node id None is = tt
lane_placed lanes node id (Some place) is = is.0

-- the parameters of each node have rising ids
pub rising_at : (session : Session) (node : ℕ) → node < length (nodes_of session.nodes) → AreRising (node_at (nodes_of session.nodes) node).params
rising_at session node lt = behind_all IsNodeBehind (λ n. AreRising n.params) [] (nodes_of session.nodes) (λ before n stands. stands.rising) session.keeps.nodes.1 node no_node lt

-- a parameter is found among the nodes
pub info_at : (session : Session) (node k : ℕ) (d : ParamInfo) → node < length (nodes_of session.nodes) → k < length (node_at (nodes_of session.nodes) node).params
    → info_in (nodes_of session.nodes) node (slice_index_or (node_at (nodes_of session.nodes) node).params k d).id ≡ Some (slice_index_or (node_at (nodes_of session.nodes) node).params k d)
info_at session node k d lt within =
    let nodes = nodes_of session.nodes in
    let params = (node_at nodes node).params in
    ap (λ (t : Bool). cond t (param_in params (slice_index_or params k d).id) None) (lt-ltb node (length nodes) lt)
    ∙ found_at params k d (rising_at session node lt) within

-- what holds of the parameter of a lane
of_lane : {B : Type 0} (f : ℕ → ℕ → B) (node id : ℕ) (lane : ℕ × ℕ × Lane) → is_lane_of node id lane ≡ true → f lane.0 lane.1 ≡ f node id
of_lane f node id lane is = let parts = and_parts _ _ is in ap (λ (n : ℕ). f n lane.1) (eqb-true lane.0 node parts.0) ∙ ap (f node) (eqb-true lane.1 id parts.1)

-- a lane of a parameter has its steps
lane_steps : (session : Session) (node id : ℕ) (param : ParamInfo) (place : Option ℕ) → info_in (nodes_of session.nodes) node id ≡ Some param → IsLaneOf session.lanes.items node id place
    → (lane : ℕ × ℕ × Lane) → lane_at_place session.lanes.items place ≡ Some lane → lane.2.steps ≡ param.steps
lane_steps session node id param None info is lane there = absurd cc
lane_steps session node id param (Some place) info is lane there =
    let lanes = session.lanes.items in
    let here : slice_index_or lanes place lane ≡ lane = get_or_from_slice_get lanes place lane lane there in
    let test : is_lane_of node id lane ≡ true = subst (λ (l : ℕ × ℕ × Lane). is_lane_of node id l ≡ true) here (is.1 lane) in
    let has : HasSteps session.nodes lane = subst (λ (l : ℕ × ℕ × Lane). HasSteps session.nodes l) here (session.stepped place lane is.0) in
    has ∙ ap steps_in (of_lane (info_in (nodes_of session.nodes)) node id lane test ∙ info)

line_found : (lanes : List (ℕ × ℕ × Lane)) (place : Option ℕ) → line_at lanes place ≡ option_map (λ lane. value_of lane.2) (lane_at_place lanes place)
line_found lanes None = refl
line_found lanes (Some place) = refl

-- a parameter follows the lane that the scene gives it
pub line_first : (session : Session) (node k : ℕ) (d : ParamInfo) (place : Option ℕ) → node < length (nodes_of session.nodes) → k < length (node_at (nodes_of session.nodes) node).params
    → IsLaneOf session.lanes.items node (slice_index_or (node_at (nodes_of session.nodes) node).params k d).id place
    → line_at session.lanes.items place
    ≡ line_in (slice_index_or (node_at (nodes_of session.nodes) node).params k d).steps (lane_in (map laned session.lanes.items) node (slice_index_or (node_at (nodes_of session.nodes) node).params k d).id)
line_first session node k d place lt within is =
    let lanes = session.lanes.items in
    let param = slice_index_or (node_at (nodes_of session.nodes) node).params k d in
    line_found lanes place
    ∙ line_of_lane (lane_at_place lanes place) param.steps (lane_steps session node param.id param place (info_at session node k d lt within) is)
    ∙ ap (line_in param.steps) (lane_found lanes node param.id place is)

-- lanes are on writable parameters alone
automated : (session : Session) (i : ℕ) (lane : ℕ × ℕ × Lane) → i < length session.lanes.items → has_automation (nodes_of session.nodes) (slice_index_or session.lanes.items i lane).0 (slice_index_or session.lanes.items i lane).1 ≡ true
automated session i lane lt =
    let lanes = session.lanes.items in
    let nodes = nodes_of session.nodes in
    let long = length-map lanes laned in
    subst (λ (l : LaneText). has_automation nodes l.node l.id ≡ true) (get_or-map laned lanes i lane (laned lane) lt)
    (behind_all (IsLaneBehind nodes) (λ l. has_automation nodes l.node l.id ≡ true) [] (map laned lanes) (λ before l stands. stands.param) session.keeps.lanes i (laned lane) (omega (arith, lt, long)))

shown_free : (session : Session) (node id : ℕ) (param : ParamInfo) (place : Option ℕ) → info_in (nodes_of session.nodes) node id ≡ Some param → is_read_only param.flags ≡ true → IsLaneOf session.lanes.items node id place → place ≡ None
shown_free session node id param None info shown is = refl
shown_free session node id param (Some place) info shown is =
    let lanes = session.lanes.items in
    let nodes = nodes_of session.nodes in
    let lane = some_of lanes place is.0 in
    let has : is_automated (Some param) ≡ true = ap is_automated (sym info) ∙ sym (of_lane (has_automation nodes) node id (slice_index_or lanes place lane) (is.1 lane)) ∙ automated session place lane is.0 in
    let writable : not (is_read_only param.flags) ≡ true = (and_parts (not (is_read_only param.flags)) (can_automate param) has).0 in
    absurd (true≢false (sym writable ∙ ap not shown))

-- a read-only parameter has no lane
pub still_first : (session : Session) (node k : ℕ) (d : ParamInfo) (place : Option ℕ) → node < length (nodes_of session.nodes) → k < length (node_at (nodes_of session.nodes) node).params
    → is_read_only (slice_index_or (node_at (nodes_of session.nodes) node).params k d).flags ≡ true
    → IsLaneOf session.lanes.items node (slice_index_or (node_at (nodes_of session.nodes) node).params k d).id place → place ≡ None
still_first session node k d place lt within shown is =
    let param = slice_index_or (node_at (nodes_of session.nodes) node).params k d in
    shown_free session node param.id param place (info_at session node k d lt within) shown is

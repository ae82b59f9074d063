-- A parameter's place, and its lane.
use Rattle.std.proofs.Common.{◌≡◌, ◌∙◌, ℕ, zero, suc, ◌+◌, ◌<◌, ◌≤◌, Bool, true, false, not, ◌&&◌, ◌==◌, cond, nat_lt, List, [], ◌∷◌, length, map, get_or, take, Option, Some, None, is_some, refl, sym, ap, subst, arith}
use Rattle.std.specs.Prelude.{All, IsSome, position}
use Rattle.std.specs.List.{find, position_or_len}
use Rattle.std.proofs.lemmas.Bool.{eqb-true, and_parts, ltb-true, lt-ltb, true≢false}
use Rattle.std.proofs.lemmas.List.Recursion.{found_at}
use Rattle.std.proofs.lemmas.List.Sums.{sum_by_more, sum_by-take-le}
use Rattle.vh_lane.specs.declared.lane.Lane.{Lane}
use Rattle.vh_lane.specs.Kept.{value_of as lane_value}
use Rattle.vh_params.specs.declared.param.ParamInfo.{ParamInfo}
use Rattle.vh_params.specs.Nodes.{Node, no_node, node_at, info_in}
use Rattle.vh_session.specs.declared.session.Session.{Session}
use Rattle.vh_session.specs.Entry.{LaneText}
use Rattle.vh_session.specs.Names.{content_of}
use Rattle.vh_session.specs.Parts.{laned, steps_in, HasSteps}
use Rattle.vh_meaning.specs.Scene.{lane_in, line_of}
use Rattle.vh_legal.specs.Values.{has_id, param_count, place_in, place_of, line_in}

some_same : {A : Type 0} (x y : A) → Some x ≡ Some y → x ≡ y
some_same x y is = cc

no_some : {A : Type 0} (x : A) → Some x ≡ None → ⊥
no_some x is = cc

abbrev IsAtPlace : ℕ → List ParamInfo → ℕ → ParamInfo → Type 0
IsAtPlace id params place info = (place < length params) × ((d : ParamInfo) → get_or params place d ≡ info) × (info.id ≡ id)

found_first : (id : ℕ) (params : List ParamInfo) (info : ParamInfo) → Some info ≡ find (has_id id) params → IsAtPlace id params (position_or_len (has_id id) params) info
found_first id [] info is = absurd (no_some info is)
found_first id (param ∷ params) info is =
    let place = position_or_len (has_id id) params in
    elim (has_id id param) as (λ t. has_id id param ≡ t → Some info ≡ cond t (Some param) (find (has_id id) params) → IsAtPlace id (param ∷ params) (cond (not t) (1 + place) 0) info) [
      | true ↦ λ test has. let same : param ≡ info = some_same param info (sym has) in (omega arith, λ d. same, ap (λ (p : ParamInfo). p.id) (sym same) ∙ eqb-true param.id id test)
      | false ↦ λ test has.
          let rest = found_first id params info has in
          let next : 1 + place ≡ suc place = omega arith in
          (omega (arith, rest.0), λ d. ap (λ n. get_or (param ∷ params) n d) next ∙ rest.1 d, rest.2)
    ] refl is

-- the parameter that a table of nodes tells for an id
pub record IsTold (nodes : List Node) (node id : ℕ) (info : ParamInfo) : Type 0 where
  pub node_is : node < length nodes
  pub within : place_in nodes node id < length (node_at nodes node).params
  pub at : (d : ParamInfo) → get_or (node_at nodes node).params (place_in nodes node id) d ≡ info
  pub id_is : info.id ≡ id

pub told : (nodes : List Node) (node id : ℕ) (info : ParamInfo) → Some info ≡ info_in nodes node id → IsTold nodes node id info
told nodes node id info is =
    let params = (node_at nodes node).params in
    elim (nat_lt node (length nodes)) as (λ t. nat_lt node (length nodes) ≡ t → Some info ≡ cond t (find (has_id id) params) None → IsTold nodes node id info) [
      | true ↦ λ test has. let first = found_first id params info has in record { node_is = ltb-true node (length nodes) test; within = first.0; at = first.1; id_is = first.2 }
      | false ↦ λ test has. absurd (no_some info has)
    ] refl is

pub info_is : (given : Option ParamInfo) → IsSome given → (info : ParamInfo) × (Some info ≡ given)
info_is None there = absurd (true≢false (sym there))
info_is (Some info) there = (info, refl)

-- a node's parameters stand among all
pub node_within : (nodes : List Node) (node : ℕ) → node < length nodes → param_count (take node nodes) + length (node_at nodes node).params ≤ param_count nodes
node_within nodes node there =
    let more : param_count (take (node + 1) nodes) ≡ param_count (take node nodes) + length (node_at nodes node).params = sum_by_more (λ (n : Node). length n.params) nodes node no_node there in
    let most : param_count (take (node + 1) nodes) ≤ param_count nodes = sum_by-take-le (λ (n : Node). length n.params) nodes (node + 1) in
    omega (arith, more, most)

-- its place is there, among its node's parameters and among all
pub place_within : (nodes : List Node) (node id : ℕ) → IsSome (info_in nodes node id) → (node < length nodes) × (place_in nodes node id < length (node_at nodes node).params) × (place_of nodes node id < param_count nodes)
place_within nodes node id there =
    let info = info_is (info_in nodes node id) there in
    let is = told nodes node id info.0 info.1 in
    let most = node_within nodes node is.node_is in
    (is.node_is, is.within, omega (arith, is.within, most))

-- so its place is found
pub place_found : (nodes : List Node) (node id place : ℕ) → IsSome (info_in nodes node id) → position (has_id id) (node_at nodes node).params ≡ Some place → place ≡ place_in nodes node id
place_found nodes node id place there is =
    let within = place_within nodes node id there in
    let here = place_in nodes node id in
    some_same place here (sym is ∙ ap (λ t. cond t (Some here) None) (lt-ltb here (length (node_at nodes node).params) within.1))

pub place_there : (nodes : List Node) (node id : ℕ) → IsSome (info_in nodes node id) → IsSome (position (has_id id) (node_at nodes node).params)
place_there nodes node id there =
    let within = place_within nodes node id there in
    let here = place_in nodes node id in
    ap (λ t. is_some (cond t (Some here) None)) (lt-ltb here (length (node_at nodes node).params) within.1)

-- a node's lane among a session's lanes

abbrev pub is_lane : ℕ → ℕ → ℕ × ℕ × Lane → Bool
is_lane node id lane = (lane.0 == node) && (lane.1 == id)

abbrev some_laned : ℕ × ℕ × Lane → Option LaneText
some_laned lane = Some (laned lane)

pub lane_found : (session : Session) (node id i : ℕ) (d : ℕ × ℕ × Lane) → i < length session.lanes.items
    → ((k : ℕ) → k < i → is_lane node id (get_or session.lanes.items k d) ≡ false) → is_lane node id (get_or session.lanes.items i d) ≡ true
    → line_in (Some (get_or session.lanes.items i d).2) ≡ line_of (steps_in (info_in (content_of session).nodes node id)) (lane_in (content_of session).lanes node id)
lane_found session node id i d within before here =
    let lanes = session.lanes.items in
    let lane = get_or lanes i d in
    let nodes = (content_of session).nodes in
    let at : lane_in (map laned lanes) node id ≡ Some (laned lane) = found_at (λ (ls : List (ℕ × ℕ × Lane)). lane_in (map laned ls) node id) (is_lane node id) some_laned None refl (λ _ _. refl) lanes i d within before here in
    let both = and_parts (lane.0 == node) (lane.1 == id) here in
    let steps : lane.2.steps ≡ steps_in (info_in nodes node id) =
    session.stepped i d within ∙ ap (λ n. steps_in (info_in nodes n lane.1)) (eqb-true lane.0 node both.0) ∙ ap (λ n. steps_in (info_in nodes node n)) (eqb-true lane.1 id both.1) in
    ap (λ n. line_of n (Some (laned lane))) steps ∙ ap (line_of (steps_in (info_in nodes node id))) (sym at)

nowhere : (node id : ℕ) (lanes : List (ℕ × ℕ × Lane)) → ((k : ℕ) (d : ℕ × ℕ × Lane) → k < length lanes → is_lane node id (get_or lanes k d) ≡ false) → lane_in (map laned lanes) node id ≡ None
nowhere node id [] none = refl
nowhere node id (lane ∷ lanes) none =
    ap (λ t. cond t (Some (laned lane)) (lane_in (map laned lanes) node id)) (none 0 lane (omega arith)) ∙ nowhere node id lanes (λ k d lt. none (suc k) d (omega (arith, lt)))

pub lane_nowhere : (session : Session) (node id : ℕ) → ((k : ℕ) (d : ℕ × ℕ × Lane) → k < length session.lanes.items → is_lane node id (get_or session.lanes.items k d) ≡ false)
    → line_in None ≡ line_of (steps_in (info_in (content_of session).nodes node id)) (lane_in (content_of session).lanes node id)
lane_nowhere session node id none =
    let nodes = (content_of session).nodes in
    ap (line_of (steps_in (info_in nodes node id))) (sym (nowhere node id session.lanes.items none))

-- The lanes of a number.
use Rattle.std.proofs.Common.{◌≡◌, ◌∙◌, ℕ, zero, suc, ◌*◌, ◌^◌, ◌/◌, ◌<◌, ◌≤◌, ◌==◌, Bool, true, false, cond, List, [], ◌∷◌, ◌++◌, length, get_or, Some, refl, sym, ap, subst, true≢false, arith}
use Rattle.std.specs.Prelude.{All, ◌&&◌, not, slice_index}
use Rattle.vh_params.specs.Flags.{is_read_only, is_automatable}
use Rattle.std.proofs.Math.Nat.{mod-lt}
use Rattle.std.proofs.lemmas.Bool.{ne_eqb}
use Rattle.std.proofs.lemmas.List.{length-append, append-nil}
use Rattle.std.proofs.lemmas.List.Elements.{All-nil, All-push}
use Rattle.std.proofs.lemmas.List.Folds.{list_any_none}
use Rattle.vh_lane.specs.Values.{AreBreaks}
use Rattle.vh_params.specs.declared.class.ClassInfo.{ClassInfo}
use Rattle.vh_params.specs.declared.param.ParamInfo.{ParamInfo}
use Rattle.vh_params.specs.Nodes.{Node}
use Rattle.vh_session.specs.Entry.{LaneText}
use Rattle.vh_session.specs.Keeps.{EachBehind, IsLaneBehind, can_set, is_settable, has_automation, is_automated}
use Rattle.vh_session.proofs.Behind.{behind_more}
use Rattle.vh_text.specs.Numbers.{is_within}
use Rattle.vh_gen.specs.Draws.{draw, behind, drawn_value}
use Rattle.vh_gen.specs.Gestures.{is_meter}
use Rattle.vh_gen.specs.Known.{BeginsBuiltIn}
use Rattle.vh_gen.specs.Lanes.{breaks_from, lane_from, lane_state, lanes_to}
use Rattle.vh_gen.specs.Nodes.{nodes_of}
use Rattle.vh_gen.proofs.Named.{first_info}

value_within : (state place : ℕ) → drawn_value state place ≤ 2 ^ 24
value_within state place =
    let below : draw state place 65536 < 65536 = mod-lt (behind (suc place) state / 2 ^ 16) (omega arith) in
    omega (arith, below)

pub are_breaks : (state : ℕ) → AreBreaks (breaks_from state)
are_breaks state = record {
  some = omega arith;
  most = omega arith;
  rise = λ i j d before lt. rises i j d before lt;
  within = λ i d lt. value_at i d lt;
} where
  at : (i : ℕ) (d : ℕ × ℕ) → i < 4 → (get_or (breaks_from state) i d).0 ≡ 16384 * i
  at zero d lt = refl
  at (suc zero) d lt = refl
  at (suc (suc zero)) d lt = refl
  at (suc (suc (suc zero))) d lt = refl
  at (suc (suc (suc (suc i)))) d lt = absurd (omega (arith, lt))

  rises : (i j : ℕ) (d : ℕ × ℕ) → i < j → j < 4 → (get_or (breaks_from state) i d).0 < (get_or (breaks_from state) j d).0
  rises i j d before lt = let a = at i d (omega (arith, before, lt)) in let b = at j d lt in omega (arith, a, b, before)

  value_at : (i : ℕ) (d : ℕ × ℕ) → i < 4 → (get_or (breaks_from state) i d).1 ≤ 2 ^ 24
  value_at zero d lt = value_within state 0
  value_at (suc zero) d lt = value_within state 1
  value_at (suc (suc zero)) d lt = value_within state 2
  value_at (suc (suc (suc zero))) d lt = value_within state 3
  value_at (suc (suc (suc (suc i)))) d lt = absurd (omega (arith, lt))

breaks_early : (state : ℕ) (i : ℕ) (d : ℕ × ℕ) → i < 4 → is_within 0 16777216 (get_or (breaks_from state) i d).0 ≡ true
breaks_early state zero d lt = refl
breaks_early state (suc zero) d lt = refl
breaks_early state (suc (suc zero)) d lt = refl
breaks_early state (suc (suc (suc zero))) d lt = refl
breaks_early state (suc (suc (suc (suc i)))) d lt = absurd (omega (arith, lt))

-- lanes are of nodes before, and there is no more than one a node
lanes_before : (nodes : List Node) (state n : ℕ) → All (λ lane. lane.node < n) (lanes_to nodes state n) × (length (lanes_to nodes state n) ≤ n)
lanes_before nodes state zero = (All-nil (λ (lane : LaneText). lane.node < 0), omega arith)
lanes_before nodes state (suc n) =
    let before = lanes_before nodes state n in
    let lanes : List LaneText = lanes_to nodes state n in
    let lane : LaneText = lane_from (lane_state nodes state n) n in
    let few = before.1 in
    let later : All (λ (l : LaneText). l.node < suc n) lanes = λ k d lt. let low = before.0 k d lt in omega (arith, low) in
    elim (can_set nodes n 0) as (λ b. All (λ (l : LaneText). l.node < suc n) (lanes ++ cond b (lane ∷ []) []) × (length (lanes ++ cond b (lane ∷ []) []) ≤ suc n)) [
      | true ↦ (All-push (λ (l : LaneText). l.node < suc n) lanes lane later (omega arith), (let long = length-append lanes (lane ∷ []) in omega (arith, long, few)))
      | false ↦ (subst (λ l. All (λ (x : LaneText). x.node < suc n) l) (sym (append-nil lanes)) later, (let long = length-append {A = LaneText} lanes [] in omega (arith, long, few)))
    ]

pub few_lanes : (nodes : List Node) (state n : ℕ) → length (lanes_to nodes state n) ≤ n
few_lanes nodes state n = (lanes_before nodes state n).1

abbrev flag_settable : ℕ → Bool
flag_settable flags = not (is_read_only flags)

abbrev flag_automated : ℕ → Bool
flag_automated flags = not (is_read_only flags) && is_automatable flags

automated : (param : ParamInfo) (b : Bool) → param.flags ≡ cond b 2 1 → is_settable (Some param) ≡ true → is_automated (Some param) ≡ true
automated param true flags set = let e : is_settable (Some param) ≡ false = ap (λ f. flag_settable f) flags in absurd (true≢false (sym set ∙ e))
automated param false flags set = ap (λ f. flag_automated f) flags

-- a first parameter that can be set can be automated
pub set_automated : (known : List ClassInfo) (kinds : List ℕ) → BeginsBuiltIn known → (node : ℕ) → node < length kinds → slice_index kinds node < 8
    → can_set (nodes_of known kinds) node 0 ≡ true → has_automation (nodes_of known kinds) node 0 ≡ true
set_automated known kinds begins node lt below set =
    let first = first_info known kinds begins node lt below in
    ap is_automated first.1 ∙ automated first.0 (is_meter (slice_index kinds node)) first.2 (ap is_settable (sym first.1) ∙ set)

lane_stands : (nodes : List Node) (state n : ℕ) → has_automation nodes n 0 ≡ true → IsLaneBehind nodes (lanes_to nodes state n) (lane_from (lane_state nodes state n) n)
lane_stands nodes state n auto = record {
  param = auto;
  id = refl;
  new = list_any_none (λ (lane : LaneText). (lane.node == n) && (lane.id == 0)) (lanes_to nodes state n)
      (λ k d lt. let low = (lanes_before nodes state n).0 k d lt in ap (λ b. b && ((get_or (lanes_to nodes state n) k d).id == 0)) (ne_eqb (get_or (lanes_to nodes state n) k d).node n (λ same. omega (arith, same, low))));
  grain = refl;
  breaks = are_breaks (lane_state nodes state n);
  samples = λ k d lt. breaks_early (lane_state nodes state n) k d lt;
}

pub are_lanes : (known : List ClassInfo) (kinds : List ℕ) → BeginsBuiltIn known → All (λ kind. kind < 8) kinds → (state n : ℕ) → n ≤ length kinds → EachBehind (IsLaneBehind (nodes_of known kinds)) [] (lanes_to (nodes_of known kinds) state n)
are_lanes known kinds begins each state zero le = tt
are_lanes known kinds begins each state (suc n) le =
    let nodes : List Node = nodes_of known kinds in
    let lanes : List LaneText = lanes_to nodes state n in
    let lane : LaneText = lane_from (lane_state nodes state n) n in
    let before = are_lanes known kinds begins each state n (omega (arith, le)) in
    elim (can_set nodes n 0) as (λ b. can_set nodes n 0 ≡ b → EachBehind (IsLaneBehind nodes) [] (lanes ++ cond b (lane ∷ []) [])) [
      | true ↦ λ set. behind_more (IsLaneBehind nodes) [] lanes lane before (lane_stands nodes state n (set_automated known kinds begins n (omega (arith, le)) (each n 0 (omega (arith, le))) set))
      | false ↦ λ set. subst (EachBehind (IsLaneBehind nodes) []) (sym (append-nil lanes)) before
    ] refl

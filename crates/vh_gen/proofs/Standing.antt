-- The session of a number keeps what a session keeps, and stands under its classes.
use Rattle.std.proofs.Common.{◌≡◌, ◌∙◌, ℕ, zero, suc, ◌/◌, ◌^◌, ◌<◌, ◌≤◌, true, List, [], length, get_or, refl, sym, subst, true≢false, arith}
use Rattle.std.specs.Prelude.{All}
use Rattle.std.proofs.Math.Nat.{mod-lt}
use Rattle.std.proofs.lemmas.List.FromFn.{length-map-range_with_len, get_or-map-range_with_len}
use Rattle.vh_params.specs.declared.class.ClassInfo.{ClassInfo}
use Rattle.vh_params.specs.Classes.{NamesDiffer}
use Rattle.vh_session.specs.Keeps.{EachBehind, IsWireBehind, IsSession, StandsUnder}
use Rattle.vh_text.specs.Numbers.{is_within}
use Rattle.vh_gen.specs.Draws.{behind, draw}
use Rattle.vh_gen.specs.Generated.{frame_total, session_of, sizes}
use Rattle.vh_gen.specs.Known.{BeginsBuiltIn}
use Rattle.vh_gen.specs.Nodes.{node_total, kind_at, node_state, kinds_of, node_of, nodes_of, nodes_end, wires_of}
use Rattle.vh_gen.proofs.Named.{are_nodes, have_classes}
use Rattle.vh_gen.proofs.Wired.{are_wires, wires_long, none_aux, no_cycle}
use Rattle.vh_gen.proofs.Laned.{are_lanes, few_lanes}

pub few_nodes : (number : ℕ) → (8 ≤ node_total number) × (node_total number ≤ 32)
few_nodes number = let below : draw number 0 25 < 25 = mod-lt (behind 1 number / 2 ^ 16) (omega arith) in (omega arith, omega (arith, below))

pub kinds_long : (number : ℕ) → length (kinds_of number) ≡ node_total number
kinds_long number = length-map-range_with_len (kind_at (behind 1 number)) 0 (node_total number)

pub few_kinds : (number : ℕ) → All (λ kind. kind < 8) (kinds_of number)
few_kinds number k d lt =
    let long = kinds_long number in
    let at : get_or (kinds_of number) k d ≡ kind_at (behind 1 number) k = get_or-map-range_with_len (kind_at (behind 1 number)) 0 (node_total number) k k d (omega (arith, lt, long)) (omega arith) in
    let below : kind_at (behind 1 number) k < 8 = mod-lt (behind 1 (node_state (behind 1 number) k) / 2 ^ 16) (omega arith) in
    omega (arith, at, below)

pub nodes_long : (known : List ClassInfo) (number : ℕ) → length (nodes_of known (kinds_of number)) ≡ node_total number
nodes_long known number = length-map-range_with_len (node_of known (kinds_of number)) 0 (length (kinds_of number)) ∙ kinds_long number

sized : (k d : ℕ) → k < 4 → is_within 1 8192 (get_or sizes k d) ≡ true
sized zero d lt = refl
sized (suc zero) d lt = refl
sized (suc (suc zero)) d lt = refl
sized (suc (suc (suc zero))) d lt = refl
sized (suc (suc (suc (suc k)))) d lt = absurd (omega (arith, lt))

pub is_session : (known : List ClassInfo) (number : ℕ) → BeginsBuiltIn known → IsSession (session_of known number)
unfolding frame_total
is_session known number begins =
    let few = few_nodes number in
    let least = few.0 in
    let most = few.1 in
    let long = kinds_long number in
    let count = nodes_long known number in
    let wired = wires_long (behind 1 number) (node_total number) in
    let laned = few_lanes (nodes_of known (kinds_of number)) (nodes_end number) (length (nodes_of known (kinds_of number))) in
    record {
      frames = refl;
      channels = refl;
      bits = refl;
      pattern = (omega arith, omega arith, λ k d lt. sized k d lt);
      nodes = are_nodes known (kinds_of number) begins (omega (arith, most, long)) (few_kinds number);
      presets = tt;
      firsts = tt;
      few_wires = omega (arith, wired, most);
      wires = subst (λ n. EachBehind (IsWireBehind n) [] (wires_of number)) (sym count) (are_wires (behind 1 number) (node_total number));
      free = λ node. no_cycle (behind 1 number) (node_total number) node;
      few_lanes = omega (arith, laned, count, most);
      lanes = are_lanes known (kinds_of number) begins (few_kinds number) (nodes_end number) (length (nodes_of known (kinds_of number))) (omega (arith, count, long));
      scripts = record { few = omega arith; short = omega arith; words = λ k d lt. absurd (omega (arith, lt)) };
    }

pub stands_under : (known : List ClassInfo) (number : ℕ) → BeginsBuiltIn known → NamesDiffer known → StandsUnder known (session_of known number)
stands_under known number begins differ = record {
  classes = have_classes known (kinds_of number) begins differ (few_kinds number);
  buses = λ k d lt aux. absurd (true≢false (sym aux ∙ none_aux (behind 1 number) (node_total number) k d lt));
}

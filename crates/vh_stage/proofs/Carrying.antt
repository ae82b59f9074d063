-- What a session's parameters allow, an engine's block may carry.
use Rattle.std.proofs.Common.{◌≡◌, ◌∙◌, ℕ, ◌+◌, ◌<◌, ◌≤◌, ◌==◌, Bool, true, false, cond, List, [], ◌∷◌, length, map, None, Some, refl, sym, ap, subst, arith}
use Rattle.std.specs.Prelude.{slice_index_or, not, ◌&&◌, ◌||◌}
use Rattle.std.specs.List.{cons_option}
use Rattle.std.proofs.lemmas.Bool.{lt-ltb, true≢false}
use Rattle.vh_journal.specs.declared.entry.Entry.{Entry}
use Rattle.vh_meaning.specs.Laws.{IsToNode}
use Rattle.vh_meaning.specs.Rendering.{message_sample, stops}
use Rattle.vh_meaning.specs.Scene.{Scene, node_count, params_at}
use Rattle.vh_params.specs.declared.command.Command.{Command}
use Rattle.vh_params.specs.declared.command.Command.TheVariants.{Begin, Perform, End, Tell}
use Rattle.vh_params.specs.declared.param.ParamInfo.{ParamInfo}
use Rattle.vh_params.specs.Flags.{is_writable}
use Rattle.vh_params.specs.Nodes.{Node, node_at}
use Rattle.vh_params.specs.Params.{param_in}
use Rattle.vh_plugin.specs.Class.{Class, Param, param_of, has_writable}
use Rattle.vh_session.specs.Keeps.{can_set, is_settable}
use Rattle.vh_session.proofs.PartsNamed.{node_there}
use Rattle.vh_engine.specs.Kept.{Kept, scene_in, IsFor, MayCarry}
use Rattle.vh_stage.specs.Carried.{IsOn, AreOn}
use Rattle.vh_stage.specs.Playing.{HasClasses, AreAt}

twice_not : (w rest : Bool) → not (not w) ≡ true → ((true && w) || rest) ≡ true
twice_not true rest is = refl
twice_not false rest is = absurd (true≢false (sym is))

-- a parameter that can be set is writable
writable : (params : List ParamInfo) (id : ℕ) → is_settable (param_in params id) ≡ true → has_writable (map param_of params) id ≡ true
writable [] id set = set
writable (param ∷ params) id set = elim (param.id == id) as (λ t. is_settable (cond t (Some param) (param_in params id)) ≡ true → ((t && is_writable param.flags) || has_writable (map param_of params) id) ≡ true) [
  | true ↦ λ here. twice_not (is_writable param.flags) (has_writable (map param_of params) id) here
  | false ↦ λ here. writable params id here
] set

-- a scene's nodes have the parameters that a session tells of
record Tells (scene : Scene) (nodes : List Node) : Type 0 where
  count : node_count scene ≡ length nodes
  params : (node : ℕ) → node < length nodes → params_at scene node ≡ map param_of (node_at nodes node).params

set_in : (scene : Scene) (nodes : List Node) → Tells scene nodes → (node id : ℕ) → can_set nodes node id ≡ true → (node < node_count scene) × (has_writable (params_at scene node) id ≡ true)
set_in scene nodes tells node id set =
    let lt = node_there is_settable nodes node id refl set in
    let count = tells.count in
    let params = (node_at nodes node).params in
    let here : is_settable (param_in params id) ≡ true = sym (ap (λ (t : Bool). is_settable (cond t (param_in params id) None)) (lt-ltb node (length nodes) lt)) ∙ set in
    (omega (arith, lt, count), ap (λ (ps : List Param). has_writable ps id) (tells.params node lt) ∙ writable params id here)

is_for : (scene : Scene) (nodes : List Node) → Tells scene nodes → (command : Command) → IsOn nodes command → IsFor scene command
is_for scene nodes tells (Begin node id) on = set_in scene nodes tells node id on
is_for scene nodes tells (Perform node id value) on = let set = set_in scene nodes tells node id on.0 in (set.0, set.1, on.1)
is_for scene nodes tells (End node id) on = set_in scene nodes tells node id on
is_for scene nodes tells (Tell node words) on = let count = tells.count in omega (arith, on, count)

to_node : (scene : Scene) (nodes : List Node) → Tells scene nodes → (command : Command) → IsOn nodes command → IsToNode scene command
to_node scene nodes tells command on = λ node words is.
    let lt : node < length nodes = subst (λ (c : Command). IsOn nodes c) is on in
    let count = tells.count in
    omega (arith, lt, count)

pub few_stops : (entries : List Entry) → length (stops entries) ≤ length entries
few_stops [] = omega arith
few_stops (entry ∷ entries) =
    let rest = few_stops entries in
    elim (message_sample entry.sample entry.command) as (λ o. length (cons_option o (stops entries)) ≤ length (entry ∷ entries)) [
      | None ↦ omega (arith, rest)
      | Some sample ↦ omega (arith, rest)
    ]

message_at : (sample t : ℕ) (command : Command) → message_sample sample command ≡ Some t → t ≡ sample
message_at sample t (Begin node id) is = absurd cc
message_at sample t (Perform node id value) is = absurd cc
message_at sample t (End node id) is = absurd cc
message_at sample t (Tell node words) is = cc

-- A block may carry entries at its first sample that are on the session's parameters.
pub may_carry : (class_of : ℕ → Class) (kept : Kept) (nodes : List Node) (n : ℕ) (entries : List Entry) → 1 ≤ n → HasClasses class_of kept → kept.session.nodes ≡ nodes
    → AreOn nodes entries → AreAt kept.at entries → length entries ≤ kept.room → MayCarry (scene_in class_of kept) kept.at (kept.at + n) kept.room entries
may_carry class_of kept nodes n entries some has same on at few =
    let scene = scene_in class_of kept in
    let short = few_stops entries in
    let tells : Tells scene nodes = subst (λ (ns : List Node). Tells scene ns) same (record { count = has.count; params = has.params }) in
    record {
      next = record {
        rising = λ i j d less below. let one = at i d (omega (arith, less, below)) in let other = at j d below in omega (arith, one, other);
        from = λ k d below. let is = at k d below in omega (arith, is);
        messages = λ k d below t is. message_at (slice_index_or entries k d).sample t (slice_index_or entries k d).command is ∙ at k d below;
        nodes = λ k d below. to_node scene nodes tells (slice_index_or entries k d).command (on k d below);
      };
      within = λ k d below. let is = at k d below in omega (arith, is, some);
      commands = λ k d below. is_for scene nodes tells (slice_index_or entries k d).command (on k d below);
      few = omega (arith, short, few);
    }

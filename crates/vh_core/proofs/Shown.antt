-- As many values are seen at every moment.
use Rattle.std.proofs.Common.{◌≡◌, ◌∙◌, ℕ, zero, suc, ◌≤◌, true, false, cond, List, [], ◌∷◌, length, drop, get_or, refl, ap, arith}
use Rattle.std.specs.List.{range_with_len}
use Rattle.std.proofs.lemmas.List.{length-take}
use Rattle.vh_plugin.specs.Class.{Param, Class, State}
use Rattle.vh_journal.specs.declared.entry.Entry.{Entry}
use Rattle.vh_meaning.specs.Scene.{Scene, node_count, class_at, params_at, firsts_at, by_node}
use Rattle.vh_meaning.specs.Values.{values_of, values_at}
use Rattle.vh_meaning.specs.World.{world, after}
use Rattle.vh_meaning.specs.Rendering.{seen_of, seen_at, of_all, seen_before, last_values}
use Rattle.vh_core.specs.State.{Setting, scene_in, seen, at_first}
use Rattle.vh_core.specs.State as machine
use Rattle.vh_core.proofs.Lists.{same_long}

pub values_long : (scene : Scene) (h : List Entry) (node : ℕ) (params : List Param) (firsts : List ℕ) (s : ℕ) → length firsts ≤ length params → length (values_of scene h node params firsts s) ≡ length firsts
values_long scene h node [] [] s few = refl
values_long scene h node [] (first ∷ firsts) s few = absurd (omega (arith, few))
values_long scene h node (param ∷ params) [] s few = refl
values_long scene h node (param ∷ params) (first ∷ firsts) s few = ap suc (values_long scene h node params firsts s (omega (arith, few)))

seen_long : (class : Class) (state : State) (params : List Param) (values : List ℕ) → length values ≤ length params → length (seen_of class state params values) ≡ length values
seen_long class state [] [] few = refl
seen_long class state [] (value ∷ values) few = absurd (omega (arith, few))
seen_long class state (param ∷ params) [] few = refl
seen_long class state (param ∷ params) (value ∷ values) few = ap suc (seen_long class state params values (omega (arith, few)))

-- a node has no more first values than parameters
few_firsts : (class_of : ℕ → Class) (codes values : List ℕ) (node : ℕ) → length (get_or (by_node class_of codes values) node []) ≤ length (class_of (get_or codes node 0)).params
few_firsts class_of [] values zero = omega arith
few_firsts class_of [] values (suc node) = omega arith
few_firsts class_of (code ∷ codes) values zero = let long = length-take (length (class_of code).params) values in omega (arith, long)
few_firsts class_of (code ∷ codes) values (suc node) = few_firsts class_of codes (drop (length (class_of code).params) values) node

shown_long : (setting : Setting) (h : List Entry) (states : ℕ → State) (s node : ℕ) → length (seen_at (scene_in setting) states (values_at (scene_in setting) h s) node) ≡ length (firsts_at (scene_in setting) node)
shown_long setting h states s node =
    let scene = scene_in setting in
    let few : length (firsts_at scene node) ≤ length (params_at scene node) = few_firsts setting.class_of setting.codes setting.firsts node in
    let values = values_long scene h node (params_at scene node) (firsts_at scene node) s few in
    seen_long (class_at scene node) (states node) (params_at scene node) (values_at scene h s node) (omega (arith, few, values)) ∙ values

pub all_shown : (setting : Setting) (h : List Entry) (states : ℕ → State) (s : ℕ) → length (of_all (scene_in setting) (seen_at (scene_in setting) states (values_at (scene_in setting) h s))) ≡ length (at_first setting)
all_shown setting h states s =
    same_long (seen_at (scene_in setting) states (values_at (scene_in setting) h s)) (firsts_at (scene_in setting)) (shown_long setting h states s) (range_with_len 0 (node_count (scene_in setting)))

before_long : (setting : Setting) (h : List Entry) (pos : ℕ) → length (seen_before (scene_in setting) setting.input h pos) ≡ length (at_first setting)
before_long setting h zero = refl
before_long setting h (suc s) = all_shown setting h (world (scene_in setting) setting.input h (suc s)) s

-- so many values are seen as there were at first
pub seen_each : (setting : Setting) (state : machine.State) → length (seen setting state) ≡ length (at_first setting)
seen_each setting state = elim state.flushed as (λ t.
    length (cond t (last_values (scene_in setting) setting.input state.journal) (seen_before (scene_in setting) setting.input state.journal state.pos)) ≡ length (at_first setting)) [
      | true ↦ all_shown setting state.journal (after (scene_in setting) setting.input state.journal (scene_in setting).length) (scene_in setting).length
      | false ↦ before_long setting state.journal state.pos
    ]

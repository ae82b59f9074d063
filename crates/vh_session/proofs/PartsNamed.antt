-- A session's parts name nodes that are there.
use Rattle.std.proofs.Common.{◌≡◌, ◌∙◌, ℕ, ◌+◌, ◌<◌, Bool, true, false, cond, List, [], ◌∷◌, map, length, get_or, refl, sym, subst, arith, None, Option, nat_lt, true≢false, Vec}
use Rattle.std.specs.Prelude.{All}
use Rattle.std.specs.declared.alloc.Global.{Global}
use Rattle.std.proofs.lemmas.Bool.{ltb-true}
use Rattle.std.proofs.lemmas.List.{length-map, get_or-map}
use Rattle.std.proofs.lemmas.List.Elements.{All-cons}
use Rattle.vh_params.specs.declared.param.ParamInfo.{ParamInfo}
use Rattle.vh_params.specs.Nodes.{Node, node_at, info_in, nodes_of}
use Rattle.vh_params.specs.Params.{param_in}
use Rattle.vh_session.specs.declared.session.Session.{Session}
use Rattle.vh_session.specs.declared.wire.End.{End}
use Rattle.vh_session.specs.declared.wire.End.TheVariants.{In, Out, Node as AtNode}
use Rattle.vh_session.specs.Entry.{LaneText, ScriptWord}
use Rattle.vh_session.specs.Keeps.{ArePresets, is_settable, is_automated, Begins, Ends, IsFirstBehind, IsWireBehind, IsLaneBehind, IsScriptWord}
use Rattle.vh_session.specs.Names.{NamesNodes}
use Rattle.vh_session.specs.Parts.{laned, preset_text}
use Rattle.vh_session.specs.Sound.{EndFits, WireFits}
use Rattle.vh_session.specs.View.{script_word, script_text}
use Rattle.vh_session.proofs.Behind.{behind_all}

-- what holds of what a list is mapped to
all_mapped : {A B : Type 0} (P : B → Type 0) (f : A → B) (xs : List A) → All P (map f xs) → All (λ x. P (f x)) xs
all_mapped P f xs all k d lt = let long = length-map xs f in subst P (get_or-map f xs k d (f d) lt) (all k (f d) (omega (arith, long, lt)))

presets_named : (count least : ℕ) (presets : List (ℕ × Vec ℕ Global)) → ArePresets count least (map preset_text presets) → All (λ preset. preset.0 < count) presets
presets_named count least [] are = λ k d lt. absurd (omega (arith, lt))
presets_named count least (preset ∷ presets) are = All-cons (λ (preset : ℕ × Vec ℕ Global). preset.0 < count) preset presets are.1 (presets_named count (preset.0 + 1) presets are.3)

-- a parameter that has such a property is of a node that is there
pub node_there : (P : Option ParamInfo → Bool) (nodes : List Node) (node id : ℕ) → P None ≡ false → P (info_in nodes node id) ≡ true → node < length nodes
node_there P nodes node id none is = elim (nat_lt node (length nodes)) as (λ t. nat_lt node (length nodes) ≡ t → P (cond t (param_in (node_at nodes node).params id) None) ≡ true → node < length nodes) [
  | true ↦ λ test found. ltb-true node (length nodes) test
  | false ↦ λ test found. absurd (true≢false (sym found ∙ none))
] refl is

begins_there : (count : ℕ) (end : End) → Begins count end → EndFits count end
begins_there count In begins = tt
begins_there count Out begins = tt
begins_there count (AtNode node) begins = begins

ends_there : (count : ℕ) (aux : Bool) (end : End) → Ends count aux end → EndFits count end
ends_there count aux In ends = tt
ends_there count aux Out ends = tt
ends_there count aux (AtNode node) ends = ends

pub names_nodes : (session : Session) → NamesNodes session
names_nodes session =
    let keeps = session.keeps in
    let nodes = nodes_of session.nodes in
    let count = length nodes in
    let long = length-map session.scripts.items script_text in
    let few = keeps.scripts.few in
    let L : LaneText → Type 0 = λ lane. lane.node < count in
    let S : List ScriptWord → Type 0 = λ script. All (IsScriptWord count) script in
    record {
      presets = presets_named count 0 session.presets.items keeps.presets;
      firsts = behind_all (IsFirstBehind nodes) (λ first. first.0 < count) [] session.firsts.items (λ before first stands. node_there is_settable nodes first.0 first.1 refl stands.settable) keeps.firsts;
      wires = behind_all (IsWireBehind count) (λ wire. WireFits count wire) [] session.wires.items (λ before wire stands. (begins_there count wire.from stands.from, ends_there count wire.aux wire.to stands.to)) keeps.wires;
      lanes = all_mapped L laned session.lanes.items (behind_all (IsLaneBehind nodes) L [] (map laned session.lanes.items) (λ before lane stands. node_there is_automated nodes lane.node lane.id refl stands.param) keeps.lanes);
      few = omega (arith, long, few);
      scripts = λ k d lt. all_mapped (IsScriptWord count) script_word (get_or session.scripts.items k d).items (all_mapped S script_text session.scripts.items keeps.scripts.words k d lt);
    }

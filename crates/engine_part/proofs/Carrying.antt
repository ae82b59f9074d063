-- What a session's parameters allow, an engine's block may carry.
use Rattle.std.proofs.Common.{◌≡◌, ◌∙◌, ◌⊎◌, inl, inr, ℕ, ◌+◌, ◌<◌, ◌≤◌, ◌==◌, nat_lt, Bool, true, false, cond, List, [], ◌∷◌, length, map, Option, None, Some, refl, sym, ap, subst, arith}
use Rattle.std.specs.Prelude.{All, slice_index_or, not, ◌&&◌, ◌||◌}
use Rattle.std.specs.List.{cons_option}
use Rattle.std.proofs.lemmas.Bool.{cases_lt, lt-ltb, true≢false}
use Rattle.std.proofs.lemmas.List.{get_or_read}
use Rattle.std.proofs.lemmas.List.Elements.{All-weaker}
use Rattle.vh_journal.specs.declared.entry.Entry.{Entry}
use Rattle.vh_meaning.specs.Laws.{IsToNode}
use Rattle.vh_meaning.specs.Rendering.{message_sample, stops}
use Rattle.vh_meaning.specs.Scene.{Scene, node_count, params_at}
use Rattle.vh_params.specs.declared.command.Command.{Command}
use Rattle.vh_params.specs.declared.command.Command.TheVariants.{Begin, Perform, End, Tell}
use Rattle.vh_params.specs.declared.param.ParamInfo.{ParamInfo}
use Rattle.vh_params.specs.Flags.{is_writable}
use Rattle.vh_params.specs.Nodes.{Node, node_at}
use Rattle.vh_params.specs.Params.{param_in}
use Rattle.vh_plugin.specs.Class.{Class, Param, param_of, has_writable}
use Rattle.vh_session.specs.Keeps.{can_set, is_settable}
use Rattle.vh_session.proofs.PartsNamed.{node_there}
use Rattle.vh_engine.specs.Kept.{Kept, scene_in, IsFor, MayCarry}
use Rattle.engine_part.specs.Carried.{IsOn, IsCarried, AreCarried}
use Rattle.engine_part.specs.Playing.{HasClasses}

twice_not : (w rest : Bool) → not (not w) ≡ true → ((true && w) || rest) ≡ true
twice_not true rest is = refl
twice_not false rest is = absurd (true≢false (sym is))

-- a parameter that can be set is writable
writable : (params : List ParamInfo) (id : ℕ) → is_settable (param_in params id) ≡ true → has_writable (map param_of params) id ≡ true
writable [] id set = set
writable (param ∷ params) id set = elim (param.id == id) as (λ t. is_settable (cond t (Some param) (param_in params id)) ≡ true → ((t && is_writable param.flags) || has_writable (map param_of params) id) ≡ true) [
  | true ↦ λ here. twice_not (is_writable param.flags) (has_writable (map param_of params) id) here
  | false ↦ λ here. writable params id here
] set

-- a scene's nodes have the parameters that a session tells of
record Tells (scene : Scene) (nodes : List Node) : Type 0 where
  count : node_count scene ≡ length nodes
  params : (node : ℕ) → node < length nodes → params_at scene node ≡ map param_of (node_at nodes node).params

set_in : (scene : Scene) (nodes : List Node) → Tells scene nodes → (node id : ℕ) → can_set nodes node id ≡ true → (node < node_count scene) × (has_writable (params_at scene node) id ≡ true)
set_in scene nodes tells node id set =
    let lt = node_there is_settable nodes node id refl set in
    let count = tells.count in
    let params = (node_at nodes node).params in
    let here : is_settable (param_in params id) ≡ true = sym (ap (λ (t : Bool). is_settable (cond t (param_in params id) None)) (lt-ltb node (length nodes) lt)) ∙ set in
    (omega (arith, lt, count), ap (λ (ps : List Param). has_writable ps id) (tells.params node lt) ∙ writable params id here)

is_for : (scene : Scene) (nodes : List Node) → Tells scene nodes → (command : Command) → IsOn nodes command → IsFor scene command
is_for scene nodes tells (Begin node id) on = set_in scene nodes tells node id on
is_for scene nodes tells (Perform node id value) on = let set = set_in scene nodes tells node id on.0 in (set.0, set.1, on.1)
is_for scene nodes tells (End node id) on = set_in scene nodes tells node id on
is_for scene nodes tells (Tell node words) on = let count = tells.count in omega (arith, on, count)

to_node : (scene : Scene) (nodes : List Node) → Tells scene nodes → (command : Command) → IsOn nodes command → IsToNode scene command
to_node scene nodes tells command on = λ node words is.
    let lt : node < length nodes = subst (λ (c : Command). IsOn nodes c) is on in
    let count = tells.count in
    omega (arith, lt, count)

pub few_stops : (entries : List Entry) → length (stops entries) ≤ length entries
few_stops [] = omega arith
few_stops (entry ∷ entries) =
    let rest = few_stops entries in
    elim (message_sample entry.sample entry.command) as (λ o. length (cons_option o (stops entries)) ≤ length (entry ∷ entries)) [
      | None ↦ omega (arith, rest)
      | Some sample ↦ omega (arith, rest)
    ]

-- A block may carry what its session's parameters allow.
pub may_carry : (class_of : ℕ → Class) (kept : Kept) (nodes : List Node) (at past room : ℕ) (entries : List Entry) → HasClasses class_of kept → kept.session.nodes ≡ nodes
    → AreCarried nodes at past entries → length entries ≤ room → MayCarry (scene_in class_of kept) at past room entries
may_carry class_of kept nodes at past room entries has same are few =
    let scene = scene_in class_of kept in
    let short = few_stops entries in
    let tells : Tells scene nodes = subst (λ (ns : List Node). Tells scene ns) same (record { count = has.count; params = has.params }) in
    let Holds = IsCarried nodes at past in
    record {
      next = record {
        rising = are.rising;
        from = All-weaker Holds (λ entry. at ≤ entry.sample) (λ entry one. one.from) entries are.each;
        messages = All-weaker Holds (λ entry. (t : ℕ) → message_sample entry.sample entry.command ≡ Some t → t ≡ at) (λ entry one. one.message) entries are.each;
        nodes = All-weaker Holds (λ entry. IsToNode scene entry.command) (λ entry one. to_node scene nodes tells entry.command one.on) entries are.each;
      };
      within = All-weaker Holds (λ entry. entry.sample < past) (λ entry one. one.within) entries are.each;
      commands = All-weaker Holds (λ entry. IsFor scene entry.command) (λ entry one. is_for scene nodes tells entry.command one.on) entries are.each;
      few = omega (arith, short, few);
    }

-- or no entry
pub none_carried : (class_of : ℕ → Class) (kept : Kept) (at past room : ℕ) (entries : List Entry) → entries ≡ [] → MayCarry (scene_in class_of kept) at past room entries
none_carried class_of kept at past room entries none = subst (λ (l : List Entry). MayCarry (scene_in class_of kept) at past room l) (sym none) (record {
  next = record {
    rising = λ i j d before lt. absurd (omega (arith, lt));
    from = λ k d lt. absurd (omega (arith, lt));
    messages = λ k d lt. absurd (omega (arith, lt));
    nodes = λ k d lt. absurd (omega (arith, lt));
  };
  within = λ k d lt. absurd (omega (arith, lt));
  commands = λ k d lt. absurd (omega (arith, lt));
  few = omega arith;
})

-- the first n entries may be carried, and are of samples up to one
pub record AreFirst (nodes : List Node) (at past last : ℕ) (entries : List Entry) (n : ℕ) : Type 0 where
  pub rising : (i j : ℕ) (d : Entry) → i < j → j < n → (slice_index_or entries i d).sample ≤ (slice_index_or entries j d).sample
  pub below : (i : ℕ) (d : Entry) → i < n → (slice_index_or entries i d).sample ≤ last
  pub each : (i : ℕ) (d : Entry) → i < n → IsCarried nodes at past (slice_index_or entries i d)

pub one_more : (nodes : List Node) (at past last : ℕ) (entries : List Entry) (n : ℕ) (entry : Entry) → n < length entries → entry ≡ slice_index_or entries n entry → last ≤ entry.sample → IsCarried nodes at past entry
    → AreFirst nodes at past last entries n → AreFirst nodes at past entry.sample entries (n + 1)
one_more nodes at past last entries n entry lt is later carried are =
    let here : (k : ℕ) (d : Entry) → k < n + 1 → n ≤ k → entry ≡ slice_index_or entries k d = λ k d less past.
    let same : n ≡ k = omega (arith, less, past) in
    subst (λ (m : ℕ). entry ≡ slice_index_or entries m d) same (get_or_read entries n entry lt is d) in
    record {
      rising = λ i j d before less. elim (cases_lt j n) [
        | inl inside ↦ are.rising i j d before inside
        | inr outside ↦
            let low = are.below i d (omega (arith, before, less, outside)) in
            let its = ap (λ (e : Entry). e.sample) (here j d less outside) in
            omega (arith, low, later, its)
      ];
      below = λ i d less. elim (cases_lt i n) [
        | inl inside ↦ let low = are.below i d inside in omega (arith, low, later)
        | inr outside ↦ let its = ap (λ (e : Entry). e.sample) (here i d less outside) in omega (arith, its)
      ];
      each = λ i d less. elim (cases_lt i n) [
        | inl inside ↦ are.each i d inside
        | inr outside ↦ subst (λ (e : Entry). IsCarried nodes at past e) (here i d less outside) carried
      ];
    }

pub all_carried : (nodes : List Node) (at past last : ℕ) (entries : List Entry) (n : ℕ) → AreFirst nodes at past last entries n → length entries ≤ n → AreCarried nodes at past entries
all_carried nodes at past last entries n are all = record {
  rising = λ i j d before less. are.rising i j d before (omega (arith, less, all));
  each = λ i d less. are.each i d (omega (arith, less, all));
}

-- Entries of a journal are entries that a rendering may carry.
use Rattle.std.proofs.Common.{◌≡◌, ◌∙◌, ℕ, zero, suc, ◌+◌, ◌-◌, ◌<◌, ◌≤◌, true, false, cond, List, [], ◌∷◌, length, map, take, get_or, Some, None, sym, ap, subst, arith}
use Rattle.std.specs.Prelude.{◌==◌, ◌&&◌, ◌||◌, nat_lt}
use Rattle.std.proofs.lemmas.List.{get_or-map, length-map, length-take, get_or-take}
use Rattle.std.proofs.lemmas.Bool.{lt-ltb}
use Rattle.vh_journal.specs.declared.entry.Entry.{Entry}
use Rattle.vh_params.specs.declared.command.Command.{Command}
use Rattle.vh_params.specs.declared.command.Command.TheVariants.{Begin, Perform, End, Tell}
use Rattle.vh_params.specs.declared.param.ParamInfo.{ParamInfo}
use Rattle.vh_params.specs.Nodes.{Node, node_at, info_in}
use Rattle.vh_params.specs.Params.{param_in}
use Rattle.vh_plugin.specs.Class.{param_of, has_writable}
use Rattle.vh_journal_text.specs.Items.{Item, item_of, items_of, node_of, act_of}
use Rattle.vh_journal_text.specs.Keeps.{is_writable, IsSettable, MayStand, IsBehind, AreEntries}
use Rattle.vh_journal_text.specs.Rules.{no_item, last_sample}
use Rattle.vh_meaning.specs.Scene.{Scene, node_count, params_at}
use Rattle.vh_meaning.specs.Rendering.{stops}
use Rattle.vh_engine.specs.Kept.{IsFor}
use Rattle.vh_render.specs.Playing.{MayFollow}

-- the item of an entry
item_at : (entries : List Entry) (i : ℕ) (d : Entry) (e : Item) → i < length entries → get_or (items_of entries) i e ≡ item_of (get_or entries i d)
item_at entries i d e lt = get_or-map item_of entries i d e lt

-- each may stand behind those before it
behind : (nodes : List Node) (most : ℕ) (entries : List Entry) → AreEntries nodes most (items_of entries) → (i : ℕ) (d : Entry) → i < length entries → IsBehind nodes most (take i (items_of entries)) (item_of (get_or entries i d))
behind nodes most entries are i d lt =
    let long = length-map entries item_of in
    subst (λ item. IsBehind nodes most (take i (items_of entries)) item) (item_at entries i d (item_of d) lt) (are i (item_of d) (omega (arith, lt, long)))

-- samples never fall
next_rises : (nodes : List Node) (most : ℕ) (entries : List Entry) → AreEntries nodes most (items_of entries) → (j : ℕ) (d : Entry) → suc j < length entries → (get_or entries j d).sample ≤ (get_or entries (suc j) d).sample
next_rises nodes most entries are j d lt =
    let items : List Item = items_of entries in
    let long = length-map entries item_of in
    let count : length (take (suc j) items) ≡ suc j = omega (arith, length-take (suc j) items, long, lt) in
    let last : length (take (suc j) items) - 1 ≡ j = omega (arith, count) in
    let before : last_sample (take (suc j) items) ≡ (get_or entries j d).sample =
    ap (λ n. (get_or (take (suc j) items) n no_item).sample) last
    ∙ ap (λ (item : Item). item.sample) (get_or-take (suc j) items j no_item (omega arith) ∙ item_at entries j d no_item (omega (arith, lt))) in
    let rises = (behind nodes most entries are (suc j) d lt).rising in
    omega (arith, before, rises)

rises : (nodes : List Node) (most : ℕ) (entries : List Entry) → AreEntries nodes most (items_of entries) → (i n : ℕ) (d : Entry) → i + n < length entries → (get_or entries i d).sample ≤ (get_or entries (i + n) d).sample
rises nodes most entries are i zero d lt = let z : i + 0 ≡ i = omega arith in subst (λ j. (get_or entries i d).sample ≤ (get_or entries j d).sample) (sym z) (omega arith)
rises nodes most entries are i (suc n) d lt =
    let z : suc (i + n) ≡ i + suc n = omega arith in
    let front = rises nodes most entries are i n d (omega (arith, lt)) in
    let step = next_rises nodes most entries are (i + n) d (omega (arith, lt)) in
    subst (λ j. (get_or entries i d).sample ≤ (get_or entries j d).sample) z (omega (arith, front, step))

pub rising : (nodes : List Node) (most : ℕ) (entries : List Entry) → AreEntries nodes most (items_of entries) → (i j : ℕ) (d : Entry) → i < j → j < length entries → (get_or entries i d).sample ≤ (get_or entries j d).sample
rising nodes most entries are i j d before lt =
    let z : i + (j - i) ≡ j = omega (arith, before) in
    subst (λ k. (get_or entries i d).sample ≤ (get_or entries k d).sample) z (rises nodes most entries are i (j - i) d (omega (arith, z, lt)))

-- a parameter that is found and can be set
found_writable : (params : List ParamInfo) (id : ℕ) → is_writable (param_in params id) ≡ true → has_writable (map param_of params) id ≡ true
found_writable [] id is = let e : false ≡ true = is in cc
found_writable (param ∷ params) id is =
    elim (param.id == id) as (λ b. is_writable (cond b (Some param) (param_in params id)) ≡ true → (b && is_writable (Some param)) || has_writable (map param_of params) id ≡ true) [
      | true ↦ λ here. ap (λ b. b || has_writable (map param_of params) id) here
      | false ↦ λ later. found_writable params id later
    ] is

settable : (nodes : List Node) (node id : ℕ) → node < length nodes → IsSettable nodes node id → has_writable (map param_of (node_at nodes node).params) id ≡ true
settable nodes node id there is =
    let inside : nat_lt node (length nodes) ≡ true = lt-ltb node (length nodes) there in
    let e : info_in nodes node id ≡ param_in (node_at nodes node).params id = ap (λ b. cond b (param_in (node_at nodes node).params id) None) inside in
    found_writable (node_at nodes node).params id (ap is_writable (sym e) ∙ is.writable)

-- the scene has the nodes' parameters
pub record HasNodes (scene : Scene) (nodes : List Node) : Type 0 where
  pub count : node_count scene ≡ length nodes
  pub params : (node : ℕ) → node < length nodes → params_at scene node ≡ map param_of (node_at nodes node).params

writable_in : (scene : Scene) (nodes : List Node) → HasNodes scene nodes → (node id : ℕ) → node < length nodes → IsSettable nodes node id → has_writable (params_at scene node) id ≡ true
writable_in scene nodes has node id there is = subst (λ params. has_writable params id ≡ true) (sym (has.params node there)) (settable nodes node id there is)

for_scene : (scene : Scene) (nodes : List Node) → HasNodes scene nodes → (before : List Item) (editor : ℕ) (command : Command)
    → node_of command < length nodes → MayStand nodes before editor (node_of command) (act_of command) → IsFor scene command
for_scene scene nodes has before editor (Begin node id) there may = let count = has.count in (omega (arith, count, there), writable_in scene nodes has node id there may.0)
for_scene scene nodes has before editor (Perform node id value) there may = let count = has.count in (omega (arith, count, there), writable_in scene nodes has node id there may.0, may.2)
for_scene scene nodes has before editor (End node id) there may = let count = has.count in (omega (arith, count, there), writable_in scene nodes has node id there may.0)
for_scene scene nodes has before editor (Tell node words) there may = let count = has.count in omega (arith, count, there)

-- a journal's entries
pub may_follow : (scene : Scene) (nodes : List Node) (most room : ℕ) (entries : List Entry) → HasNodes scene nodes → AreEntries nodes most (items_of entries) → length (stops entries) ≤ room → MayFollow scene most room entries
may_follow scene nodes most room entries has are few = record {
  rising = rising nodes most entries are;
  within = λ k d lt. (behind nodes most entries are k d lt).within;
  commands = λ k d lt. let is = behind nodes most entries are k d lt in for_scene scene nodes has (take k (items_of entries)) (get_or entries k d).editor (get_or entries k d).command is.node is.act;
  few = few;
}

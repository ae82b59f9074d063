-- Entries of a block leave a parameter alone that is only shown.
use Rattle.std.proofs.Common.{◌≡◌, ◌∙◌, inl, inr, ℕ, ◌<◌, Bool, true, false, cond, List, length, get_or, refl, sym, ap, subst, arith}
use Rattle.std.specs.Prelude.{All, Some, None, ◌==◌, ◌&&◌}
use Rattle.std.proofs.lemmas.Bool.{false≢true, eqb-true, ne_eqb, not-true, and_parts, and_left, and_right, cases_lt}
use Rattle.std.proofs.lemmas.List.{length-map, get_or-map, get_or_default}
use Rattle.std.proofs.lemmas.List.Folds.{list_any_none}
use Rattle.vh_journal.specs.declared.entry.Entry.{Entry}
use Rattle.vh_params.specs.declared.command.Command.{Command}
use Rattle.vh_params.specs.declared.command.Command.TheVariants.{Begin, Perform, End, Tell}
use Rattle.vh_params.specs.Flags.{is_writable, is_read_only}
use Rattle.vh_plugin.specs.Class.{Param, Class, IsLawful, has_writable}
use Rattle.vh_meaning.specs.Edits.{Edit, Began, Performed, Ended, is_parameter, edit_by}
use Rattle.vh_meaning.specs.Scene.{Scene, params_at}
use Rattle.vh_engine.specs.declared.control.Control.{Control}
use Rattle.vh_engine.specs.Between.{AreWithinOne, IsWithinOne, AreElsewhere}
use Rattle.vh_engine.specs.Kept.{IsFor}
use Rattle.vh_engine.specs.Nodes.{AreOf}

-- parameters that are only shown can't be set
pub shown_apart : (class : Class) (k : ℕ) (d : Param) → IsLawful class → k < length class.params → is_read_only (get_or class.params k d).flags ≡ true → has_writable class.params (get_or class.params k d).id ≡ false
shown_apart class k d law within shown =
    let params = class.params in
    let id = (get_or params k d).id in
    list_any_none (λ (p : Param). (p.id == id) && is_writable p.flags) params (λ j e inside. elim (cases_lt j k) [
      | inl before ↦ and_left ((get_or params j e).id == id) (is_writable (get_or params j e).flags) (ne_eqb (get_or params j e).id id (λ same.
          let less = law.rising j k e before within in
          let here : (get_or params k e).id ≡ id = ap (λ (p : Param). p.id) (get_or_default params k e d within) in
          omega (arith, less, here, same)))
      | inr from ↦ elim (cases_lt k j) [
        | inl behind ↦ and_left ((get_or params j e).id == id) (is_writable (get_or params j e).flags) (ne_eqb (get_or params j e).id id (λ same.
            let less = law.rising k j e behind inside in
            let here : (get_or params k e).id ≡ id = ap (λ (p : Param). p.id) (get_or_default params k e d within) in
            omega (arith, less, here, same)))
        | inr to ↦
            let here : k ≡ j = omega arith in
            let one : get_or params k d ≡ get_or params j e = ap (λ (i : ℕ). get_or params i d) here ∙ get_or_default params j d e inside in
            and_right ((get_or params j e).id == id) (is_writable (get_or params j e).flags) (subst (λ (p : Param). is_writable p.flags ≡ false) one (not-true (is_writable (get_or params k d).flags) shown))
      ]
    ])

-- what a gesture does to a parameter that can't be set
other_parameter : (node id n i : ℕ) (params : ℕ → List Param) (edit : Edit) → has_writable (params n) i ≡ true → has_writable (params node) id ≡ false → cond (is_parameter node id n i) (Some edit) None ≡ None
other_parameter node id n i params edit can not =
    elim (is_parameter node id n i) as (λ b. is_parameter node id n i ≡ b → cond b (Some edit) None ≡ None) [
      | true ↦ λ is.
          let both = and_parts (n == node) (i == id) is in
          let same_node : n ≡ node = eqb-true n node both.0 in
          let same_id : i ≡ id = eqb-true i id both.1 in
          absurd (false≢true (sym not ∙ ap (λ (m : ℕ). has_writable (params m) id) (sym same_node) ∙ ap (λ (m : ℕ). has_writable (params n) m) (sym same_id) ∙ can))
      | false ↦ λ is. refl
    ] refl

elsewhere_by : (scene : Scene) (node id sample : ℕ) (command : Command) → IsFor scene command → has_writable (params_at scene node) id ≡ false → edit_by node id sample command ≡ None
elsewhere_by scene node id sample (Begin n i) for not = other_parameter node id n i (params_at scene) (Began sample) for.1 not
elsewhere_by scene node id sample (Perform n i value) for not = other_parameter node id n i (params_at scene) (Performed value) for.1 not
elsewhere_by scene node id sample (End n i) for not = other_parameter node id n i (params_at scene) Ended for.1 not
elsewhere_by scene node id sample (Tell n words) for not = refl

-- no entry is on it
pub elsewhere_all : (scene : Scene) (node id : ℕ) (entries : List Entry) → All (λ entry. IsFor scene entry.command) entries → has_writable (params_at scene node) id ≡ false → AreElsewhere node id entries
elsewhere_all scene node id entries for not k d lt = elsewhere_by scene node id (get_or entries k d).sample (get_or entries k d).command (for k d lt) not

-- performs are of values up to 1.0
within_one : (scene : Scene) (command : Command) → IsFor scene command → IsWithinOne command
within_one scene (Begin n i) for node id value same = absurd cc
within_one scene (Perform n i v) for node id value same = let here : v ≡ value = cc in let most = for.2 in omega (arith, here, most)
within_one scene (End n i) for node id value same = absurd cc
within_one scene (Tell n words) for node id value same = absurd cc

pub all_within_one : (scene : Scene) (entries : List Entry) → All (λ entry. IsFor scene entry.command) entries → AreWithinOne entries
all_within_one scene entries for k d lt = within_one scene (get_or entries k d).command (for k d lt)

-- a node's parameters and those of its class stand at the same places
pub of_long : (params : List Param) (controls : List Control) → AreOf params controls → length controls ≡ length params
of_long params controls are = sym (length-map controls (λ (control : Control). control.id)) ∙ ap (λ (ids : List ℕ). length ids) are.ids ∙ length-map params (λ (param : Param). param.id)

pub id_at : (params : List Param) (controls : List Control) (k : ℕ) (d : Control) (e : Param) → AreOf params controls → k < length controls → (get_or controls k d).id ≡ (get_or params k e).id
id_at params controls k d e are lt =
    let inside : k < length params = let long = of_long params controls are in omega (arith, lt, long) in
    sym (get_or-map (λ (c : Control). c.id) controls k d 0 lt) ∙ ap (λ (ids : List ℕ). get_or ids k 0) are.ids ∙ get_or-map (λ (p : Param). p.id) params k e 0 inside

pub shown_at : (params : List Param) (controls : List Control) (k : ℕ) (d : Control) (e : Param) → AreOf params controls → k < length controls → (get_or controls k d).shown ≡ is_read_only (get_or params k e).flags
shown_at params controls k d e are lt =
    let inside : k < length params = let long = of_long params controls are in omega (arith, lt, long) in
    sym (get_or-map (λ (c : Control). c.shown) controls k d false lt) ∙ ap (λ (all : List Bool). get_or all k false) are.shown ∙ get_or-map (λ (p : Param). is_read_only p.flags) params k e false inside

-- by rising id
pub ids_rising : (class : Class) (controls : List Control) → IsLawful class → AreOf class.params controls → (i j : ℕ) (d : Control) → i < j → j < length controls → (get_or controls i d).id < (get_or controls j d).id
ids_rising class controls law are i j d lt within =
    let none : Param = record { id = 0; steps = 0; first = 0; flags = 0 } in
    let long = of_long class.params controls are in
    let less = law.rising i j none lt (omega (arith, long, within)) in
    let one = id_at class.params controls i d none are (omega (arith, lt, within)) in
    let other = id_at class.params controls j d none are within in
    omega (arith, less, one, other)

-- no entry is on a parameter that is only shown
pub shown_elsewhere : (scene : Scene) (node : ℕ) (class : Class) (controls : List Control) (entries : List Entry) → params_at scene node ≡ class.params → IsLawful class → AreOf class.params controls → All (λ entry. IsFor scene entry.command) entries
    → All (λ control. control.shown ≡ true → AreElsewhere node control.id entries) controls
shown_elsewhere scene node class controls entries same law are for k d lt shown =
    let none : Param = record { id = 0; steps = 0; first = 0; flags = 0 } in
    let long = of_long class.params controls are in
    let inside : k < length class.params = omega (arith, long, lt) in
    let id : (get_or class.params k none).id ≡ (get_or controls k d).id = sym (id_at class.params controls k d none are lt) in
    let read_only : is_read_only (get_or class.params k none).flags ≡ true = sym (shown_at class.params controls k d none are lt) ∙ shown in
    elsewhere_all scene node (get_or controls k d).id entries for
    (ap (λ (params : List Param). has_writable params (get_or controls k d).id) same ∙ ap (has_writable class.params) (sym id) ∙ shown_apart class k none law inside read_only)

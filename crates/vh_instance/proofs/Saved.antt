-- What is saved of a node is loaded again.
use Rattle.std.proofs.Common.{◌≡◌, ◌∙◌, ℕ, zero, suc, ◌<◌, ◌≤◌, ◌^◌, true, false, cond, List, [], ◌∷◌, length, map, get_or, Option, Some, None, refl, sym, ap, subst, arith}
use Rattle.std.specs.Prelude.{unwrap_or}
use Rattle.std.specs.Option.{option_and_then, option_map_or}
use Rattle.std.specs.Str.{bytes_eq}
use Rattle.std.proofs.lemmas.List.{get_or-map, get_or_default, same_lists}
use Rattle.vh_num.specs.Values.{quant_of}
use Rattle.vh_num.proofs.Lawful.{law_quant_twice}
use Rattle.vh_params.specs.Flags.{is_writable}
use Rattle.vh_plugin.specs.Class.{Param, Class, AreValues, firsts_of, writable_of, with_writable}
use Rattle.vh_plugin.specs.Controls.{mode_text}
use Rattle.vh_plugin.specs.Laws.{BytesAreTakenBack}
use Rattle.vh_preset.specs.declared.fault.PresetRefusal.TheVariants.{OtherClass}
use Rattle.vh_preset.specs.Contents.{Contents}
use Rattle.vh_session.proofs.Named.{same_text}
use Rattle.vh_instance.specs.Plan.{Plan, class_at, component_at, preset_at}
use Rattle.vh_instance.specs.Presets.{component_state, controller_state, over_defaults, values_held, values_under, mode_in, mode_under, mode_at, unread, state_refusal, preset_refusal}
use Rattle.vh_instance.specs.Firsts.{given_in, first_value, lines_over, firsts_at}
use Rattle.vh_instance.specs.Saved.{IsSound, IsSaved, SavedIsLoaded}
use Rattle.vh_instance.proofs.Lawful.{firsts_long, under_long, writable_long}
use Rattle.vh_instance.proofs.Settings.{lines_long, line_at}

firsts_map : (params : List Param) → firsts_of params ≡ map (λ param. param.first) params
firsts_map [] = refl
firsts_map (param ∷ params) = ap (λ (rest : List ℕ). param.first ∷ rest) (firsts_map params)

first_at : (params : List Param) (k : ℕ) (d : Param) (e : ℕ) → k < length params → get_or (firsts_of params) k e ≡ (get_or params k d).first
first_at params k d e lt = ap (λ (xs : List ℕ). get_or xs k e) (firsts_map params) ∙ get_or-map (λ (param : Param). param.first) params k d e lt

-- a parameter that is only shown keeps its default
kept : (params : List Param) (held : List ℕ) (k : ℕ) (d : Param) → k < length params → is_writable (get_or params k d).flags ≡ false → get_or (with_writable params (firsts_of params) held) k 0 ≡ (get_or params k d).first
kept [] held k d lt shown = absurd (omega (arith, lt))
kept (param ∷ params) [] k d lt shown = first_at (param ∷ params) k d 0 lt
kept (param ∷ params) (other ∷ others) zero d lt shown =
    ap (λ t. get_or (cond t (other ∷ with_writable params (firsts_of params) others) (param.first ∷ with_writable params (firsts_of params) (other ∷ others))) 0 0) shown
kept (param ∷ params) (other ∷ others) (suc k) d lt shown =
    elim (is_writable param.flags) as (λ t. get_or (cond t (other ∷ with_writable params (firsts_of params) others) (param.first ∷ with_writable params (firsts_of params) (other ∷ others))) (suc k) 0 ≡ (get_or params k d).first) [
      | true ↦ kept params others k d (omega (arith, lt)) shown
      | false ↦ kept params (other ∷ others) k d (omega (arith, lt)) shown
    ]

shown_at : (class : Class) (held : Option (List ℕ)) (k : ℕ) (d : Param) → k < length class.params → is_writable (get_or class.params k d).flags ≡ false → get_or (over_defaults class held) k 0 ≡ (get_or class.params k d).first
shown_at class None k d lt shown = first_at class.params k d 0 lt
shown_at class (Some held) k d lt shown = kept class.params held k d lt shown

-- ---- modes
held_mode : (held : Option (List ℕ)) → option_map_or mode_in held 0 ≤ 1
held_mode None = omega arith
held_mode (Some bytes) = elim (bytes_eq bytes (mode_text 1)) as (λ t. cond t 1 0 ≤ 1) [ true ↦ omega arith | false ↦ omega arith ]

mode_within : (preset : Option Contents) → mode_under preset ≤ 1
mode_within preset = held_mode (option_and_then controller_state preset)

mode_back : (mode : ℕ) → mode ≤ 1 → mode_in (mode_text mode) ≡ mode
mode_back zero le = refl
mode_back (suc zero) le = refl
mode_back (suc (suc mode)) le = absurd (omega (arith, le))

-- ---- the law
module _ (back : BytesAreTakenBack) (plan : Plan) (node : ℕ) (preset : Contents) (sound : IsSound plan node) (saved : IsSaved plan node preset) where
  abbrev class : Class
  class = class_at plan node

  abbrev values : List ℕ
  values = firsts_at plan node

  abbrev new : List ℕ
  new = with_writable class.params (firsts_of class.params) (writable_of class.params values)

  defaults_are : AreValues class.params (firsts_of class.params)
  defaults_are = record {
    each = firsts_long class.params;
    within = λ k e lt.
        let long = firsts_long class.params in
        let within : k < length class.params = omega (arith, lt, long) in
        let d : Param = record { id = 0; steps = 0; first = 0; flags = 0 } in
        subst (λ (n : ℕ). n ≤ 2 ^ 24) (sym (first_at class.params k d e within)) ((sound.defaults k d within).within);
  }

  -- what the saved bytes hold over the defaults
  new_at : (k : ℕ) (d : Param) → k < length class.params → get_or new k 0 ≡ cond (is_writable (get_or class.params k d).flags) (get_or values k 0) (get_or (firsts_of class.params) k 0)
  new_at k d lt = (back class (firsts_of class.params) values new true sound.lawful defaults_are sound.values (writable_of class.params values, sound.lawful.reads_back values sound.values, refl)).1 k d lt

  under_saved : values_under class (Some preset) ≡ new
  under_saved =
      ap (λ (state : Option (List ℕ)). over_defaults class (option_and_then class.state_of state)) saved.comp
      ∙ ap (over_defaults class) (sound.lawful.reads_back values sound.values)

  -- quantised, each is the node's first value
  again : (k : ℕ) (d : Param) → k < length class.params → quant_of (get_or new k 0) (get_or class.params k d).steps ≡ get_or values k 0
  again k d lt =
      let param = get_or class.params k d in
      let default = sound.defaults k d lt in
      let others = values_under class (preset_at plan node) in
      let line = given_in plan.content.firsts node param.id in
      let here : get_or values k 0 ≡ first_value plan.content.firsts node param (get_or others k 0) = line_at plan.content.firsts node class.params others k d (under_long class (preset_at plan node)) lt in
      elim (is_writable param.flags) as (λ t. is_writable param.flags ≡ t → get_or new k 0 ≡ cond t (get_or values k 0) (get_or (firsts_of class.params) k 0) → quant_of (get_or new k 0) param.steps ≡ get_or values k 0) [
        | true ↦ λ set is. ap (λ (v : ℕ). quant_of v param.steps) (is ∙ here) ∙ law_quant_twice (unwrap_or line (get_or others k 0)) param.steps default.steps ∙ sym here
        | false ↦ λ shown is.
            ap (λ (v : ℕ). quant_of v param.steps) (is ∙ first_at class.params k d 0 lt)
            ∙ sym (here ∙ ap (λ (o : Option ℕ). quant_of (unwrap_or o (get_or others k 0)) param.steps) (sound.lines k d lt shown)
            ∙ ap (λ (v : ℕ). quant_of v param.steps) (shown_at class (option_and_then (values_held class) (preset_at plan node)) k d lt shown))
      ] refl (new_at k d lt)

  -- of lines that give nothing
  unlined : (firsts : List (ℕ × ℕ × ℕ)) (there : ℕ) → ((id : ℕ) → given_in firsts there id ≡ None) → lines_over firsts there class.params new ≡ values
  unlined firsts there none =
      let long : length new ≡ length class.params = writable_long class.params (writable_of class.params values) in
      let lines = lines_long firsts there class.params new long in
      let many = sound.values.each in
      let d : Param = record { id = 0; steps = 0; first = 0; flags = 0 } in
      same_lists (lines_over firsts there class.params new) values (lines ∙ sym many) (λ k e lt.
      let within : k < length class.params = omega (arith, lt, lines) in
      let param = get_or class.params k d in
      get_or_default (lines_over firsts there class.params new) k e 0 lt
      ∙ line_at firsts there class.params new k d long within
      ∙ ap (λ (o : Option ℕ). quant_of (unwrap_or o (get_or new k 0)) param.steps) (none param.id)
      ∙ again k d within
      ∙ sym (get_or_default values k e 0 (omega (arith, within, many))))

pub law_saved_is_loaded : BytesAreTakenBack → SavedIsLoaded
law_saved_is_loaded back plan node preset other there sound saved loaded =
    let class = class_at plan node in
    let component = component_at plan node in
    let firsts = other.content.firsts in
    let values = firsts_at plan node in
    record {
      accepted =
          ap (λ (c : Class). option_and_then (preset_refusal c (component_at other there)) (preset_at other there)) loaded.class
          ∙ ap (λ (id : List ℕ). option_and_then (preset_refusal class id) (preset_at other there)) loaded.component
          ∙ ap (option_and_then (preset_refusal class component)) loaded.loads
          ∙ ap (λ t. cond t (state_refusal class (component_state preset)) (Some OtherClass)) (same_text preset.class.0 component saved.class)
          ∙ ap (state_refusal class) saved.comp
          ∙ ap unread (sound.lawful.reads_back values sound.values);
      values =
          ap (λ (c : Class). lines_over firsts there c.params (values_under c (preset_at other there))) loaded.class
          ∙ ap (λ (p : Option Contents). lines_over firsts there class.params (values_under class p)) loaded.loads
          ∙ ap (lines_over firsts there class.params) (under_saved back plan node preset sound saved)
          ∙ unlined back plan node preset sound saved firsts there loaded.lines;
      mode =
          ap mode_under loaded.loads
          ∙ ap (λ (held : Option (List ℕ)). option_map_or mode_in held 0) saved.cont
          ∙ mode_back (mode_at plan node) (mode_within (preset_at plan node));
    }

-- Presets that are loaded, by two classes that take the same bytes.
use Rattle.std.proofs.Common.{◌≡◌, ℕ, ◌<◌, cond, List, length, map, get_or, Option, Some, None, refl, ap, ◌∙◌}
use Rattle.std.specs.Option.{option_map, option_and_then}
use Rattle.std.specs.Str.{bytes_eq}
use Rattle.std.proofs.lemmas.List.{get_or-map}
use Rattle.vh_plugin.specs.Class.{Class, Param, firsts_of, with_writable}
use Rattle.vh_plugin.specs.Sets.{AgreeOnBytes}
use Rattle.vh_preset.specs.declared.fault.PresetRefusal.{PresetRefusal}
use Rattle.vh_preset.specs.declared.fault.PresetRefusal.TheVariants.{OtherClass}
use Rattle.vh_preset.specs.declared.preset.Preset.{Preset}
use Rattle.vh_preset.specs.Contents.{Contents}
use Rattle.vh_preset.specs.Seen.{contents_of}
use Rattle.vh_instance.specs.Plan.{Plan, code_at, class_at, component_at, preset_at}
use Rattle.vh_instance.specs.Presets.{component_state, values_held, over_defaults, values_under, unread, state_refusal, preset_refusal, refusal_at}
use Rattle.vh_instance.specs.Firsts.{lines_over, firsts_under, firsts_at}

-- the preset of a node, of those that were handed in
pub preset_is : (presets : List (Option Preset)) (node : ℕ) (d : Option Preset) → node < length presets → get_or (map (option_map contents_of) presets) node None ≡ option_map contents_of (get_or presets node d)
preset_is presets node d lt = get_or-map (λ (preset : Option Preset). option_map contents_of preset) presets node d None lt

module _ (one other : Class) (agree : AgreeOnBytes one other) where
  held_alike : (state : Option (List ℕ)) → option_and_then one.state_of state ≡ option_and_then other.state_of state
  held_alike None = refl
  held_alike (Some bytes) = agree bytes

  values_alike : (preset : Option Contents) → option_and_then (values_held one) preset ≡ option_and_then (values_held other) preset
  values_alike None = refl
  values_alike (Some preset) = held_alike (component_state preset)

  over_alike : (held : Option (List ℕ)) → one.params ≡ other.params → over_defaults one held ≡ over_defaults other held
  over_alike None same = ap firsts_of same
  over_alike (Some held) same = ap (λ (params : List Param). with_writable params (firsts_of params) held) same

  -- they begin with the same values
  firsts_alike : (preset : Option Contents) (firsts : List (ℕ × ℕ × ℕ)) (node : ℕ) → one.params ≡ other.params → firsts_under one preset firsts node ≡ firsts_under other preset firsts node
  firsts_alike preset firsts node same =
      ap (λ (params : List Param). lines_over firsts node params (values_under one preset)) same
      ∙ ap (λ (values : List ℕ). lines_over firsts node other.params values)
      (ap (over_defaults one) (values_alike preset) ∙ over_alike (option_and_then (values_held other) preset) same)

  state_alike : (state : Option (List ℕ)) → state_refusal one state ≡ state_refusal other state
  state_alike None = refl
  state_alike (Some bytes) = ap unread (agree bytes)

  -- and refuse the same presets
  refused_alike : (component : List ℕ) (preset : Option Contents) → option_and_then (preset_refusal one component) preset ≡ option_and_then (preset_refusal other component) preset
  refused_alike component None = refl
  refused_alike component (Some preset) = ap (λ (refusal : Option PresetRefusal). cond (bytes_eq preset.class.0 component) refusal (Some OtherClass)) (state_alike (component_state preset))

-- what a controller of a node's class judges is what the plan has
pub refusal_is : (plan : Plan) (node : ℕ) (class_of : ℕ → Class) (code : ℕ) (component : List ℕ) (preset : Option Contents) → code ≡ code_at plan node → AgreeOnBytes (class_of (code_at plan node)) (class_at plan node) → component ≡ component_at plan node → preset ≡ preset_at plan node
    → option_and_then (preset_refusal (class_of code) component) preset ≡ refusal_at plan node
refusal_is plan node class_of code component preset code_is agree component_is preset_is =
    ap (λ (n : ℕ). option_and_then (preset_refusal (class_of n) component) preset) code_is ∙ refused_alike (class_of (code_at plan node)) (class_at plan node) agree component preset
    ∙ ap (λ (id : List ℕ). option_and_then (preset_refusal (class_at plan node) id) preset) component_is ∙ ap (λ (o : Option Contents). option_and_then (preset_refusal (class_at plan node) (component_at plan node)) o) preset_is

-- and what it begins with
pub firsts_are : (plan : Plan) (node : ℕ) (class_of : ℕ → Class) (code : ℕ) (preset : Option Contents) → code ≡ code_at plan node → AgreeOnBytes (class_of (code_at plan node)) (class_at plan node) → (class_of (code_at plan node)).params ≡ (class_at plan node).params → preset ≡ preset_at plan node
    → firsts_under (class_of code) preset plan.content.firsts node ≡ firsts_at plan node
firsts_are plan node class_of code preset code_is agree params preset_is =
    ap (λ (n : ℕ). firsts_under (class_of n) preset plan.content.firsts node) code_is ∙ firsts_alike (class_of (code_at plan node)) (class_at plan node) agree preset plan.content.firsts node params
    ∙ ap (λ (o : Option Contents). firsts_under (class_at plan node) o plan.content.firsts node) preset_is

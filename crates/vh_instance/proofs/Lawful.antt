-- The laws of first values hold.
use Rattle.std.proofs.Common.{◌≡◌, ℕ, suc, ◌<◌, true, false, cond, List, [], ◌∷◌, length, map, get_or, Option, Some, None, refl, ap, ◌∙◌}
use Rattle.std.specs.List.{range_with_len}
use Rattle.std.specs.Option.{option_and_then}
use Rattle.std.specs.Prelude.{unwrap_or}
use Rattle.std.proofs.lemmas.List.{get_or-replicate}
use Rattle.std.proofs.lemmas.Simd.{map-map}
use Rattle.vh_num.specs.Values.{quant_of}
use Rattle.vh_params.specs.declared.class.ClassInfo.{ClassInfo}
use Rattle.vh_params.specs.Flags.{is_writable}
use Rattle.vh_params.specs.Nodes.{node_at}
use Rattle.vh_plugin.specs.Class.{Param, Class, param_of, firsts_of, with_writable}
use Rattle.vh_preset.specs.Contents.{Contents}
use Rattle.vh_session.specs.Content.{Content}
use Rattle.vh_instance.specs.Plan.{plain_plan, IsPlain, class_at, component_at, preset_at}
use Rattle.vh_instance.specs.Presets.{values_held, over_defaults, values_under, mode_under, mode_at, preset_refusal}
use Rattle.vh_instance.specs.Firsts.{first_value, lines_over, firsts_at, plain_at}
use Rattle.vh_instance.specs.Laws.{WithoutPreset, WithoutPresets, LineOverPreset}
use Rattle.vh_instance.proofs.Nodes.{alike, all_alike, one_after_other}
use Rattle.vh_instance.proofs.Settings.{line_at}

pub firsts_long : (params : List Param) → length (firsts_of params) ≡ length params
firsts_long [] = refl
firsts_long (param ∷ params) = ap (λ (n : ℕ). suc n) (firsts_long params)

pub writable_long : (params : List Param) (others : List ℕ) → length (with_writable params (firsts_of params) others) ≡ length params
writable_long [] others = refl
writable_long (param ∷ params) [] = ap (λ (n : ℕ). suc n) (firsts_long params)
writable_long (param ∷ params) (other ∷ others) =
    elim (is_writable param.flags) as (λ t. length (cond t (other ∷ with_writable params (firsts_of params) others) (param.first ∷ with_writable params (firsts_of params) (other ∷ others))) ≡ suc (length params)) [
      | true ↦ ap (λ (n : ℕ). suc n) (writable_long params others)
      | false ↦ ap (λ (n : ℕ). suc n) (writable_long params (other ∷ others))
    ]

held_long : (class : Class) (held : Option (List ℕ)) → length (over_defaults class held) ≡ length class.params
held_long class None = firsts_long class.params
held_long class (Some held) = writable_long class.params held

-- there is a value for each parameter
pub under_long : (class : Class) (preset : Option Contents) → length (values_under class preset) ≡ length class.params
under_long class preset = held_long class (option_and_then (values_held class) preset)

plain : (firsts : List (ℕ × ℕ × ℕ)) (node : ℕ) (params : List Param) → lines_over firsts node params (firsts_of params) ≡ map (λ param. first_value firsts node param param.first) params
plain firsts node [] = refl
plain firsts node (param ∷ params) = ap (λ (rest : List ℕ). first_value firsts node param param.first ∷ rest) (plain firsts node params)

pub law_without_preset : WithoutPreset
law_without_preset plan node none =
    let class = class_at plan node in
    record {
      values = ap (λ (preset : Option Contents). lines_over plan.content.firsts node class.params (values_under class preset)) none ∙ plain plan.content.firsts node class.params;
      mode = ap mode_under none;
      accepted = ap (option_and_then (preset_refusal class (component_at plan node))) none;
    }

pub law_without_presets : WithoutPresets
law_without_presets plan plain suits =
    let count = length plan.content.nodes in
    let firsts = plan.content.firsts in
    let values : (node : ℕ) → node < count → firsts_at plan node ≡ plain_at plan.content node = λ node lt.
    (law_without_preset plan node (plain node lt)).values
    ∙ ap (λ (params : List Param). map (λ (param : Param). first_value firsts node param param.first) params) (suits node lt).params
    ∙ map-map (λ (param : Param). first_value firsts node param param.first) param_of (node_at plan.content.nodes node).params in
    record {
      values = values;
      first = one_after_other (firsts_at plan) (range_with_len 0 count) (plain_at plan.content) count (alike (firsts_at plan) (plain_at plan.content) count values);
      modes = all_alike (mode_at plan) 0 count (λ node lt. (law_without_preset plan node (plain node lt)).mode);
      accepted = λ node lt. (law_without_preset plan node (plain node lt)).accepted;
    }

-- the plan for a session without presets is such a plan
pub plain_plan_is : (infos : List ClassInfo) (code : ℕ → ℕ) (class_of : ℕ → Class) (content : Content) (max : ℕ) → IsPlain (plain_plan infos code class_of content max)
plain_plan_is infos code class_of content max = λ node lt. get_or-replicate (length content.nodes) node None None lt

pub law_line_over_preset : LineOverPreset
law_line_over_preset plan node k value d lt given =
    let class = class_at plan node in
    let others = values_under class (preset_at plan node) in
    line_at plan.content.firsts node class.params others k d (under_long class (preset_at plan node)) lt
    ∙ ap (λ (o : Option ℕ). quant_of (unwrap_or o (get_or others k 0)) (get_or class.params k d).steps) given

-- Laws of first values.
use Rattle.std.specs.Prelude.{◌≡◌, ℕ, ◌<◌, length, map, replicate, Some, None, slice_index_or}
use Rattle.vh_num.specs.Values.{quant_of}
use Rattle.vh_plugin.specs.Class.{Param}
use Rattle.vh_instance.specs.Plan.{Plan, class_at, preset_at, IsPlain}
use Rattle.vh_instance.specs.Presets.{mode_at, refusal_at, AreAccepted}
use Rattle.vh_instance.specs.Firsts.{given_in, first_value, firsts_at, first_values, plain_at, plain_values}
use Rattle.vh_instance.specs.Band.{by_node, Suits}

-- what a node without a preset begins with: the values of `param` lines and its class's defaults, and mode 0
pub record BeginsPlain (plan : Plan) (node : ℕ) : Type 0 where
  pub values : firsts_at plan node ≡ map (λ param. first_value plan.content.firsts node param param.first) (class_at plan node).params
  pub mode : mode_at plan node ≡ 0
  pub accepted : refusal_at plan node ≡ None

abbrev pub WithoutPreset : Type 0
WithoutPreset = (plan : Plan) (node : ℕ) → preset_at plan node ≡ None → BeginsPlain plan node

-- and all nodes of a session, where none has a preset: nothing is refused, and what they begin with the session alone says
pub record BeginPlain (plan : Plan) : Type 0 where
  pub values : (node : ℕ) → node < length plan.content.nodes → firsts_at plan node ≡ plain_at plan.content node
  pub first : first_values plan ≡ plain_values plan.content
  pub modes : by_node (length plan.content.nodes) (mode_at plan) ≡ replicate (length plan.content.nodes) 0
  pub accepted : AreAccepted plan (length plan.content.nodes)

abbrev pub WithoutPresets : Type 0
WithoutPresets = (plan : Plan) → IsPlain plan → ((node : ℕ) → node < length plan.content.nodes → Suits plan node) → BeginPlain plan

-- a `param` line goes over the preset
abbrev pub LineOverPreset : Type 0
LineOverPreset = (plan : Plan) (node k value : ℕ) (d : Param) → k < length (class_at plan node).params
    → given_in plan.content.firsts node (slice_index_or (class_at plan node).params k d).id ≡ Some value
    → slice_index_or (firsts_at plan node) k 0 ≡ quant_of value (slice_index_or (class_at plan node).params k d).steps

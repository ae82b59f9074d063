-- The first values of a session's parameters.
use Rattle.std.specs.Prelude.{ℕ, ◌==◌, ◌&&◌, List, length, map, Option, unwrap_or}
use Rattle.std.specs.List.{find, range_with_len, flat_map, zip}
use Rattle.std.specs.Option.{option_map}
use Rattle.vh_num.specs.Values.{quant_of}
use Rattle.vh_params.specs.Nodes.{node_at}
use Rattle.vh_plugin.specs.Class.{Param, Class, param_of}
use Rattle.vh_preset.specs.Contents.{Contents}
use Rattle.vh_session.specs.Content.{Content}
use Rattle.vh_instance.specs.Plan.{Plan, class_at, preset_at}
use Rattle.vh_instance.specs.Presets.{values_under}

-- the value that a `param` line gives a parameter of a node
abbrev pub given_in : List (ℕ × ℕ × ℕ) → ℕ → ℕ → Option ℕ
given_in firsts node id = option_map (λ first. first.2) (find (λ first. (first.0 == node) && (first.1 == id)) firsts)

-- a parameter begins with that value, or with another where no line gives it one
abbrev pub first_value : List (ℕ × ℕ × ℕ) → ℕ → Param → ℕ → ℕ
first_value firsts node param other = quant_of (unwrap_or (given_in firsts node param.id) other) param.steps

-- so of all parameters of a node, by rising id
abbrev pub lines_over : List (ℕ × ℕ × ℕ) → ℕ → List Param → List ℕ → List ℕ
lines_over firsts node params others = map (λ param. first_value firsts node param.0 param.1) (zip params others)

-- A node begins with the values of `param` lines over those of its preset, and these over its class's defaults.
abbrev pub firsts_under : Class → Option Contents → List (ℕ × ℕ × ℕ) → ℕ → List ℕ
firsts_under class preset firsts node = lines_over firsts node class.params (values_under class preset)

abbrev pub firsts_at : Plan → ℕ → List ℕ
firsts_at plan node = firsts_under (class_at plan node) (preset_at plan node) plan.content.firsts node

-- and so do all nodes, one after the other
abbrev pub first_values : Plan → List ℕ
first_values plan = flat_map (firsts_at plan) (range_with_len 0 (length plan.content.nodes))

-- What the nodes of a session begin with that have no presets: the values of `param` lines over the defaults of their
-- parameters, as a session alone says it.
abbrev pub plain_at : Content → ℕ → List ℕ
plain_at content node = map (λ param. first_value content.firsts node (param_of param) param.first) (node_at content.nodes node).params

abbrev pub plain_values : Content → List ℕ
plain_values content = flat_map (plain_at content) (range_with_len 0 (length content.nodes))

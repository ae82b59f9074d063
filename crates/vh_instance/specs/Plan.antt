-- What a band is made for.
use Rattle.std.specs.Prelude.{◌≡◌, ℕ, ◌<◌, List, [], length, map, replicate, slice_index_or, Option, None, option_map}
use Rattle.std.specs.List.{position_or_len}
use Rattle.std.specs.Str.{bytes_eq}
use Rattle.vh_params.specs.declared.class.ClassInfo.{ClassInfo}
use Rattle.vh_params.specs.Nodes.{node_at}
use Rattle.vh_params.specs.Short.{label_text}
use Rattle.vh_plugin.specs.Class.{Class}
use Rattle.vh_preset.specs.declared.preset.Preset.{Preset}
use Rattle.vh_preset.specs.Contents.{Contents}
use Rattle.vh_preset.specs.Seen.{contents_of}
use Rattle.vh_session.specs.declared.session.Session.{Session}
use Rattle.vh_session.specs.Content.{Content}
use Rattle.vh_session.specs.Names.{content_of}

-- a session with the presets of its nodes, under the classes of a set, the codes of these and what a code means, and blocks
-- of at most so many samples
pub record Plan : Type 0 where
  pub content : Content
  pub presets : List (Option Contents)
  pub infos : List ClassInfo
  pub code : ℕ → ℕ
  pub class_of : ℕ → Class
  pub max : ℕ

-- the plan for a session and presets that were read
abbrev pub plan_for : List ClassInfo → (ℕ → ℕ) → (ℕ → Class) → Session → List (Option Preset) → ℕ → Plan
plan_for infos code class_of session presets max =
    record { content = content_of session; presets = map (option_map contents_of) presets; infos = infos; code = code; class_of = class_of; max = max }

-- the number of the class of a name, the first where there are several
abbrev pub class_number : List ClassInfo → List ℕ → ℕ
class_number infos name = position_or_len (λ class. bytes_eq (label_text class.name) name) infos

abbrev pub number_at : Plan → ℕ → ℕ
number_at plan node = class_number plan.infos (node_at plan.content.nodes node).class_name

-- the code of a node's class, and what it means
abbrev pub code_at : Plan → ℕ → ℕ
code_at plan node = plan.code (number_at plan node)

abbrev pub class_at : Plan → ℕ → Class
class_at plan node = plan.class_of (code_at plan node)

-- the identifier of its components
abbrev pub component_at : Plan → ℕ → List ℕ
component_at plan node = slice_index_or (map (λ info. info.component.0) plan.infos) (number_at plan node) []

-- a node's preset, where it has one
abbrev pub preset_at : Plan → ℕ → Option Contents
preset_at plan node = slice_index_or plan.presets node None

-- the plan for a session no node of which has a preset, and what it is not to have one
abbrev pub plain_plan : List ClassInfo → (ℕ → ℕ) → (ℕ → Class) → Content → ℕ → Plan
plain_plan infos code class_of content max =
    record { content = content; presets = replicate (length content.nodes) None; infos = infos; code = code; class_of = class_of; max = max }

abbrev pub IsPlain : Plan → Type 0
IsPlain plan = (node : ℕ) → node < length plan.content.nodes → preset_at plan node ≡ None

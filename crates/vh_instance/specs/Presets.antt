-- What the presets of nodes give them, and why one is refused.
use Rattle.std.specs.Prelude.{◌≡◌, ℕ, ◌<◌, List, length, Option, Some, None, if◌then◌else◌, codes}
use Rattle.std.specs.Option.{option_and_then, option_map_or}
use Rattle.std.specs.Str.{bytes_eq}
use Rattle.vh_plugin.specs.Class.{Class, firsts_of, with_writable}
use Rattle.vh_plugin.specs.Controls.{mode_text}
use Rattle.vh_preset.specs.declared.fault.PresetRefusal.{PresetRefusal}
use Rattle.vh_preset.specs.declared.fault.PresetRefusal.TheVariants.{OtherClass, NoComp, BadState}
use Rattle.vh_preset.specs.Contents.{Contents, chunk_in}
use Rattle.vh_instance.specs.declared.refused.MakeRefused.{MakeRefused}
use Rattle.vh_instance.specs.declared.refused.MakeRefused.TheVariants.{Preset as OfPreset, Memory}
use Rattle.vh_instance.specs.Plan.{Plan, class_at, component_at, preset_at}

-- the bytes that a preset holds as the component's state, and as the controller's
abbrev pub component_state : Contents → Option (List ℕ)
component_state preset = chunk_in preset (codes "Comp")

abbrev pub controller_state : Contents → Option (List ℕ)
controller_state preset = chunk_in preset (codes "Cont")

-- the values that its component state holds for the writable parameters of a class
abbrev pub values_held : Class → Contents → Option (List ℕ)
values_held class preset = option_and_then class.state_of (component_state preset)

-- a class's defaults, over which its writable parameters have such values
abbrev pub over_defaults : Class → Option (List ℕ) → List ℕ
over_defaults class None = firsts_of class.params
over_defaults class (Some held) = with_writable class.params (firsts_of class.params) held

-- the values of a class's parameters under a preset, where there is one
abbrev pub values_under : Class → Option Contents → List ℕ
values_under class preset = over_defaults class (option_and_then (values_held class) preset)

-- the mode of a controller that was given bytes as its state: those of another form leave 0
abbrev pub mode_in : List ℕ → ℕ
mode_in bytes = if bytes_eq bytes (mode_text 1) then 1 else 0

abbrev pub mode_under : Option Contents → ℕ
mode_under preset = option_map_or mode_in (option_and_then controller_state preset) 0

abbrev pub mode_at : Plan → ℕ → ℕ
mode_at plan node = mode_under (preset_at plan node)

-- Why a preset isn't one of a class with components of this identifier: the first of three causes.
abbrev pub unread : Option (List ℕ) → Option PresetRefusal
unread None = Some BadState
unread (Some values) = None

abbrev pub state_refusal : Class → Option (List ℕ) → Option PresetRefusal
state_refusal class None = Some NoComp
state_refusal class (Some bytes) = unread (class.state_of bytes)

abbrev pub preset_refusal : Class → List ℕ → Contents → Option PresetRefusal
preset_refusal class component preset =
    if bytes_eq preset.class.0 component then state_refusal class (component_state preset) else Some OtherClass

-- why the preset of a node is refused, where it has one that is
abbrev pub refusal_at : Plan → ℕ → Option PresetRefusal
refusal_at plan node = option_and_then (preset_refusal (class_at plan node) (component_at plan node)) (preset_at plan node)

-- no preset of the first nodes, so many, is refused
abbrev pub AreAccepted : Plan → ℕ → Type 0
AreAccepted plan count = (node : ℕ) → node < count → refusal_at plan node ≡ None

-- the preset of this node is refused, and that of no node before it
pub record IsFirstRefused (plan : Plan) (node : ℕ) (kind : PresetRefusal) : Type 0 where
  pub within : node < length plan.content.nodes
  pub refused : refusal_at plan node ≡ Some kind
  pub first : AreAccepted plan node

-- the instances of a node aren't made because its preset is refused, or for want of memory
abbrev pub IsCauseAt : Plan → ℕ → MakeRefused → Type 0
IsCauseAt plan node (OfPreset other kind) = (other ≡ node) × (refusal_at plan node ≡ Some kind)
IsCauseAt plan node Memory = Unit {0}

-- and those of a session because of the first preset that is refused, or for want of memory
abbrev pub IsCause : Plan → MakeRefused → Type 0
IsCause plan (OfPreset node kind) = IsFirstRefused plan node kind
IsCause plan Memory = Unit {0}

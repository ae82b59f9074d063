-- What is saved of a node, and loaded again.
use Rattle.std.specs.Prelude.{◌≡◌, ℕ, ◌<◌, ◌≤◌, ◌^◌, false, length, All, Some, None, slice_index_or}
use Rattle.vh_num.specs.Values.{quant_of}
use Rattle.vh_params.specs.Flags.{is_writable}
use Rattle.vh_plugin.specs.Class.{Param, AreValues, IsLawful}
use Rattle.vh_plugin.specs.Controls.{mode_text}
use Rattle.vh_preset.specs.Contents.{Contents}
use Rattle.vh_instance.specs.Plan.{Plan, class_at, component_at, preset_at}
use Rattle.vh_instance.specs.Presets.{component_state, controller_state, mode_at, refusal_at}
use Rattle.vh_instance.specs.Firsts.{given_in, firsts_at}

-- a parameter whose default is one of its values
pub record HasDefault (param : Param) : Type 0 where
  pub steps : param.steps ≤ 4095
  pub within : param.first ≤ 2 ^ 24
  pub quantised : quant_of param.first param.steps ≡ param.first

-- a node of a lawful class, whose parameters have defaults, at first values within 1.0, with `param` lines for those alone
-- that can be set
pub record IsSound (plan : Plan) (node : ℕ) : Type 0 where
  pub lawful : IsLawful (class_at plan node)
  pub defaults : All HasDefault (class_at plan node).params
  pub values : AreValues (class_at plan node).params (firsts_at plan node)
  pub lines : (k : ℕ) (d : Param) → k < length (class_at plan node).params → is_writable (slice_index_or (class_at plan node).params k d).flags ≡ false
      → given_in plan.content.firsts node (slice_index_or (class_at plan node).params k d).id ≡ None

-- a preset of a node's class with the states of its halves as the node begins
pub record IsSaved (plan : Plan) (node : ℕ) (preset : Contents) : Type 0 where
  pub class : preset.class.0 ≡ component_at plan node
  pub comp : component_state preset ≡ Some ((class_at plan node).state_text (firsts_at plan node))
  pub cont : controller_state preset ≡ Some (mode_text (mode_at plan node))

-- a node of this class that is loaded with a preset, without `param` lines
pub record IsLoaded (plan : Plan) (node : ℕ) (preset : Contents) (other : Plan) (there : ℕ) : Type 0 where
  pub class : class_at other there ≡ class_at plan node
  pub component : component_at other there ≡ component_at plan node
  pub loads : preset_at other there ≡ Some preset
  pub lines : (id : ℕ) → given_in other.content.firsts there id ≡ None

-- and begins as the other does
pub record BeginAlike (plan : Plan) (node : ℕ) (other : Plan) (there : ℕ) : Type 0 where
  pub accepted : refusal_at other there ≡ None
  pub values : firsts_at other there ≡ firsts_at plan node
  pub mode : mode_at other there ≡ mode_at plan node

abbrev pub SavedIsLoaded : Type 0
SavedIsLoaded = (plan : Plan) (node : ℕ) (preset : Contents) (other : Plan) (there : ℕ) → IsSound plan node → IsSaved plan node preset → IsLoaded plan node preset other there → BeginAlike plan node other there

-- A band that is played, and the rendering that it gives.
use Rattle.std.specs.Prelude.{◌≡◌, ◌≤◌, ◌<◌, ℕ, List, length, map, All, Option}
use Rattle.std.specs.List.{concat}
use Rattle.vh_params.specs.declared.class.ClassInfo.{ClassInfo}
use Rattle.vh_params.specs.Nodes.{node_at}
use Rattle.vh_plugin.specs.Class.{Class, param_of}
use Rattle.vh_preset.specs.Contents.{Contents}
use Rattle.vh_session.specs.Content.{Content}
use Rattle.vh_meaning.specs.Scene.{Scene, scene_of}
use Rattle.vh_instance.specs.declared.band.Band.{Band}
use Rattle.vh_instance.specs.Plan.{Plan, code_at}
use Rattle.vh_instance.specs.Band.{ProcessorMeaning, ControllerMeaning, IsBand, of_processors, of_openers, objects_of}

-- under what codes mean to controllers, a node's class has the node's parameters
abbrev pub HaveParams : (ℕ → Class) → Plan → Type 0
HaveParams class_of plan = (node : ℕ) → node < length plan.content.nodes → (class_of (code_at plan node)).params ≡ map param_of (node_at plan.content.nodes node).params

-- A band as it is made for a session, under whatever presets and classes, for blocks of at most so many frames, and no size
-- of the session's pattern is more. Codes mean this to processors, and that to controllers.
pub record IsMadeFor {P C : Type 0} (processing : ProcessorMeaning P) (controlling : ControllerMeaning C) (processed_by controlled_by : ℕ → Class) (content : Content) (band : Band P C) : Type 0 where
  pub presets : List (Option Contents)
  pub infos : List ClassInfo
  pub code : ℕ → ℕ
  pub max : ℕ
  pub some : 1 ≤ max
  pub most : max ≤ 8192
  pub sizes : All (λ size. size ≤ max) content.pattern
  pub band_is : IsBand processing controlling (record { content = content; presets = presets; infos = infos; code = code; class_of = processed_by; max = max }) band
  pub params : HaveParams controlled_by (record { content = content; presets = presets; infos = infos; code = code; class_of = processed_by; max = max })

-- the scene of a session that is played by a band's processors, from the band's first values
abbrev pub scene_by : {P C : Type 0} → (ℕ → Class) → (P → ℕ) → Content → Band P C → Scene
scene_by class_of code content band = scene_of class_of (of_processors code band.processors.items) band.first.items content

-- the values of all controllers, node by node and within each by rising id
abbrev pub values_in : {P C : Type 0} → (C → List ℕ) → Band P C → List ℕ
values_in values band = concat (of_openers values band.edits.items)

-- the components are as before, and their processors of the classes that they were of
pub record AreSameComponents {P C : Type 0} (code : P → ℕ) (old new : Band P C) : Type 0 where
  pub objects : objects_of new.components.items ≡ objects_of old.components.items
  pub codes : of_processors code new.processors.items ≡ of_processors code old.processors.items

-- the controllers are as before, and of the classes and in the modes that they were
pub record AreSameControllers {P C : Type 0} (code mode : C → ℕ) (old new : Band P C) : Type 0 where
  pub objects : objects_of new.controllers.items ≡ objects_of old.controllers.items
  pub codes : of_openers code new.edits.items ≡ of_openers code old.edits.items
  pub modes : of_openers mode new.edits.items ≡ of_openers mode old.edits.items

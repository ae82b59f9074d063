-- What a session comes to under the classes of a set.
use Rattle.std.specs.Prelude.{◌≡◌, ℕ, List, [], length, Option}
use Rattle.vh_params.specs.declared.class.ClassInfo.{ClassInfo}
use Rattle.vh_plugin.specs.Class.{Class}
use Rattle.vh_preset.specs.Contents.{Contents}
use Rattle.vh_session.specs.Content.{Content}
use Rattle.vh_meaning.specs.Scene.{Scene, scene_of}
use Rattle.vh_instance.specs.Band.{Plan, code_at, by_node}
use Rattle.vh_instance.specs.Presets.{mode_at}
use Rattle.vh_instance.specs.Firsts.{first_values}
use Rattle.vh_instance.specs.Raised.{raised_times}

-- what a set tells of its classes, the code of each, and what a code means
pub record Known : Type 0 where
  pub infos : List ClassInfo
  pub code : ℕ → ℕ
  pub class_of : ℕ → Class

-- a session's nodes with their presets under these classes, for blocks of at most so many samples
abbrev pub plan_of : Known → Content → List (Option Contents) → ℕ → Plan
plan_of known content presets max = record { content = content; presets = presets; infos = known.infos; code = known.code; class_of = known.class_of; max = max }

abbrev pub codes_of : Known → Content → List ℕ
codes_of known content = by_node (length content.nodes) (code_at (plan_of known content [] 0))

-- what is rendered of a session: its nodes by what their classes mean, at its first values
abbrev pub scene_under : Known → Content → List (Option Contents) → Scene
scene_under known content presets = scene_of known.class_of (codes_of known content) (first_values (plan_of known content presets 0)) content

-- how each node's controller shows its values
abbrev pub modes_under : Known → Content → List (Option Contents) → List ℕ
modes_under known content presets = by_node (length content.nodes) (mode_at (plan_of known content presets 0))

-- as many objects were ended as were made
abbrev pub AreEnded : ℕ → ℕ → ℕ → ℕ → Type 0
AreEnded made ended made_now ended_now = (objects : ℕ) × (made_now ≡ raised_times objects made) × (ended_now ≡ raised_times objects ended)

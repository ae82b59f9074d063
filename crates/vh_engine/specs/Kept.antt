-- What callers see of an engine.
use Rattle.std.specs.Prelude.{◌≡◌, ◌<◌, ◌≤◌, ◌+◌, ◌*◌, ◌^◌, ℕ, Bool, true, false, List, [], length, map, slice_index_or, All, ℤ, filter_map}
use Rattle.vh_component.specs.declared.setup.Setup.{Setup}
use Rattle.vh_counted.specs.declared.numbers.Numbers.{Numbers}
use Rattle.vh_counted.specs.declared.object.Object.{Object}
use Rattle.vh_params.specs.declared.command.Command.{Command}
use Rattle.vh_params.specs.declared.command.Command.TheVariants.{Begin, Perform, End, Tell}
use Rattle.vh_plugin.specs.Class.{Class, State, has_writable}
use Rattle.vh_num.specs.Frames.{Frame, frame_at}
use Rattle.vh_session.specs.Content.{Content}
use Rattle.vh_journal.specs.declared.entry.Entry.{Entry}
use Rattle.vh_meaning.specs.Scene.{Scene, scene_of, node_count, params_at}
use Rattle.vh_meaning.specs.Stands.{Touch, Standing, StandsFor}
use Rattle.vh_meaning.specs.World.{input_at}
use Rattle.vh_meaning.specs.Rendering.{Answer, out_at, stops}
use Rattle.vh_meaning.specs.Laws.{AreNext}
use Rattle.vh_engine.specs.Between.{IsWithinOne}

pub record Kept : Type 0 where
  pub session : Content
  -- of each node: its class's code, its processor's state, how often it was called, and the object and the numbers
  -- of its opener
  pub codes : List ℕ
  pub states : List State
  pub calls : List ℕ
  pub holders : List (Object × Numbers)
  -- the first values, node by node
  pub firsts : List ℕ
  -- of each node what its parameters were left at
  pub touches : List (List Touch)
  -- what is seen of all parameters, node by node
  pub values : List ℕ
  pub answers : List Answer
  -- the next sample
  pub at : ℕ
  -- the most frames of a block, and how many more answers there is room for
  pub max : ℕ
  pub room : ℕ
  pub flushed : Bool

abbrev pub scene_in : (ℕ → Class) → Kept → Scene
scene_in class_of kept = scene_of class_of kept.codes kept.firsts kept.session

abbrev pub standing_in : Kept → Standing
standing_in kept = record {
  states = λ node. slice_index_or kept.states node [];
  touches = λ node. slice_index_or kept.touches node [];
  answers = kept.answers;
}

-- it stands for an input and entries before its next sample
abbrev pub Stands : (ℕ → Class) → Kept → List Frame → List Entry → Type 0
Stands class_of kept input h = StandsFor (scene_in class_of kept) (standing_in kept) kept.at input h

-- a command on a node that is there, and on a writable parameter of it
abbrev pub IsFor : Scene → Command → Type 0
IsFor scene (Begin node id) = (node < node_count scene) × (has_writable (params_at scene node) id ≡ true)
IsFor scene (Perform node id value) = (node < node_count scene) × (has_writable (params_at scene node) id ≡ true) × (value ≤ 2 ^ 24)
IsFor scene (End node id) = (node < node_count scene) × (has_writable (params_at scene node) id ≡ true)
IsFor scene (Tell node words) = node < node_count scene

-- entries that a block may carry, from its first sample to the one before `past`: their samples never fall, and
-- messages stand at the first alone
pub record MayCarry (scene : Scene) (at past room : ℕ) (entries : List Entry) : Type 0 where
  pub next : AreNext scene at entries
  pub within : All (λ entry. entry.sample < past) entries
  pub commands : All (λ entry. IsFor scene entry.command) entries
  pub few : length (stops entries) ≤ room

-- samples that stand channel after channel are these frames of the input
abbrev pub AreInput : Scene → List Frame → ℕ → ℕ → List ℤ → Type 0
AreInput scene input at n samples = (place : ℕ) → place < n → frame_at scene.channels n samples place ≡ input_at scene input (at + place)

-- and are those that the rendering gives
abbrev pub AreOut : Scene → List Frame → List Entry → ℕ → ℕ → List ℤ → Type 0
AreOut scene input h at n samples = (place : ℕ) → place < n → frame_at scene.channels n samples place ≡ out_at scene input h (at + place)

-- what no call changes
pub record IsSameEngine (old new : Kept) : Type 0 where
  pub session : new.session ≡ old.session
  pub codes : new.codes ≡ old.codes
  pub firsts : new.firsts ≡ old.firsts
  pub holders : new.holders ≡ old.holders
  pub max : new.max ≡ old.max

-- and what only the run of the nodes or the end changes
pub record IsSameCount (old new : Kept) : Type 0 where
  pub calls : new.calls ≡ old.calls
  pub at : new.at ≡ old.at
  pub flushed : new.flushed ≡ old.flushed

-- From what is kept before some samples to what is kept behind them: what a renderer that goes block by block shows.
use Rattle.std.specs.Prelude.{◌≡◌, ◌<◌, ◌≤◌, ℕ, ◌+◌, List, [], ◌∷◌, ◌++◌, All}
use Rattle.vh_num.specs.Frames.{Frame}
use Rattle.vh_plugin.specs.Class.{Param, State}
use Rattle.vh_session.specs.declared.wire.End.TheVariants.{Node as AtNode}
use Rattle.vh_session.specs.declared.wire.Wire.{Wire}
use Rattle.vh_journal.specs.declared.entry.Entry.{Entry}
use Rattle.vh_meaning.specs.Scene.{Scene, node_count, class_at, params_at, firsts_at}
use Rattle.vh_meaning.specs.Edits.{up_to}
use Rattle.vh_meaning.specs.Frames.{out_of}
use Rattle.vh_meaning.specs.World.{input_at, frame_at}
use Rattle.vh_meaning.specs.Rendering.{seen_at, of_all, seen_before, last_values}
use Rattle.vh_meaning.specs.Stands.{Touch, Standing, AllBefore, StandsFor}
use Rattle.vh_meaning.specs.Steps.{touches_through, values_now, values_in, applied}
use Rattle.vh_meaning.specs.Trace.{IsTrace}
use Rattle.vh_meaning.specs.Laws.{HasOrder, AreNext, StandsAfter}

-- parameters at their first values, and no gesture
abbrev pub untouched : List Param → List ℕ → List Touch
untouched [] firsts = []
untouched (param ∷ params) [] = []
untouched (param ∷ params) (first ∷ firsts) = record { value = first; begun = 0; ended = 0 } ∷ untouched params firsts

-- before the first sample: each class's start, the first values, and no answer
abbrev pub at_first : Scene → Standing
at_first scene = record {
  states = λ node. (class_at scene node).start;
  touches = λ node. untouched (params_at scene node) (firsts_at scene node);
  answers = [];
}

-- That stands for every input, before the first sample.
abbrev pub StandsAtFirst : Type 0
StandsAtFirst = (scene : Scene) (input : List Frame) → StandsFor scene (at_first scene) 0 input []

-- each node's values at a sample of a block, from what is kept before the block and from its entries
abbrev pub values_within : Scene → Standing → List Entry → ℕ → ℕ → List ℕ
values_within scene standing entries s node =
    values_now scene node (params_at scene node) (touches_through scene (up_to s entries) node (params_at scene node) (standing.touches node)) s

-- the same parameters and answers, with other states
abbrev pub with_states : (ℕ → State) → Standing → Standing
with_states states standing = record { states = states; touches = standing.touches; answers = standing.answers }

-- A block of n samples, with entries of which messages stand at its first sample alone. Where states and frames form a
-- trace over its samples, from the states that the entries leave, what is kept is carried over the block, and the
-- frames are the world's.
abbrev pub OneBlock : Type 0
OneBlock = (scene : Scene) (standing : Standing) (at n : ℕ) (input : List Frame) (h entries : List Entry) (states : ℕ → ℕ → State) (frames : ℕ → ℕ → Frame)
    → HasOrder scene → 0 < n
    → StandsFor scene standing at input h
    → AreNext scene at entries → AllBefore (at + n) entries
    → ((node : ℕ) → node < node_count scene → states 0 node ≡ (applied scene at entries standing).states node)
    → IsTrace scene n (λ o. values_within scene standing entries (at + o)) (λ o. input_at scene input (at + o)) states frames
    → StandsFor scene (with_states (states n) (applied scene at entries standing)) (at + n) input (h ++ entries)
    × ((o node : ℕ) → o < n → node < node_count scene → frames o node ≡ frame_at scene input (h ++ entries) (at + o) node)

-- a wire that begins at a node begins at one of the scene
abbrev pub IsFromScene : Scene → Wire → Type 0
IsFromScene scene wire = (node : ℕ) → wire.from ≡ AtNode node → node < node_count scene

-- What reaches the output hangs on the frames of the scene's nodes.
abbrev pub OutFromFrames : Type 0
OutFromFrames = (scene : Scene) (input : Frame) (frames others : ℕ → Frame) → All (IsFromScene scene) scene.wires
    → ((node : ℕ) → node < node_count scene → frames node ≡ others node)
    → out_of scene input frames ≡ out_of scene input others

-- What is kept behind a sample shows what is seen there.
abbrev pub SeenFromKept : Type 0
SeenFromKept = (scene : Scene) (standing : Standing) (s : ℕ) (input : List Frame) (h : List Entry) → StandsFor scene standing (s + 1) input h
    → of_all scene (seen_at scene standing.states (values_in scene standing s)) ≡ seen_before scene input h (s + 1)

-- And what is kept after the entries at the length shows what is seen at the end.
abbrev pub LastFromKept : Type 0
LastFromKept = (scene : Scene) (standing : Standing) (input : List Frame) (h : List Entry) → StandsAfter scene standing scene.length input h
    → All (λ entry. entry.sample ≤ scene.length) h
    → of_all scene (seen_at scene standing.states (values_in scene standing scene.length)) ≡ last_values scene input h

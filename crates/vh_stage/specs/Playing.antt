-- A rendering that is played block by block.
use Rattle.std.specs.Prelude.{◌≡◌, ◌≤◌, ◌<◌, ℕ, List, ◌++◌, length, map, drop, slice_index_or, All}
use Rattle.std.specs.List.{range_with_len}
use Rattle.vh_num.specs.Frames.{Frame}
use Rattle.vh_params.specs.Nodes.{node_at}
use Rattle.vh_plugin.specs.Class.{Class, param_of}
use Rattle.vh_journal.specs.declared.entry.Entry.{Entry}
use Rattle.vh_meaning.specs.Scene.{Scene, node_count, params_at, firsts_at}
use Rattle.vh_meaning.specs.Rendering.{out_at}
use Rattle.vh_engine.specs.Kept.{Kept, scene_in, Stands}

-- the classes of the nodes have the parameters that the session tells of, each with a first value
pub record HasClasses (class_of : ℕ → Class) (kept : Kept) : Type 0 where
  pub count : node_count (scene_in class_of kept) ≡ length kept.session.nodes
  pub params : (node : ℕ) → node < length kept.session.nodes → params_at (scene_in class_of kept) node ≡ map param_of (node_at kept.session.nodes node).params
  pub firsts : (node : ℕ) → node < length kept.session.nodes → length (firsts_at (scene_in class_of kept) node) ≡ length (node_at kept.session.nodes node).params

-- The engine had some input up to its next sample: it stands for that input, whatever comes behind it, and for these
-- entries.
pub record IsUnderWay (class_of : ℕ → Class) (kept : Kept) (journal : List Entry) : Type 0 where
  pub input : List Frame
  pub so_far : length input ≡ kept.at
  pub stands : (later : List Frame) → Stands class_of kept (input ++ later) journal

-- samples never fall, and none is past `at`
pub record IsUpTo (at : ℕ) (entries : List Entry) : Type 0 where
  pub never_fall : (i j : ℕ) (d : Entry) → i ≤ j → j < length entries → (slice_index_or entries i d).sample ≤ (slice_index_or entries j d).sample
  pub most : (i : ℕ) (d : Entry) → i < length entries → (slice_index_or entries i d).sample ≤ at

-- entries of one sample
abbrev pub AreAt : ℕ → List Entry → Type 0
AreAt at entries = All (λ entry. entry.sample ≡ at) entries

-- frames of a rendering, from a sample on
abbrev pub frames_from : Scene → List Frame → List Entry → ℕ → ℕ → List Frame
frames_from scene input h at n = map (out_at scene input h) (range_with_len at n)

-- A rendering of this input under way: the engine stands for the entries so far, and the input is read up to the
-- engine's sample.
pub record IsRead {F : Type 0} (reads : F → List Frame → Type 0) (class_of : ℕ → Class) (kept : Kept) (frames : F) (input : List Frame) (journal : List Entry) : Type 0 where
  pub stands : Stands class_of kept input journal
  pub reads_on : reads frames (drop kept.at input)

-- And where these frames were written before it: what was written is the rendering up to the engine's sample.
pub record IsHeard {F : Type 0} (reads wrote : F → List Frame → Type 0) (class_of : ℕ → Class) (kept : Kept) (frames : F) (input before : List Frame) (journal : List Entry) : Type 0 where
  pub stands : Stands class_of kept input journal
  pub reads_on : reads frames (drop kept.at input)
  pub written : wrote frames (before ++ frames_from (scene_in class_of kept) input journal 0 kept.at)

-- What was written, and then what failed to be, is a front part of a rendering, as far as this sample at most.
pub record IsFront {F : Type 0} (wrote : F → List Frame → Type 0) (scene : Scene) (frames : F) (cut : List Frame) (input before : List Frame) (journal : List Entry) (most : ℕ) : Type 0 where
  pub pushed : List Frame
  pub count : ℕ
  pub within : count ≤ most
  pub written : wrote frames (before ++ pushed)
  pub front : pushed ++ cut ≡ frames_from scene input journal 0 count

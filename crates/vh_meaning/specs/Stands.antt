-- What is kept of a rendering between samples, in place of the entries.
use Rattle.std.specs.Prelude.{◌≡◌, ◌<◌, ℕ, Bool, nat_lt, List, [], ◌∷◌, count_by, All, Option}
use Rattle.vh_num.specs.Frames.{Frame}
use Rattle.vh_plugin.specs.Class.{Param, State}
use Rattle.vh_journal.specs.declared.entry.Entry.{Entry}
use Rattle.vh_meaning.specs.Scene.{Scene, node_count, params_at, firsts_at, lane_of}
use Rattle.vh_meaning.specs.Edits.{Edit, is_begin, is_end, edits_of}
use Rattle.vh_meaning.specs.Values.{held}
use Rattle.vh_meaning.specs.World.{world}
use Rattle.vh_meaning.specs.Rendering.{Answer, answers}

-- a parameter: the value that it was left at, and how many gestures began and ended
pub record Touch : Type 0 where
  pub value : ℕ
  pub begun : ℕ
  pub ended : ℕ

abbrev pub is_touched : Touch → Bool
is_touched touch = nat_lt touch.ended touch.begun

-- what edits, of which the latest stands first, leave of it
abbrev pub touch_after : Option (ℕ → ℕ) → ℕ → ℕ → List Edit → Touch
touch_after lane steps first edits = record { value = held lane steps first edits; begun = count_by is_begin edits; ended = count_by is_end edits }

-- so of each of these parameters, with its first value
abbrev pub touches_of : Scene → List Entry → ℕ → List Param → List ℕ → List Touch
touches_of scene h node [] firsts = []
touches_of scene h node (param ∷ params) [] = []
touches_of scene h node (param ∷ params) (first ∷ firsts) =
    touch_after (lane_of scene node param) param.steps first (edits_of h node param.id) ∷ touches_of scene h node params firsts

-- a node's parameters after these entries
abbrev pub touches_at : Scene → List Entry → ℕ → List Touch
touches_at scene h node = touches_of scene h node (params_at scene node) (firsts_at scene node)

-- the entries lie before a sample, or not behind it
abbrev pub AllBefore : ℕ → List Entry → Type 0
AllBefore s h = All (λ entry. entry.sample < s) h

-- what is kept: each node's state and parameters, and the answers so far
pub record Standing : Type 0 where
  pub states : ℕ → State
  pub touches : ℕ → List Touch
  pub answers : List Answer

-- It stands for an input and a list of entries before a sample: the states are the world's there, the parameters
-- and the answers are those after the entries.
pub record StandsFor (scene : Scene) (standing : Standing) (s : ℕ) (input : List Frame) (h : List Entry) : Type 0 where
  pub states : (node : ℕ) → node < node_count scene → standing.states node ≡ world scene input h s node
  pub touches : (node : ℕ) → node < node_count scene → standing.touches node ≡ touches_at scene h node
  pub answers : standing.answers ≡ answers scene input h
  pub before : AllBefore s h

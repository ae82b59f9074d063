-- What a machine has between events.
use Rattle.std.specs.Prelude.{ℕ, Bool, false, List, [], length, replicate, if◌then◌else◌}
use Rattle.vh_params.specs.declared.command.Word.{Word}
use Rattle.vh_num.specs.Frames.{Frame}
use Rattle.vh_plugin.specs.Class.{Class}
use Rattle.vh_journal.specs.declared.entry.Entry.{Entry}
use Rattle.vh_session.specs.Content.{Content}
use Rattle.vh_meaning.specs.Scene.{Scene, scene_of, firsts_at}
use Rattle.vh_meaning.specs.Rendering.{Answer, of_all, seen_before, last_values}
use Rattle.vh_core.specs.declared.sent.Sent.{Sent}

-- what a machine runs over: a session, what its nodes' classes mean, the first values, and the input
pub record Setting : Type 0 where
  pub session : Content
  pub class_of : ℕ → Class
  pub codes : List ℕ
  -- node by node and within each by rising id
  pub firsts : List ℕ
  pub input : List Frame

abbrev pub scene_in : Setting → Scene
scene_in setting = scene_of setting.class_of setting.codes setting.firsts setting.session

-- what is on its way back to the controllers
pub data Return : Type 0 where
  -- a parameter, by its place among those of all nodes, and its value
  Echo : ℕ → ℕ → Return
  Reply : Answer → Return

pub record State : Type 0 where
  -- what editors put so far, whether it was accepted or not
  pub puts : List (ℕ × Word)
  -- what waits to be taken, the oldest first
  pub inbox : List Sent
  pub journal : List Entry
  -- how many samples were rendered, and their frames
  pub pos : ℕ
  pub frames : List Frame
  pub flushed : Bool
  pub returns : List Return
  -- of each parameter: a change of it waits to be told, and the value that its controller has
  pub flags : List Bool
  pub controllers : List ℕ

-- what the processors show of all parameters, node by node
abbrev pub seen : Setting → State → List ℕ
seen setting state =
    if state.flushed then last_values (scene_in setting) setting.input state.journal
    else seen_before (scene_in setting) setting.input state.journal state.pos

-- the first values, as they are seen
abbrev pub at_first : Setting → List ℕ
at_first setting = of_all (scene_in setting) (firsts_at (scene_in setting))

-- before the first event
abbrev pub begun : Setting → State
begun setting = record {
  puts = [];
  inbox = [];
  journal = [];
  pos = 0;
  frames = [];
  flushed = false;
  returns = [];
  flags = replicate (length (at_first setting)) false;
  controllers = at_first setting;
}

-- What a rendering gives.
use Rattle.std.specs.Prelude.{ℕ, zero, suc, List, [], ◌∷◌, ◌++◌, map, Option, Some, None, if◌then◌else◌}
use Rattle.std.specs.List.{range_with_len, filter_map, flat_map}
use Rattle.vh_params.specs.declared.command.Command.{Command}
use Rattle.vh_params.specs.declared.command.Command.TheVariants.{Begin, Perform, End, Tell}
use Rattle.vh_params.specs.Short.{words_in}
use Rattle.vh_params.specs.Flags.{is_read_only}
use Rattle.vh_num.specs.Frames.{Frame}
use Rattle.vh_plugin.specs.Class.{Param, Class, State}
use Rattle.vh_journal.specs.declared.entry.Entry.{Entry}
use Rattle.vh_meaning.specs.Scene.{Scene, node_count, class_at, params_at, firsts_at}
use Rattle.vh_meaning.specs.Values.{values_at}
use Rattle.vh_meaning.specs.Frames.{out_of}
use Rattle.vh_meaning.specs.World.{input_at, after_messages, world, after, frame_at}

-- the output's frame at a sample
abbrev pub out_at : Scene → List Frame → List Entry → ℕ → Frame
out_at scene input h s = out_of scene (input_at scene input s) (frame_at scene input h s)

-- the samples: the output's frames from the first to the last
abbrev pub rendering : Scene → List Frame → List Entry → List Frame
rendering scene input h = map (out_at scene input h) (range_with_len 0 scene.length)

-- what is seen of parameters with these values: a read-only one as the state shows it
abbrev pub seen_of : Class → State → List Param → List ℕ → List ℕ
seen_of class state [] values = []
seen_of class state (param ∷ params) [] = []
seen_of class state (param ∷ params) (value ∷ values) =
    (if is_read_only param.flags then class.shown state param.id else value) ∷ seen_of class state params values

abbrev pub seen_at : Scene → (ℕ → State) → (ℕ → List ℕ) → ℕ → List ℕ
seen_at scene states values node = seen_of (class_at scene node) (states node) (params_at scene node) (values node)

-- what is seen of each node in turn
abbrev pub of_all : Scene → (ℕ → List ℕ) → List ℕ
of_all scene of_node = flat_map of_node (range_with_len 0 (node_count scene))

-- all parameters before a sample: at first the first values, then those of the sample before
abbrev pub seen_before : Scene → List Frame → List Entry → ℕ → List ℕ
seen_before scene input h zero = of_all scene (firsts_at scene)
seen_before scene input h (suc s) = of_all scene (seen_at scene (world scene input h (suc s)) (values_at scene h s))

-- and at the end, after the entries at the length
abbrev pub last_values : Scene → List Frame → List Entry → List ℕ
last_values scene input h = of_all scene (seen_at scene (after scene input h scene.length) (values_at scene h scene.length))

-- what a node answered to a message
pub record Answer : Type 0 where
  pub node : ℕ
  pub sample : ℕ
  pub words : List ℕ

abbrev pub answer_of : Scene → (ℕ → State) → (ℕ → List ℕ) → ℕ → ℕ → List ℕ → Answer
answer_of scene states values sample node words = record {
  node = node;
  sample = sample;
  words = (class_at scene node).reply (states node) (values node) words;
}

-- the answer to a command, where it is a message
abbrev pub answers_by : Scene → (ℕ → State) → (ℕ → List ℕ) → ℕ → Command → List Answer
answers_by scene states values sample (Begin node id) = []
answers_by scene states values sample (Perform node id value) = []
answers_by scene states values sample (End node id) = []
answers_by scene states values sample (Tell node words) = answer_of scene states values sample node (words_in words) ∷ []

-- the answer to an entry behind these: from the state in which the messages before it left its node, and the values
-- after the entries before it
abbrev pub answer_to : Scene → List Frame → List Entry → List Entry → Entry → List Answer
answer_to scene input h before entry =
    answers_by scene (after_messages scene entry.sample [] before (world scene input h entry.sample))
    (values_at scene before entry.sample) entry.sample entry.command

-- the answers to entries, of which these stand `before` the first
abbrev pub answers_from : Scene → List Frame → List Entry → List Entry → List Entry → List Answer
answers_from scene input h before [] = []
answers_from scene input h before (entry ∷ later) = answer_to scene input h before entry ++ answers_from scene input h (before ++ entry ∷ []) later

-- one for each message, in the entries' order
abbrev pub answers : Scene → List Frame → List Entry → List Answer
answers scene input h = answers_from scene input h [] h

-- the sample of a message
abbrev pub message_sample : ℕ → Command → Option ℕ
message_sample sample (Begin node id) = None
message_sample sample (Perform node id value) = None
message_sample sample (End node id) = None
message_sample sample (Tell node words) = Some sample

-- where pieces stop: at the samples of messages
abbrev pub stops : List Entry → List ℕ
stops h = filter_map (λ entry. message_sample entry.sample entry.command) h

-- What a machine keeps.
use Rattle.std.specs.Prelude.{◌≡◌, ℕ, false, List, [], ◌∷◌, length, map, replicate, All, ℤ, zero, suc, if◌then◌else◌}
use Rattle.std.specs.List.{flat_map}
use Rattle.vh_params.specs.declared.command.Reply.{Reply}
use Rattle.vh_params.specs.Short.{words_in}
use Rattle.vh_num.specs.Frames.{Frame}
use Rattle.vh_plugin.specs.Class.{Class, State as Held}
use Rattle.vh_session.specs.Content.{Content}
use Rattle.vh_meaning.specs.World.{world, after}
use Rattle.vh_meaning.specs.Rendering.{Answer}
use Rattle.vh_core.specs.declared.returns.Return.{Return as Stored}
use Rattle.vh_core.specs.declared.returns.Return.TheVariants as stored
use Rattle.vh_core.specs.declared.kept.Kept.{Kept}
use Rattle.vh_core.specs.declared.stage.Plan.{Plan}
use Rattle.vh_core.specs.State.{Setting, scene_in, Return, Echo, State, seen}
use Rattle.vh_core.specs.State as machine
use Rattle.vh_core.specs.Run.{Run}
use Rattle.vh_core.specs.Sound.{IsSound}
use Rattle.vh_core.specs.Playing.{HaveStates, setting_by, IsPlayable, ArePlayable}

abbrev pub answer_of : Reply → Answer
answer_of reply = record { node = reply.node; sample = reply.sample; words = words_in reply.words }

abbrev pub return_of : Stored → Return
return_of (stored.Echo place value) = Echo place value
return_of (stored.Reply reply) = machine.Reply (answer_of reply)

-- the frames of samples that stand frame by frame, of one channel or two
abbrev pub pairs : List ℤ → List Frame
pairs [] = []
pairs (left ∷ []) = []
pairs (left ∷ right ∷ samples) = (left ∷ right ∷ []) ∷ pairs samples

abbrev pub interleaved : ℕ → List ℤ → List Frame
interleaved zero samples = []
interleaved (suc zero) samples = map (λ sample. sample ∷ []) samples
interleaved (suc (suc _)) samples = pairs samples

-- the samples of frames, frame by frame
abbrev pub samples_of : List Frame → List ℤ
samples_of frames = flat_map (λ frame. frame) frames

abbrev pub state_in : ℕ → Kept → State
state_in channels kept = record {
  puts = kept.puts.items;
  inbox = kept.inbox.items;
  journal = kept.journal.items;
  pos = kept.pos;
  frames = interleaved channels kept.frames.items;
  flushed = kept.flushed;
  returns = map return_of kept.returns.items;
  flags = replicate (length kept.values.items) false;
  controllers = kept.controllers.items;
}

abbrev pub run_in : {P : Type 0} → (P → ℕ) → Content → Plan → List P → Kept → Run
run_in code session plan processors kept = record {
  session = session;
  codes = map code processors;
  firsts = plan.firsts.items;
  state = state_in session.channels kept;
}

-- the states of all nodes: before the next sample, or behind the messages at the end
abbrev pub states_at : Setting → State → ℕ → Held
states_at setting state =
    if state.flushed then after (scene_in setting) setting.input state.journal (scene_in setting).length
    else world (scene_in setting) setting.input state.journal state.pos

-- It stands where the definitions have it: the processors are in the world's states, what is seen of them is kept, and
-- what waits and what was taken can be played.
pub record IsCurrent {P : Type 0} (class_of : ℕ → Class) (code : P → ℕ) (state : P → Held) (session : Content) (plan : Plan) (processors : List P) (kept : Kept) : Type 0 where
  pub sound : IsSound (setting_by class_of code session plan.firsts.items processors) (state_in session.channels kept)
  pub states : HaveStates state processors (states_at (setting_by class_of code session plan.firsts.items processors) (state_in session.channels kept))
  pub values : kept.values.items ≡ seen (setting_by class_of code session plan.firsts.items processors) (state_in session.channels kept)
  pub whole : samples_of (interleaved session.channels kept.frames.items) ≡ kept.frames.items
  pub waits : All (λ sent. IsPlayable (length session.nodes) sent.command) kept.inbox.items
  pub taken : ArePlayable (length session.nodes) kept.journal.items

-- nothing was put, taken, rendered or told
pub record HasNothing (kept : Kept) : Type 0 where
  pub puts : kept.puts.items ≡ []
  pub inbox : kept.inbox.items ≡ []
  pub journal : kept.journal.items ≡ []
  pub pos : kept.pos ≡ 0
  pub frames : kept.frames.items ≡ []
  pub flushed : kept.flushed ≡ false
  pub returns : kept.returns.items ≡ []

-- the same, but for room
pub record IsSameKept (old new : Kept) : Type 0 where
  pub puts : new.puts.items ≡ old.puts.items
  pub inbox : new.inbox.items ≡ old.inbox.items
  pub journal : new.journal.items ≡ old.journal.items
  pub pos : new.pos ≡ old.pos
  pub frames : new.frames.items ≡ old.frames.items
  pub flushed : new.flushed ≡ old.flushed
  pub returns : new.returns.items ≡ old.returns.items
  pub values : new.values.items ≡ old.values.items
  pub controllers : new.controllers.items ≡ old.controllers.items

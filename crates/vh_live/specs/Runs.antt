-- A session and its band while they are played.
use Rattle.std.specs.Prelude.{◌≡◌, ◌≢◌, ◌≤◌, ◌+◌, ℕ, true, false, List, [], length, map, sum, All, Result, Err, OnOk, OnErr, vec_capacity}
use Rattle.vh_cut.specs.Cut.{IsPattern, pieces_of}
use Rattle.vh_files.specs.Causes.{Rose}
use Rattle.vh_num.specs.Frames.{Frame}
use Rattle.vh_params.specs.Nodes.{nodes_of}
use Rattle.vh_plugin.specs.Class.{Class}
use Rattle.vh_session.specs.declared.session.Session.{Session}
use Rattle.vh_session.specs.Names.{content_of}
use Rattle.vh_legal.specs.Legal.{scripts_of}
use Rattle.vh_engine.specs.Kept.{scene_in, Stands, IsSameEngine}
use Rattle.vh_engine.specs.Parts.{IsFresh}
use Rattle.vh_render.specs.Playing.{called}
use Rattle.vh_wav.specs.declared.stream.Frames as frames
use Rattle.vh_inbox.specs.Values.{AtDrain, item_of, new_drain}
use Rattle.vh_back.specs.Ends.{new_follower}
use Rattle.vh_back.specs.Follows.{AreAsBefore}
use Rattle.vh_instance.specs.declared.band.Band.{Band}
use Rattle.vh_instance.specs.Band.{ProcessorMeaning, ControllerMeaning, of_openers}
use Rattle.vh_stage.specs.declared.stage.Stage.{Stage}
use Rattle.vh_stage.specs.declared.stopped.Stopped.{Stopped}
use Rattle.vh_stage.specs.declared.stopped.Stopped.TheVariants.{ReadFailed, WriteFailed, Unfit}
use Rattle.vh_stage.specs.Carried.{AreOn}
use Rattle.vh_stage.specs.Parameters.{all_parameters}
use Rattle.vh_stage.specs.Playing.{IsRead, IsHeard, IsFront, IsUpTo}
use Rattle.vh_stage.specs.Staged.{IsReady, IsTold, IsSameStage, AreAtBlocks, parameters_in, ring_in}
use Rattle.vh_editors.specs.Scripts.{quotas_of}
use Rattle.vh_editors.specs.Values.{AtEditors, seated}
use Rattle.vh_hands.specs.declared.hands.Hands.{Hands}
use Rattle.vh_hands.specs.Following.{IsFollowing}
use Rattle.vh_live.specs.declared.run.Run.{Run}

-- A run of a session by a band before its first block: its editors haven't begun, and nothing was taken of them.
pub record IsSetUp {P C : Type 0} (processed_by controlled_by : ℕ → Class) (processing : ProcessorMeaning P) (controlling : ControllerMeaning C) (session : Session) (band : Band P C) (run : Run P C) : Type 0 where
  -- the most frames of a block, and the most edits
  pub max : ℕ
  pub edits : ℕ
  pub fresh : IsFresh processed_by processing.code processing.calls (record { session = session; processors = band.processors; first = band.first }) max edits run.stage.engine
  pub ready : IsReady processed_by run.stage
  pub stands : (input : List Frame) → Stands processed_by run.stage.engine input []
  pub empty : run.stage.journal.items ≡ []
  pub told : IsTold run.stage band.first.items
  pub parameters : parameters_in run.stage ≡ all_parameters (nodes_of session.nodes)
  pub room : sum (quotas_of (scripts_of session)) ≤ vec_capacity run.stage.journal
  pub sizes : run.sizes.items ≡ (content_of session).pattern
  pub pattern : IsPattern run.sizes.items
  pub within : All (λ size. size ≤ max) run.sizes.items
  pub editors : run.editors ≡ seated run.drain.inbox (nodes_of session.nodes) (scripts_of session) false
  pub drain : run.drain ≡ new_drain run.drain.inbox run.drain.capacity (quotas_of (scripts_of session))
  pub none_refused : run.refused.items ≡ []
  pub places : length (scripts_of session) ≤ vec_capacity run.refused
  pub components : run.components ≡ band.components
  pub controllers : run.hands.controllers ≡ band.controllers
  pub openers : run.hands.edits ≡ band.edits
  pub holders : run.hands.holders ≡ band.holders
  pub follower : run.hands.follower ≡ new_follower (ring_in run.stage)
  pub following : IsFollowing controlled_by controlling.code controlling.values (of_openers controlling.values band.edits.items) run.hands

-- what a rendering needs for its blocks, of these sizes, to be played
pub record MayBegin {P I : Type 0} (class_of : ℕ → Class) (g : frames.Ghosts I) (sound : I) (sizes : List ℕ) (stage : Stage P) : Type 0 where
  pub ready : IsReady class_of stage
  pub begins : stage.engine.at ≡ 0
  pub empty : stage.journal.items ≡ []
  pub pattern : IsPattern sizes
  pub within : All (λ size. size ≤ stage.engine.max) sizes
  pub channels : g.channels sound ≡ stage.engine.session.channels
  pub max : All (λ size. size ≤ g.max sound) sizes
  pub whole : g.cut sound ≡ []
  pub space : g.pushed sound + stage.engine.session.length ≤ g.room sound

-- how frames were left by the blocks, which may have stopped
pub record AreLeft {I : Type 0} (g : frames.Ghosts I) (old new : I) (result : Result Unit Stopped) : Type 0 where
  pub uncut : OnOk result (g.cut new ≡ [])
  pub cut : result ≡ Err WriteFailed → g.cut new ≢ []
  pub read : result ≡ Err ReadFailed → Rose (g.pull_faults old) (g.pull_faults new)
  pub write : result ≡ Err WriteFailed → Rose (g.push_faults old) (g.push_faults new)
  pub reads_later : g.pull_faults old ≤ g.pull_faults new
  pub writes_later : g.push_faults old ≤ g.push_faults new
  pub channels : g.channels new ≡ g.channels old
  pub space : g.room new ≡ g.room old
  pub max : g.max new ≡ g.max old
  pub rest : g.rest new ≡ g.rest old

-- what the audio came to, by what it took from the drain: where no block stopped it, all samples
pub record IsSounded {P I : Type 0} (class_of : ℕ → Class) (g : frames.Ghosts I) (sound sound_now : I) (sizes : List ℕ) (stage now : Stage P) (drain drain_now : AtDrain) (result : Result Unit Stopped) : Type 0 where
  pub heard : (input before : List Frame) → IsHeard g.reads g.wrote class_of stage.engine sound input before []
      → OnOk result (IsHeard g.reads g.wrote class_of now.engine sound_now input before now.journal.items)
  pub read : (input : List Frame) → IsRead g.reads class_of stage.engine sound input [] → OnOk result (IsRead g.reads class_of now.engine sound_now input now.journal.items)
  pub front : (input before : List Frame) → IsHeard g.reads g.wrote class_of stage.engine sound input before []
      → OnErr result (IsFront g.wrote (scene_in class_of stage.engine) sound_now (g.cut sound_now) input before now.journal.items stage.engine.session.length)
  pub ready : OnOk result (IsReady class_of now)
  pub at : OnOk result (now.engine.at ≡ stage.engine.session.length)
  pub calls : OnOk result (now.engine.calls ≡ map (called (length (pieces_of stage.engine.session.length sizes []))) stage.engine.calls)
  pub told : (firsts : List ℕ) → IsTold stage firsts → OnOk result (IsTold now firsts)
  pub same : IsSameEngine stage.engine now.engine
  pub same_stage : IsSameStage stage now
  pub taken : drain_now.taken ≡ map item_of now.journal.items
  pub drain_is : record drain_now { taken = [] } ≡ record drain { taken = [] }
  pub blocks : AreAtBlocks stage.engine.session.length sizes now.journal.items
  pub up_to : IsUpTo stage.engine.session.length now.journal.items
  pub fit : result ≡ Err Unfit → ¬ AreOn now.engine.session.nodes now.journal.items

-- what those beside the audio came to: the editors are done, and the controllers followed
pub record IsWorked {C : Type 0} (controlled_by : ℕ → Class) (controlling : ControllerMeaning C) (editors editors_now : AtEditors) (hands now : Hands C) : Type 0 where
  pub editors_are : editors_now ≡ record editors { done = true }
  pub following : (firsts : List (List ℕ)) → IsFollowing controlled_by controlling.code controlling.values firsts hands → IsFollowing controlled_by controlling.code controlling.values firsts now
  pub openers : AreAsBefore controlling.code controlling.mode hands.edits.items now.edits.items
  pub ring : now.follower.ring ≡ hands.follower.ring
  pub controllers : now.controllers ≡ hands.controllers
  pub holders : now.holders ≡ hands.holders

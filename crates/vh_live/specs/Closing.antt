-- The end of a run.
use Rattle.std.specs.Prelude.{◌≡◌, ◌≤◌, ◌++◌, ℕ, true, List, [], ◌∷◌, length, map, sum, Result, Ok, Err, OnOk, vec_capacity}
use Rattle.std.specs.List.{concat}
use Rattle.vh_num.specs.Frames.{Frame}
use Rattle.vh_params.specs.Nodes.{nodes_of}
use Rattle.vh_plugin.specs.Class.{Class}
use Rattle.vh_plugin.specs.Counts.{raised}
use Rattle.vh_journal.specs.declared.entry.Entry.{Entry}
use Rattle.vh_session.specs.declared.session.Session.{Session}
use Rattle.vh_session.specs.Names.{content_of}
use Rattle.vh_meaning.specs.Rendering.{answers, last_values}
use Rattle.vh_legal.specs.Legal.{IsLegal, scripts_of}
use Rattle.vh_engine.specs.Kept.{Kept, scene_in, Stands, IsSameEngine}
use Rattle.vh_engine.specs.Parts.{IsGivenBack}
use Rattle.vh_engine.specs.Staged.{answer_of}
use Rattle.vh_inbox.specs.Values.{item_of}
use Rattle.vh_instance.specs.Band.{ProcessorMeaning, ControllerMeaning, of_openers, objects_of}
use Rattle.vh_instance.specs.Seats.{opener_seat, row_seats, AreHeld}
use Rattle.vh_stage.specs.declared.stopped.Stopped.{Stopped}
use Rattle.vh_stage.specs.declared.stopped.Stopped.TheVariants.{ReadFailed, WriteFailed, Unfit}
use Rattle.vh_stage.specs.Carried.{AreOn}
use Rattle.vh_stage.specs.Parameters.{all_parameters}
use Rattle.vh_stage.specs.Playing.{IsUpTo, AreAt}
use Rattle.vh_stage.specs.Staged.{IsReady, IsTold, AreAtBlocks, parameters_in, ring_in}
use Rattle.vh_editors.specs.Scripts.{quotas_of, refused_by_each}
use Rattle.vh_editors.specs.Values.{ShareInbox}
use Rattle.vh_hands.specs.Hands.{AreInHand, AreForEditors}
use Rattle.vh_hands.specs.Following.{HaveParams, IsFollowing}
use Rattle.vh_live.specs.declared.outcome.Outcome.{Outcome}
use Rattle.vh_live.specs.declared.outcome.Outcome.TheVariants.{Done, Memory, ReadFailed as NotRead, WriteFailed as NotAdded}
use Rattle.vh_live.specs.declared.outcome.Played.{Played}
use Rattle.vh_live.specs.declared.run.Run.{Run}
use Rattle.vh_live.specs.Bands.{values_in}

-- A run whose blocks have ended, and whose editors are done: what was taken of them stands in the journal.
pub record IsOver {P C : Type 0} (class_of : ℕ → Class) (session : Session) (run : Run P C) (result : Result Unit Stopped) : Type 0 where
  pub session_is : run.stage.engine.session ≡ content_of session
  pub nodes : run.editors.nodes ≡ nodes_of session.nodes
  pub scripts : run.editors.scripts ≡ scripts_of session
  pub ready : OnOk result (IsReady class_of run.stage)
  pub at : OnOk result (run.stage.engine.at ≡ run.stage.engine.session.length)
  pub up_to : IsUpTo run.stage.engine.session.length run.stage.journal.items
  pub placed : AreAtBlocks session.length (content_of session).pattern run.stage.journal.items
  pub fit : result ≡ Err Unfit → ¬ AreOn run.stage.engine.session.nodes run.stage.journal.items
  pub done : run.editors.done ≡ true
  pub inbox : ShareInbox run.drain.inbox run.editors
  pub quotas : run.drain.quotas ≡ quotas_of run.editors.scripts
  pub lists : run.drain.lists ≡ []
  pub taken : run.drain.taken ≡ map item_of run.stage.journal.items
  pub room : sum (quotas_of run.editors.scripts) ≤ vec_capacity run.stage.journal
  pub none_refused : run.refused.items ≡ []
  pub places : length run.editors.scripts ≤ vec_capacity run.refused
  pub as_many : length run.editors.nodes ≡ length run.hands.controllers.items
  pub made : AreForEditors (length run.editors.scripts) run.hands.controllers.items run.hands.edits.items run.hands.holders.items
  pub ring : run.hands.follower.ring ≡ ring_in run.stage

-- how playing ended where the blocks came to this
abbrev pub outcome_of : Result Unit Stopped → Outcome
outcome_of (Ok done) = Done
outcome_of (Err ReadFailed) = NotRead
outcome_of (Err WriteFailed) = NotAdded
outcome_of (Err Unfit) = Memory

-- what the editors did is in the journal, what came after the last block at the length
pub record IsGathered {P C : Type 0} (run : Run P C) (journal : List Entry) (refused : List ℕ) : Type 0 where
  pub more : List Entry
  pub added : journal ≡ run.stage.journal.items ++ more
  pub at : AreAt run.stage.engine.session.length more
  pub legal : (pattern : List ℕ) → AreAtBlocks run.stage.engine.session.length pattern run.stage.journal.items → IsLegal run.editors.nodes run.stage.engine.session.length pattern run.editors.scripts journal
  pub refused_are : refused ≡ refused_by_each run.editors.nodes run.editors.scripts

-- A run that was taken apart. The rendering was ended where its blocks came to the length.
pub record IsClosed {P C : Type 0} (processed_by controlled_by : ℕ → Class) (processing : ProcessorMeaning P) (controlling : ControllerMeaning C) (run : Run P C) (result : Result Unit Stopped) (played : Played P C) : Type 0 where
  pub outcome : played.outcome ≡ outcome_of result
  pub gathered : IsGathered run played.journal.items played.refused.items
  -- the rendering at its end
  pub kept : Kept
  pub same : IsSameEngine run.stage.engine kept
  pub given : IsGivenBack processing.code processing.calls processing.state processing.phase kept (record { session = played.session; processors = played.band.processors; first = played.band.first })
  pub calls : OnOk result (kept.calls ≡ map raised run.stage.engine.calls)
  pub replies : (input : List Frame) → OnOk result (Stands processed_by run.stage.engine input run.stage.journal.items
      → map answer_of played.replies.items ≡ answers (scene_in processed_by run.stage.engine) input played.journal.items)
  pub values : (input : List Frame) (firsts : List (List ℕ)) → HaveParams controlled_by (of_openers controlling.code run.hands.edits.items) run.editors.nodes → parameters_in run.stage ≡ all_parameters run.editors.nodes
      → IsFollowing controlled_by controlling.code controlling.values firsts run.hands
      → OnOk result (Stands processed_by run.stage.engine input run.stage.journal.items → IsTold run.stage (concat firsts) → values_in controlling.values played.band ≡ last_values (scene_in processed_by run.stage.engine) input played.journal.items)
  -- the objects
  pub components : played.band.components ≡ run.components
  pub controllers : played.band.controllers ≡ run.hands.controllers
  pub codes : of_openers controlling.code played.band.edits.items ≡ of_openers controlling.code run.hands.edits.items
  pub modes : of_openers controlling.mode played.band.edits.items ≡ of_openers controlling.mode run.hands.edits.items
  pub hands : AreInHand run.editors.nodes run.editors.scripts (map row_seats played.band.holders.items)
  pub held : AreHeld (objects_of played.band.controllers.items) (map opener_seat played.band.edits.items ∷ map row_seats played.band.holders.items)

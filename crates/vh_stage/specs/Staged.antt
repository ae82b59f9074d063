-- A rendering while it is played, as callers see it.
use Rattle.std.specs.Prelude.{◌≡◌, ◌≤◌, ◌+◌, ◌*◌, ℕ, false, List, length, map, take, drop, All, vec_capacity}
use Rattle.vh_params.specs.declared.command.Reply.{Reply}
use Rattle.vh_plugin.specs.Class.{Class}
use Rattle.vh_journal.specs.declared.entry.Entry.{Entry}
use Rattle.vh_legal.specs.Blocks.{IsAtBlock}
use Rattle.vh_engine.specs.Staged.{answer_of}
use Rattle.vh_back.specs.Items.{replies, last_value}
use Rattle.vh_back.specs.Ends.{Ring, AtSender, offered}
use Rattle.vh_back.specs.Follows.{followed}
use Rattle.vh_back.specs.declared.item.Parameter.{Parameter}
use Rattle.vh_stage.specs.declared.stage.Stage.{Stage}
use Rattle.vh_stage.specs.Parameters.{all_parameters}
use Rattle.vh_stage.specs.Playing.{HasClasses, IsUnderWay, IsUpTo, AreAt}

-- the end of the link that sends, which ring that is, and the parameters that are told of
abbrev pub sender_in : {P : Type 0} → Stage P → AtSender
sender_in stage = stage.echoes.sender

abbrev pub ring_in : {P : Type 0} → Stage P → Ring
ring_in stage = stage.echoes.sender.ring

abbrev pub parameters_in : {P : Type 0} → Stage P → List Parameter
parameters_in stage = stage.echoes.parameters.items

-- the entries that the engine has, and those that it hasn't
abbrev pub taken_in : {P : Type 0} → Stage P → List Entry
taken_in stage = take stage.played stage.journal.items

abbrev pub waiting_in : {P : Type 0} → Stage P → List Entry
waiting_in stage = drop stage.played stage.journal.items

abbrev pub replies_in : {P : Type 0} → Stage P → List Reply
replies_in stage = stage.replies.items

-- The answers of these replies are those of the engine, one for each message so far.
abbrev pub AreReplied : {P : Type 0} → Stage P → List Reply → Type 0
AreReplied stage replies = map answer_of replies ≡ stage.engine.answers

-- There is room for the samples of a block, and for replies to as many entries as the journal has room for.
pub record HasRoom {P : Type 0} (stage : Stage P) : Type 0 where
  pub ins : stage.engine.session.channels * stage.engine.max ≤ length stage.buffers.ins.items
  pub outs : stage.engine.session.channels * stage.engine.max ≤ length stage.buffers.outs.items
  pub replies : vec_capacity stage.journal ≤ vec_capacity stage.replies
  pub tells : vec_capacity stage.journal ≤ (sender_in stage).tells

-- what stands of a stage whose engine has these entries
pub record IsStaged {P : Type 0} (class_of : ℕ → Class) (stage : Stage P) (taken : List Entry) : Type 0 where
  pub going : stage.engine.flushed ≡ false
  pub classes : HasClasses class_of stage.engine
  pub under_way : IsUnderWay class_of stage.engine taken
  pub parameters : parameters_in stage ≡ all_parameters stage.engine.session.nodes
  pub echoed : stage.echoes.echoed.items ≡ stage.engine.values
  pub replied : AreReplied stage (replies (offered (sender_in stage)))
  pub none : length stage.replies.items ≡ 0
  pub room : HasRoom stage

-- between blocks
pub record IsReady {P : Type 0} (class_of : ℕ → Class) (stage : Stage P) : Type 0 where
  pub staged : IsStaged class_of stage stage.journal.items
  pub played : stage.played ≡ length stage.journal.items
  pub few : vec_capacity stage.journal ≤ stage.engine.room + length stage.journal.items
  pub up_to : IsUpTo stage.engine.at stage.journal.items

-- behind the last block, where entries at the length wait
pub record IsAtEnd {P : Type 0} (class_of : ℕ → Class) (stage : Stage P) : Type 0 where
  pub staged : IsStaged class_of stage (taken_in stage)
  pub at : stage.engine.at ≡ stage.engine.session.length
  pub played : stage.played ≤ length stage.journal.items
  pub waiting : AreAt stage.engine.session.length (waiting_in stage)
  pub few : length (waiting_in stage) ≤ stage.engine.room

-- Of these first values the last echoes that were offered, and where there are none the first values, are the engine's.
abbrev pub IsTold : {P : Type 0} → Stage P → List ℕ → Type 0
IsTold stage firsts = followed (last_value (offered stage.echoes.sender)) stage.echoes.parameters.items firsts ≡ stage.engine.values

-- what no block changes
pub record IsSameStage {P : Type 0} (old new : Stage P) : Type 0 where
  pub ring : ring_in new ≡ ring_in old
  pub parameters : parameters_in new ≡ parameters_in old
  pub capacity : vec_capacity new.journal ≡ vec_capacity old.journal

-- each entry stands at a sample where a block begins, where nothing stops one, or at the length
abbrev pub AreAtBlocks : ℕ → List ℕ → List Entry → Type 0
AreAtBlocks samples pattern entries = All (λ entry. IsAtBlock samples pattern entry.sample) entries

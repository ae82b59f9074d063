use Rattle.std.proofs.Common.{◌≡◌, ◌≤◌, ◌+◌, ℕ, List, [], length, map}
use Rattle.vh_num.specs.Frames.{Frame}
use Rattle.vh_engine.specs.Kept.{IsSameEngine}
use Rattle.vh_render.specs.Playing.{called}
use Rattle.vh_stage.specs.Playing.{IsRead, IsHeard, IsUpTo}
use Rattle.vh_stage.specs.Staged.{IsReady, IsTold, IsSameStage, AreAtBlocks}
use Rattle.vh_stage.proofs.Turns.{start_at}
use Rattle.vh_stage.proofs.blocks.play.Given as goal

abbrev pub invariant-loop-piece : goal.invariant-loop-piece
invariant-loop-piece g l = record {
  at : l.stage.engine.at ≡ start_at l.fn.stage.engine.session.length l.pattern (length l.yielded);
  heard : (input before : List Frame) → IsHeard g.I.Frames.reads g.I.Frames.wrote g.P.Processor.class_of l.fn.stage.engine l.fn.frames input before []
      → IsHeard g.I.Frames.reads g.I.Frames.wrote g.P.Processor.class_of l.stage.engine l.frames input before l.stage.journal.items;
  stands : (input : List Frame) → IsRead g.I.Frames.reads g.P.Processor.class_of l.fn.stage.engine l.fn.frames input []
      → IsRead g.I.Frames.reads g.P.Processor.class_of l.stage.engine l.frames input l.stage.journal.items;
  ready : IsReady g.P.Processor.class_of l.stage;
  calls : l.stage.engine.calls ≡ map (called (length l.yielded)) l.fn.stage.engine.calls;
  told : (firsts : List ℕ) → IsTold l.fn.stage firsts → IsTold l.stage firsts;
  same : IsSameEngine l.fn.stage.engine l.stage.engine;
  same_stage : IsSameStage l.fn.stage l.stage;
  gave : g.S.Source.gave l.source l.stage.journal.items;
  rest_gave : g.S.Source.rest l.source ≡ g.S.Source.rest l.fn.source;
  blocks : AreAtBlocks l.fn.stage.engine.session.length l.pattern l.stage.journal.items;
  up_to : IsUpTo l.fn.stage.engine.session.length l.stage.journal.items;
  pushed : g.I.Frames.pushed l.frames ≡ g.I.Frames.pushed l.fn.frames + l.stage.engine.at;
  uncut : g.I.Frames.cut l.frames ≡ [];
  reads_later : g.I.Frames.pull_faults l.fn.frames ≤ g.I.Frames.pull_faults l.frames;
  writes_later : g.I.Frames.push_faults l.fn.frames ≤ g.I.Frames.push_faults l.frames;
  channels : g.I.Frames.channels l.frames ≡ g.I.Frames.channels l.fn.frames;
  space : g.I.Frames.room l.frames ≡ g.I.Frames.room l.fn.frames;
  max : g.I.Frames.max l.frames ≡ g.I.Frames.max l.fn.frames;
  rest : g.I.Frames.rest l.frames ≡ g.I.Frames.rest l.fn.frames;
}

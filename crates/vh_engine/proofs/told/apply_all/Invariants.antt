use Rattle.std.proofs.Common.{◌≡◌, ◌+◌, ◌-◌, ℕ, length, map, take, vec_len, vec_capacity}
use Rattle.vh_meaning.specs.Scene.{Scene}
use Rattle.vh_meaning.specs.Steps.{applied}
use Rattle.vh_meaning.specs.Rendering.{stops}
use Rattle.vh_engine.specs.Staged.{of_all, holders_of, boards_of, answer_of, standing_of, AreSame}
use Rattle.vh_engine.specs.Told.{HaveTaken, AreReady, IsStage}
use Rattle.vh_engine.proofs.told.apply_all.Given as goal

-- so many entries were applied
abbrev pub invariant-loop-entry : goal.invariant-loop-entry
invariant-loop-entry g l = record {
  taken : HaveTaken l.lanes (take l.entry-index l.entries) (boards_of l.fn.boards) (boards_of l.boards);
  applied : (scene : Scene) → IsStage g.P.Processor.class_of (of_all g.P.Processor.code l.fn.processors) scene l.lanes (boards_of l.fn.boards)
      → AreSame scene (applied scene l.sample (take l.entry-index l.entries) (standing_of (of_all g.P.Processor.state l.fn.processors) (boards_of l.fn.boards) (map answer_of l.fn.replies.items)))
      (standing_of (of_all g.P.Processor.state l.processors) (boards_of l.boards) (map answer_of l.replies.items));
  ready : (room : ℕ) → AreReady g.P.Processor.class_of (of_all g.P.Processor.code l.fn.processors) (length l.lanes) (length l.entries + room) (length l.fn.given) (boards_of l.fn.boards)
      → AreReady g.P.Processor.class_of (of_all g.P.Processor.code l.processors) (length l.lanes) (length l.entries - l.entry-index + room) (length l.given) (boards_of l.boards);
  codes : of_all g.P.Processor.code l.processors ≡ of_all g.P.Processor.code l.fn.processors;
  values : of_all g.P.Processor.values l.processors ≡ of_all g.P.Processor.values l.fn.processors;
  calls : of_all g.P.Processor.calls l.processors ≡ of_all g.P.Processor.calls l.fn.processors;
  phases : of_all g.P.Life.phase l.processors ≡ of_all g.P.Life.phase l.fn.processors;
  setups : of_all g.P.Life.last_setup l.processors ≡ of_all g.P.Life.last_setup l.fn.processors;
  holders : holders_of l.processors ≡ holders_of l.fn.processors;
  given : length l.given ≡ length l.fn.given;
  replies : vec_len l.replies ≡ vec_len l.fn.replies + length (stops (take l.entry-index l.entries));
  capacity : vec_capacity l.replies ≡ vec_capacity l.fn.replies;
}

use Rattle.std.proofs.Common.{◌≡◌, ◌≤◌, ◌+◌, ◌++◌, ◌==◌, [], ℕ, map, take}
use Rattle.std.specs.Prelude.{count_by}
use Rattle.std.specs.VecDeque.{deque_len, deque_capacity}
use Rattle.vh_plugin.specs.Class.{State}
use Rattle.vh_session.specs.Names.{content_of}
use Rattle.vh_meaning.specs.World.{after_messages, world}
use Rattle.vh_core.specs.State.{scene_in, Reply}
use Rattle.vh_core.specs.Playing.{AreAlike, HaveStates, setting_by}
use Rattle.vh_core.specs.Stage.{IsRoom}
use Rattle.vh_core.specs.Kept.{return_of}
use Rattle.vh_core.proofs.Messages.{answered}
use Rattle.vh_core.proofs.play.give_messages.Given as goal

-- the messages before this place were given
abbrev pub invariant-loop-place : goal.invariant-loop-place
invariant-loop-place g l =
    let session = content_of l.session in
    let scene = scene_in (setting_by g.P.Processor.class_of g.P.Processor.code session l.plan.firsts.items l.fn.processors) in
    record {
      room : IsRoom session l.room;
      alike : AreAlike g.P.Processor.code g.P.Life.phase g.P.Life.last_setup l.fn.processors l.processors;
      states : (states : ℕ → State) → HaveStates g.P.Processor.state l.fn.processors states → HaveStates g.P.Processor.state l.processors (after_messages scene l.sample [] (take l.place l.journal) states);
      replies : HaveStates g.P.Processor.state l.fn.processors (world scene [] l.journal l.sample)
          → map return_of l.returns.items ≡ map return_of l.fn.returns.items ++ map Reply (answered scene [] l.journal l.sample (take l.place l.journal));
      left : deque_len l.returns ≤ deque_len l.fn.returns + count_by (λ entry. entry.sample == l.sample) (take l.place l.journal);
      same : deque_capacity l.returns ≡ deque_capacity l.fn.returns;
    }

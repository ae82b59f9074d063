use Rattle.std.proofs.Common.{◌≡◌, ◌≤◌, ◌+◌, ◌-◌, ◌*◌, ◌++◌, [], map}
use Rattle.std.specs.Prelude.{count_by, nat_le, vec_len, vec_capacity}
use Rattle.std.specs.List.{range_with_len, flat_map}
use Rattle.std.specs.VecDeque.{deque_len, deque_capacity}
use Rattle.vh_session.specs.Names.{content_of}
use Rattle.vh_meaning.specs.World.{world}
use Rattle.vh_meaning.specs.Rendering.{out_at}
use Rattle.vh_core.specs.State.{scene_in}
use Rattle.vh_core.specs.Steps.{replies_at}
use Rattle.vh_core.specs.Playing.{AreAlike, HaveStates, setting_by}
use Rattle.vh_core.specs.Stage.{IsRoom}
use Rattle.vh_core.specs.Kept.{return_of}
use Rattle.vh_core.proofs.play.play.Given as goal

-- the samples before this one were played
abbrev pub invariant-loop-sample : goal.invariant-loop-sample
invariant-loop-sample g l =
    let session = content_of l.session in
    let setting = setting_by g.P.Processor.class_of g.P.Processor.code session l.plan.firsts.items l.fn.processors in
    record {
      room : IsRoom session l.room;
      alike : AreAlike g.P.Processor.code g.P.Life.phase g.P.Life.last_setup l.fn.processors l.processors;
      states : HaveStates g.P.Processor.state l.processors (world (scene_in setting) [] l.journal l.sample);
      frames : l.frames.items ≡ l.fn.frames.items ++ flat_map (out_at (scene_in setting) [] l.journal) (range_with_len l.from (l.sample - l.from));
      long : vec_len l.frames ≡ vec_len l.fn.frames + l.session.channels * (l.sample - l.from);
      long_same : vec_capacity l.frames ≡ vec_capacity l.fn.frames;
      replies : map return_of l.returns.items ≡ map return_of l.fn.returns.items ++ flat_map (replies_at setting l.journal) (range_with_len l.from (l.sample - l.from));
      left : deque_len l.returns + count_by (λ entry. nat_le l.sample entry.sample) l.journal ≤ deque_len l.fn.returns + count_by (λ entry. nat_le l.from entry.sample) l.journal;
      same : deque_capacity l.returns ≡ deque_capacity l.fn.returns;
    }

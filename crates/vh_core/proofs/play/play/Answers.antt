use Rattle.std.proofs.Common.{◌≡◌, ◌∙◌, ◌≤◌, ◌+◌, ◌-◌, ◌*◌, ◌++◌, [], List, map, refl, sym, ap, subst, arith}
use Rattle.std.specs.Prelude.{nat_le}
use Rattle.std.specs.List.{flat_map, range_with_len}
use Rattle.std.proofs.lemmas.List.{append_assoc, append-nil}
use Rattle.std.proofs.lemmas.List.Sums.{count_by-le-length}
use Rattle.vh_journal.specs.declared.entry.Entry.{Entry}
use Rattle.vh_session.specs.Names.{content_of}
use Rattle.vh_meaning.specs.World.{world}
use Rattle.vh_meaning.specs.Rendering.{out_at}
use Rattle.vh_core.specs.State.{Setting, scene_in, Return}
use Rattle.vh_core.specs.Steps.{replies_at}
use Rattle.vh_core.specs.Kept.{return_of}
use Rattle.vh_core.specs.Playing.{HaveStates, setting_by}
use Rattle.vh_core.proofs.Lists.{flat_map_upto, from_or_behind, times_next, times_within}
use Rattle.vh_core.proofs.Players.{alike_same, alike_more, players_on, setting_on}
use Rattle.vh_core.proofs.play.play.Goals as goal

pub play_sample-requires-clause-players : goal.play_sample-requires-clause-players
play_sample-requires-clause-players g c =
    players_on g.P.Processor.class_of g.P.Processor.code g.P.Life.phase g.P.Life.last_setup (content_of c.args.session.now) c.args.processors.now c.loop-sample.processors c.requires.players c.loop-sample.invariant.alike

pub play_sample-requires-clause-states : goal.play_sample-requires-clause-states
play_sample-requires-clause-states g c =
    let session = content_of c.args.session.now in
    let same = setting_on g.P.Processor.class_of g.P.Processor.code g.P.Life.phase g.P.Life.last_setup session c.args.plan.now.firsts.items c.args.processors.now c.loop-sample.processors c.loop-sample.invariant.alike in
    subst (λ (t : Setting). HaveStates g.P.Processor.state c.loop-sample.processors (world (scene_in t) [] c.args.journal.now c.loop-sample.sample)) (sym same) c.loop-sample.invariant.states

pub play_sample-requires-clause-frames : goal.play_sample-requires-clause-frames
play_sample-requires-clause-frames g c =
    let channels = c.args.session.now.channels in
    let most = c.requires.frames in
    let long = c.loop-sample.invariant.long in
    let same = c.loop-sample.invariant.long_same in
    let fits = times_within channels c.args.from c.loop-sample.sample c.args.count (omega arith) (omega arith) in
    omega (arith, most, long, same, fits)

pub play_sample-requires-clause-returns : goal.play_sample-requires-clause-returns
play_sample-requires-clause-returns g c =
    let most = c.requires.returns in
    let left = c.loop-sample.invariant.left in
    let same = c.loop-sample.invariant.same in
    let parts = from_or_behind (λ (entry : Entry). entry.sample) c.loop-sample.sample c.args.journal.now in
    omega (arith, most, left, same, parts)

pub loop-sample-init : goal.loop-sample-init
loop-sample-init g c =
    let session = content_of c.args.session.now in
    let h = c.args.journal.now in
    let from = c.args.from in
    let setting = setting_by g.P.Processor.class_of g.P.Processor.code session c.args.plan.now.firsts.items c.args.processors.now in
    let none : from - from ≡ 0 = omega arith in
    let frames = c.args.frames.now.items in
    let returns = map return_of c.args.returns.now.items in
    let times : session.channels * (from - from) ≡ session.channels * 0 = ap (λ n. session.channels * n) none in
    record {
      room = c.requires.room;
      alike = alike_same g.P.Processor.code g.P.Life.phase g.P.Life.last_setup c.args.processors.now;
      states = c.requires.states;
      frames = sym (ap (λ n. frames ++ flat_map (out_at (scene_in setting) [] h) (range_with_len from n)) none ∙ append-nil frames);
      long = omega (arith, times);
      long_same = refl;
      replies = sym (ap (λ n. returns ++ flat_map (replies_at setting h) (range_with_len from n)) none ∙ append-nil returns);
      left = omega arith;
      same = refl;
    }

pub loop-sample-preserved : goal.loop-sample-preserved
loop-sample-preserved g c =
    let session = content_of c.args.session.now in
    let h = c.args.journal.now in
    let from = c.args.from in
    let s = c.loop-sample.sample in
    let old = c.args.processors.now in
    let mid = c.loop-sample.processors in
    let setting = setting_by g.P.Processor.class_of g.P.Processor.code session c.args.plan.now.firsts.items old in
    let same : setting_by g.P.Processor.class_of g.P.Processor.code session c.args.plan.now.firsts.items mid ≡ setting =
    setting_on g.P.Processor.class_of g.P.Processor.code g.P.Life.phase g.P.Life.last_setup session c.args.plan.now.firsts.items old mid c.loop-sample.invariant.alike in
    let less : from ≤ s = omega arith in
    let out = out_at (scene_in setting) [] h in
    let replies = replies_at setting h in
    let frames = c.args.frames.now.items in
    let returns = map return_of c.args.returns.now.items in
    let times = times_next session.channels from s less in
    let long = c.loop-sample.invariant.long in
    let longer = c.play_sample.ensures.long in
    let left = c.loop-sample.invariant.left in
    let few = c.play_sample.ensures.left in
    let parts = from_or_behind (λ (entry : Entry). entry.sample) s h in
    record {
      room = c.play_sample.ensures.room;
      alike = alike_more g.P.Processor.code g.P.Life.phase g.P.Life.last_setup old mid c.play_sample.new.processors c.loop-sample.invariant.alike c.play_sample.ensures.alike;
      states = subst (λ (t : Setting). HaveStates g.P.Processor.state c.play_sample.new.processors (world (scene_in t) [] h (s + 1))) same c.play_sample.ensures.states;
      frames =
          c.play_sample.ensures.frames
          ∙ ap (λ (t : Setting). c.loop-sample.frames.items ++ out_at (scene_in t) [] h s) same
          ∙ ap (λ l. l ++ out s) c.loop-sample.invariant.frames
          ∙ append_assoc frames (flat_map out (range_with_len from (s - from))) (out s)
          ∙ ap (λ l. frames ++ l) (sym (flat_map_upto out from s (s + 1) less refl));
      long = omega (arith, times, long, longer);
      long_same = c.play_sample.ensures.long_capacity ∙ c.loop-sample.invariant.long_same;
      replies =
          c.play_sample.ensures.replies
          ∙ ap (λ (t : Setting). map return_of c.loop-sample.returns.items ++ replies_at t h s) same
          ∙ ap (λ (l : List Return). l ++ replies s) c.loop-sample.invariant.replies
          ∙ append_assoc returns (flat_map replies (range_with_len from (s - from))) (replies s)
          ∙ ap (λ (l : List Return). returns ++ l) (sym (flat_map_upto replies from s (s + 1) less refl));
      left = omega (arith, left, few, parts);
      same = c.play_sample.ensures.capacity ∙ c.loop-sample.invariant.same;
    }

pub returns-clause-states : goal.returns-clause-states
returns-clause-states g c =
    let scene = scene_in (setting_by g.P.Processor.class_of g.P.Processor.code (content_of c.args.session.now) c.args.plan.now.firsts.items c.args.processors.now) in
    let end : c.loop-sample.sample ≡ c.args.from + c.args.count = omega arith in
    subst (λ n. HaveStates g.P.Processor.state c.loop-sample.processors (world scene [] c.args.journal.now n)) end c.loop-sample.invariant.states

pub returns-clause-frames : goal.returns-clause-frames
returns-clause-frames g c =
    let scene = scene_in (setting_by g.P.Processor.class_of g.P.Processor.code (content_of c.args.session.now) c.args.plan.now.firsts.items c.args.processors.now) in
    let all : c.loop-sample.sample - c.args.from ≡ c.args.count = omega arith in
    c.loop-sample.invariant.frames ∙ ap (λ n. c.args.frames.now.items ++ flat_map (out_at scene [] c.args.journal.now) (range_with_len c.args.from n)) all

pub returns-clause-replies : goal.returns-clause-replies
returns-clause-replies g c =
    let setting = setting_by g.P.Processor.class_of g.P.Processor.code (content_of c.args.session.now) c.args.plan.now.firsts.items c.args.processors.now in
    let all : c.loop-sample.sample - c.args.from ≡ c.args.count = omega arith in
    c.loop-sample.invariant.replies ∙ ap (λ n. map return_of c.args.returns.now.items ++ flat_map (replies_at setting c.args.journal.now) (range_with_len c.args.from n)) all

pub returns-clause-left : goal.returns-clause-left
returns-clause-left g c =
    let left = c.loop-sample.invariant.left in
    let few = count_by-le-length (λ (entry : Entry). nat_le c.args.from entry.sample) c.args.journal.now in
    omega (arith, left, few)

use Rattle.std.proofs.Common.{◌≡◌, ◌∙◌, ◌+◌, ◌++◌, ◌==◌, [], ℕ, Bool, true, false, cond, List, map, take, get_or, sym, ap, subst, arith}
use Rattle.std.specs.Prelude.{count_by}
use Rattle.std.proofs.lemmas.Bool.{eq-eqb, ne_eqb}
use Rattle.std.proofs.lemmas.List.{append_assoc, map-append, take_all}
use Rattle.std.proofs.lemmas.List.Sums.{count_by_more_yes, count_by_more_no, sum_by-take-le}
use Rattle.vh_plugin.specs.Class.{State}
use Rattle.vh_journal.specs.declared.entry.Entry.{Entry}
use Rattle.vh_session.specs.Names.{content_of}
use Rattle.vh_meaning.specs.Values.{values_at}
use Rattle.vh_meaning.specs.World.{told_by, after_messages, world}
use Rattle.vh_meaning.specs.Rendering.{Answer, answers_by}
use Rattle.vh_core.specs.State.{Setting, scene_in, Return, Reply}
use Rattle.vh_core.specs.Kept.{return_of}
use Rattle.vh_core.specs.Playing.{HaveStates, setting_by}
use Rattle.vh_core.proofs.Messages.{answered, given_next, passed_next, answered_next, unanswered_next}
use Rattle.vh_core.proofs.Players.{alike_more, players_on, setting_on}
use Rattle.vh_core.proofs.play.give_messages.Goals as goal

pub give-requires-clause-players : goal.give-requires-clause-players
give-requires-clause-players g c =
    players_on g.P.Processor.class_of g.P.Processor.code g.P.Life.phase g.P.Life.last_setup (content_of c.args.session.now) c.args.processors.now c.loop-place.processors c.requires.players c.loop-place.invariant.alike

pub give-requires-clause-returns : goal.give-requires-clause-returns
give-requires-clause-returns g c =
    let h = c.args.journal.now in
    let place = c.loop-place.place in
    let entry = c.index-journal-place.result in
    let test : Entry → Bool = λ e. e.sample == c.args.sample in
    let yes : test (get_or h place entry) ≡ true = ap test (sym c.index-journal-place.is) ∙ eq-eqb entry.sample c.args.sample c.if-entry-sample.false in
    let more = count_by_more_yes test h place entry c.loop-place-test.true yes in
    let all = sum_by-take-le (λ (e : Entry). cond (test e) 1 0) h (place + 1) in
    let most = c.requires.returns in
    let left = c.loop-place.invariant.left in
    let same = c.loop-place.invariant.same in
    omega (arith, more, all, most, left, same)

pub loop-place-preserved-then-entry-sample : goal.loop-place-preserved-then-entry-sample
loop-place-preserved-then-entry-sample g c =
    let session = content_of c.args.session.now in
    let h = c.args.journal.now in
    let s = c.args.sample in
    let place = c.loop-place.place in
    let firsts = c.args.plan.now.firsts.items in
    let old = c.args.processors.now in
    let mid = c.loop-place.processors in
    let entry = c.index-journal-place.result in
    let is = c.index-journal-place.is in
    let within = c.loop-place-test.true in
    let scene = scene_in (setting_by g.P.Processor.class_of g.P.Processor.code session firsts old) in
    let other = c.if-entry-sample.true in
    let test : Entry → Bool = λ e. e.sample == s in
    let no : test (get_or h place entry) ≡ false = ap test (sym is) ∙ ne_eqb entry.sample s other in
    let same = count_by_more_no test h place entry within no in
    let left = c.loop-place.invariant.left in
    record {
      room = c.loop-place.invariant.room;
      alike = c.loop-place.invariant.alike;
      states = λ states have. subst (λ (f : ℕ → State). HaveStates g.P.Processor.state mid f) (sym (passed_next scene h s place entry is within states other)) (c.loop-place.invariant.states states have);
      replies = λ have. c.loop-place.invariant.replies have ∙ ap (λ (l : List Answer). map return_of c.args.returns.now.items ++ map Reply l) (sym (unanswered_next scene h s place entry is within other));
      left = omega (arith, same, left);
      same = c.loop-place.invariant.same;
    }

pub loop-place-preserved : goal.loop-place-preserved
loop-place-preserved g c =
    let session = content_of c.args.session.now in
    let h = c.args.journal.now in
    let s = c.args.sample in
    let place = c.loop-place.place in
    let firsts = c.args.plan.now.firsts.items in
    let old = c.args.processors.now in
    let mid = c.loop-place.processors in
    let entry = c.index-journal-place.result in
    let is = c.index-journal-place.is in
    let within = c.loop-place-test.true in
    let scene = scene_in (setting_by g.P.Processor.class_of g.P.Processor.code session firsts old) in
    let at = c.if-entry-sample.false in
    let test : Entry → Bool = λ e. e.sample == s in
    let yes : test (get_or h place entry) ≡ true = ap test (sym is) ∙ eq-eqb entry.sample s at in
    let more = count_by_more_yes test h place entry within yes in
    let left = c.loop-place.invariant.left in
    let few = c.give.ensures.left in
    let same : setting_by g.P.Processor.class_of g.P.Processor.code session firsts mid ≡ setting_by g.P.Processor.class_of g.P.Processor.code session firsts old =
    setting_on g.P.Processor.class_of g.P.Processor.code g.P.Life.phase g.P.Life.last_setup session firsts old mid c.loop-place.invariant.alike in
    let before = take place h in
    let returns = map return_of c.args.returns.now.items in
    record {
      room = c.give.ensures.room;
      alike = alike_more g.P.Processor.code g.P.Life.phase g.P.Life.last_setup old mid c.give.new.processors c.loop-place.invariant.alike c.give.ensures.alike;
      states = λ states have.
          let so_far = after_messages scene s [] before states in
          subst (λ (f : ℕ → State). HaveStates g.P.Processor.state c.give.new.processors f) (sym (given_next scene h s place entry is within states at))
          (subst (λ (t : Setting). HaveStates g.P.Processor.state c.give.new.processors (told_by (scene_in t) (values_at (scene_in t) before s) entry.command so_far)) same
          (c.give.ensures.states so_far (c.loop-place.invariant.states states have)));
      replies = λ have.
          let start = world scene [] h s in
          let so_far = after_messages scene s [] before start in
          let done = answered scene [] h s before in
          let next = answers_by scene so_far (values_at scene before s) s entry.command in
          c.give.ensures.replies so_far (c.loop-place.invariant.states start have)
          ∙ ap (λ (t : Setting). map return_of c.loop-place.returns.items ++ map Reply (answers_by (scene_in t) so_far (values_at (scene_in t) before s) s entry.command)) same
          ∙ ap (λ (l : List Return). l ++ map Reply next) (c.loop-place.invariant.replies have)
          ∙ append_assoc returns (map Reply done) (map Reply next)
          ∙ ap (λ (l : List Return). returns ++ l) (sym (map-append Reply done next))
          ∙ ap (λ (l : List Answer). returns ++ map Reply l) (sym (answered_next scene h s place entry is within at));
      left = omega (arith, more, left, few);
      same = c.give.ensures.capacity ∙ c.loop-place.invariant.same;
    }

pub returns-clause-states : goal.returns-clause-states
returns-clause-states g c = λ states have.
    let scene = scene_in (setting_by g.P.Processor.class_of g.P.Processor.code (content_of c.args.session.now) c.args.plan.now.firsts.items c.args.processors.now) in
    subst (λ (l : List Entry). HaveStates g.P.Processor.state c.loop-place.processors (after_messages scene c.args.sample [] l states)) (take_all c.loop-place.place c.args.journal.now c.loop-place-test.false) (c.loop-place.invariant.states states have)

pub returns-clause-replies : goal.returns-clause-replies
returns-clause-replies g c = λ have.
    let scene = scene_in (setting_by g.P.Processor.class_of g.P.Processor.code (content_of c.args.session.now) c.args.plan.now.firsts.items c.args.processors.now) in
    c.loop-place.invariant.replies have
    ∙ ap (λ (l : List Entry). map return_of c.args.returns.now.items ++ map Reply (answered scene [] c.args.journal.now c.args.sample l)) (take_all c.loop-place.place c.args.journal.now c.loop-place-test.false)

pub returns-clause-left : goal.returns-clause-left
returns-clause-left g c =
    let left = c.loop-place.invariant.left in
    let all = ap (λ (l : List Entry). count_by (λ entry. entry.sample == c.args.sample) l) (take_all c.loop-place.place c.args.journal.now c.loop-place-test.false) in
    omega (arith, left, all)

-- A rendering behind its last block, and journals that grow behind one that stopped.
use Rattle.std.proofs.Common.{◌≡◌, ◌∙◌, ℕ, ◌+◌, ◌≤◌, List, [], ◌++◌, length, take, drop, sym, ap, subst, arith}
use Rattle.std.specs.Prelude.{All, Vec, vec_capacity}
use Rattle.std.specs.declared.alloc.Global.{Global}
use Rattle.std.proofs.lemmas.List.{length-append, length-take, length-drop}
use Rattle.vh_num.specs.Frames.{Frame}
use Rattle.vh_plugin.specs.Class.{Class}
use Rattle.vh_journal.specs.declared.entry.Entry.{Entry}
use Rattle.vh_meaning.specs.Scene.{Scene}
use Rattle.vh_meaning.specs.Rendering.{Answer, answers}
use Rattle.vh_meaning.proofs.Answering.{law_each_is_answered}
use Rattle.vh_engine.specs.Kept.{scene_in, Stands}
use Rattle.vh_stage.specs.Playing.{AreAt, IsFront, IsUnderWay, frames_from}
use Rattle.vh_stage.specs.declared.stage.Stage.{Stage}
use Rattle.vh_stage.specs.Staged.{IsReady, IsAtEnd, taken_in, waiting_in}
use Rattle.vh_stage.proofs.UnderWay.{answers_more, few_answers}
use Rattle.vh_stage.proofs.Played.{frames_before}
use Rattle.vh_stage.proofs.Stages.{fresh_is, taken_is}

-- A stage whose blocks were all played, and whose journal got further entries at the length within its capacity, is at
-- its end.
pub at_end : {P : Type 0} (class_of : ℕ → Class) (stage : Stage P) (journal : Vec Entry Global) (more : List Entry) → IsReady class_of stage → stage.engine.at ≡ stage.engine.session.length
    → journal.items ≡ stage.journal.items ++ more → AreAt stage.engine.session.length more → vec_capacity journal ≡ vec_capacity stage.journal → length journal.items ≤ vec_capacity journal
    → IsAtEnd class_of (record stage { journal = journal })
at_end class_of stage journal more ready at is are same within =
    let staged = ready.staged in
    let room = staged.room in
    let played = ready.played in
    let taken : take stage.played journal.items ≡ stage.journal.items = taken_is stage.journal.items journal.items more stage.played is played in
    let fresh : drop stage.played journal.items ≡ more = fresh_is stage.journal.items journal.items more stage.played is played in
    let count = ap length fresh in
    let size = ap length is in
    let sum = length-append stage.journal.items more in
    let few = ready.few in
    let has_replies = room.replies in
    let has_tells = room.tells in
    record {
      staged = record {
        going = staged.going;
        classes = staged.classes;
        under_way = subst (λ (es : List Entry). IsUnderWay class_of stage.engine es) (sym taken) staged.under_way;
        parameters = staged.parameters;
        echoed = staged.echoed;
        replied = staged.replied;
        none = staged.none;
        room = record { ins = room.ins; outs = room.outs; replies = omega (arith, has_replies, same); tells = omega (arith, has_tells, same) };
      };
      at = at;
      played = omega (arith, played, size, sum);
      waiting = subst (λ (es : List Entry). AreAt stage.engine.session.length es) (sym fresh) are;
      few = omega (arith, count, size, sum, few, same, within);
    }

-- What was written of a rendering up to a sample at most is a front part of it under further entries from there on.
pub front_on : {F : Type 0} (wrote : F → List Frame → Type 0) (scene : Scene) (frames : F) (cut input before : List Frame) (journal more : List Entry) (most : ℕ) → All (λ entry. most ≤ entry.sample) more
    → IsFront wrote scene frames cut input before journal most → IsFront wrote scene frames cut input before (journal ++ more) most
front_on wrote scene frames cut input before journal more most behind front =
    let within = front.within in
    record {
      pushed = front.pushed;
      count = front.count;
      within = within;
      written = front.written;
      front = front.front ∙ frames_before scene input journal more front.count (λ k d below. let from = behind k d below in omega (arith, from, within));
    }

-- At the end an engine answers the messages of the entries that wait, too.
module _ {P : Type 0} (class_of : ℕ → Class) (stage : Stage P) (ready : IsAtEnd class_of stage) (entries : List Entry) (is : entries ≡ waiting_in stage) (given : List Answer)
    (flushed : (input : List Frame) (h : List Entry) → Stands class_of stage.engine input h → given ≡ answers (scene_in class_of stage.engine) input (h ++ entries)) where
  come : AreAt stage.engine.at entries
  come = subst (λ (es : List Entry). AreAt stage.engine.at es) (sym is) (subst (λ (n : ℕ). AreAt n (waiting_in stage)) (sym ready.at) ready.waiting)

  -- those before stay
  pub told_more : (later : List Answer) × (given ≡ stage.engine.answers ++ later)
  told_more =
      let way = ready.staged.under_way in
      let input : List Frame = way.input ++ [] in
      let stood : Stands class_of stage.engine input (taken_in stage) = way.stands [] in
      let more = answers_more class_of stage.engine (taken_in stage) entries come way input stood in
      (more.0, flushed input (taken_in stage) stood ∙ more.1)

  -- no more than the journal has entries
  pub few_told : length given ≤ length stage.journal.items
  few_told =
      let way = ready.staged.under_way in
      let input : List Frame = way.input ++ [] in
      let answered = ap length (flushed input (taken_in stage) (way.stands [])) in
      let few = few_answers law_each_is_answered (scene_in class_of stage.engine) input (taken_in stage ++ entries) in
      let sum = length-append (taken_in stage) entries in
      let front = length-take stage.played stage.journal.items in
      let rest = ap length is ∙ length-drop stage.played stage.journal.items in
      let played = ready.played in
      omega (arith, answered, few, sum, front, rest, played)

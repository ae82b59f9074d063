-- The end of a run.
use Rattle.std.proofs.Common.{◌≡◌, ◌∙◌, ℕ, ◌≤◌, List, [], ◌∷◌, ◌++◌, length, map, take, refl, sym, ap, subst, arith}
use Rattle.std.specs.Prelude.{Option, Result, Ok, Err, OnOk, Vec, vec_capacity}
use Rattle.std.specs.declared.alloc.Global.{Global}
use Rattle.std.proofs.lemmas.List.{length-append, get_or_append_left, take_at}
use Rattle.vh_counted.specs.declared.numbers.Numbers.{Numbers}
use Rattle.vh_counted.specs.declared.object.Object.{Object}
use Rattle.vh_counted.specs.declared.object.Opened.{Opened}
use Rattle.vh_counted.specs.Held.{object_of_opened, numbers_of_opened}
use Rattle.vh_inbox.specs.Values as inbox
use Rattle.vh_instance.specs.Seats.{Seat, opener_seat}
use Rattle.vh_num.specs.Frames.{Frame}
use Rattle.vh_params.specs.Nodes.{Node}
use Rattle.vh_params.specs.declared.command.Reply.{Reply}
use Rattle.vh_plugin.specs.Class.{Class}
use Rattle.vh_journal.specs.declared.entry.Entry.{Entry}
use Rattle.vh_meaning.specs.Rendering.{Answer}
use Rattle.vh_engine.specs.Kept.{Stands}
use Rattle.vh_engine.specs.Staged.{answer_of}
use Rattle.vh_back.specs.declared.item.Parameter.{Parameter}
use Rattle.vh_back.specs.Follows.{followed}
use Rattle.vh_stage.specs.declared.stage.Stage.{Stage}
use Rattle.vh_stage.specs.declared.stopped.Stopped.{Stopped}
use Rattle.vh_stage.specs.Carried.{IsOn, AreOn}
use Rattle.vh_stage.specs.Playing.{IsUpTo, AreAt}
use Rattle.vh_stage.specs.Staged.{IsReady, IsAtEnd, taken_in}
use Rattle.vh_stage.proofs.Ends.{at_end}

-- ---- who holds the controllers
abbrev seat : Object → Numbers → Seat
seat object numbers = record { object = object; numbers = numbers }

-- openers of the same objects, with the same numbers
pub seats_same : {C : Type 0} (xs ys : List (Opened C)) → map object_of_opened xs ≡ map object_of_opened ys → map numbers_of_opened xs ≡ map numbers_of_opened ys → map opener_seat xs ≡ map opener_seat ys
seats_same [] [] o n = refl
seats_same [] (y ∷ ys) o n = absurd cc
seats_same (x ∷ xs) [] o n = absurd cc
seats_same (x ∷ xs) (y ∷ ys) o n =
    let here : object_of_opened x ≡ object_of_opened y = cc in
    let numbers : numbers_of_opened x ≡ numbers_of_opened y = cc in
    let objects : map object_of_opened xs ≡ map object_of_opened ys = cc in
    let counts : map numbers_of_opened xs ≡ map numbers_of_opened ys = cc in
    ap (λ (o : Object). seat o (numbers_of_opened x) ∷ map opener_seat xs) here ∙ ap (λ (n : Numbers). seat (object_of_opened y) n ∷ map opener_seat xs) numbers ∙ ap (λ (l : List Seat). opener_seat y ∷ l) (seats_same xs ys objects counts)

-- ---- the rendering's end
-- samples never fall, and none is past a sample
pub up_to_for : (at other : ℕ) (entries : List Entry) → other ≡ at → IsUpTo at entries → inbox.IsUpTo other entries
up_to_for at other entries same up_to = record {
  never_fall = up_to.never_fall;
  most = λ i d below. let most = up_to.most i d below in omega (arith, most, same);
}

-- what is on a session's parameters is so in front
pub on_front : (nodes : List Node) (entries more : List Entry) → AreOn nodes (entries ++ more) → AreOn nodes entries
on_front nodes entries more on = λ k d below.
    let size = length-append entries more in
    subst (λ (entry : Entry). IsOn nodes entry.command) (get_or_append_left entries more d k below) (on k d (omega (arith, below, size)))

-- A stage whose blocks came to the length is at its end once the journal has the entries there.
pub ends : {P : Type 0} (class_of : ℕ → Class) (blocks : Result Unit Stopped) (stage : Stage P) (journal : Vec Entry Global) (more : List Entry)
    → OnOk blocks (IsReady class_of stage) → OnOk blocks (stage.engine.at ≡ stage.engine.session.length)
    → journal.items ≡ stage.journal.items ++ more → AreAt stage.engine.session.length more → vec_capacity journal ≡ vec_capacity stage.journal → length journal.items ≤ vec_capacity journal
    → OnOk blocks (IsAtEnd class_of (record stage { journal = journal }))
ends class_of (Ok done) stage journal more ready at is are same within = at_end class_of stage journal more ready at is are same within
ends class_of (Err stopped) stage journal more ready at is are same within = tt

-- What the engine has of the journal is what the blocks took.
taken : {P : Type 0} (class_of : ℕ → Class) (stage : Stage P) (journal : Vec Entry Global) (more : List Entry) → IsReady class_of stage → journal.items ≡ stage.journal.items ++ more
    → taken_in (record stage { journal = journal }) ≡ stage.journal.items
taken class_of stage journal more ready is = ap (take stage.played) is ∙ take_at stage.journal.items more stage.played (sym ready.played)

module _ {P : Type 0} (class_of : ℕ → Class) (blocks : Result Unit Stopped) (stage : Stage P) (journal : Vec Entry Global) (more : List Entry) (input : List Frame)
    (ready : OnOk blocks (IsReady class_of stage)) (is : journal.items ≡ stage.journal.items ++ more) where
  -- so the replies at the end are those of the whole journal
  pub replies_closed : (replies kept : List Reply) (answers : List Answer) → replies ≡ kept
      → OnOk blocks (Stands class_of stage.engine input (taken_in (record stage { journal = journal })) → map answer_of kept ≡ answers)
      → OnOk blocks (Stands class_of stage.engine input stage.journal.items → map answer_of replies ≡ answers)
  replies_closed replies kept answers same ended = elim blocks as (λ b. OnOk b (IsReady class_of stage)
      → OnOk b (Stands class_of stage.engine input (taken_in (record stage { journal = journal })) → map answer_of kept ≡ answers)
      → OnOk b (Stands class_of stage.engine input stage.journal.items → map answer_of replies ≡ answers)) [
        | Ok done ↦ λ ready ended stands. ap (map answer_of) same ∙ ended (subst (λ (es : List Entry). Stands class_of stage.engine input es) (sym (taken class_of stage journal more ready is)) stands)
        | Err stopped ↦ λ ready ended. tt
      ] ready ended

  -- and the controllers have the values at the end
  pub values_closed : (last : Parameter → Option ℕ) (parameters all : List Parameter) (firsts values controls finals : List ℕ) (Told : Type 0)
      → controls ≡ followed last all firsts → parameters ≡ all → (Told → OnOk blocks (followed last parameters firsts ≡ values))
      → OnOk blocks (Stands class_of stage.engine input (taken_in (record stage { journal = journal })) → values ≡ finals)
      → OnOk blocks (Stands class_of stage.engine input stage.journal.items → Told → controls ≡ finals)
  values_closed last parameters all firsts values controls finals Told settled are told ended = elim blocks as (λ b. OnOk b (IsReady class_of stage) → (Told → OnOk b (followed last parameters firsts ≡ values))
      → OnOk b (Stands class_of stage.engine input (taken_in (record stage { journal = journal })) → values ≡ finals)
      → OnOk b (Stands class_of stage.engine input stage.journal.items → Told → controls ≡ finals)) [
        | Ok done ↦ λ ready told ended stands so.
            settled ∙ ap (λ (ps : List Parameter). followed last ps firsts) (sym are) ∙ told so
            ∙ ended (subst (λ (es : List Entry). Stands class_of stage.engine input es) (sym (taken class_of stage journal more ready is)) stands)
        | Err stopped ↦ λ ready told ended. tt
      ] ready told ended

-- A machine behind a rendering, and behind the flush.
use Rattle.std.proofs.Common.{◌≡◌, ◌∙◌, ℕ, suc, ◌-◌, Bool, true, false, cond, min, List, [], ◌∷◌, ◌++◌, length, map, take, drop, replicate, sym, ap, subst}
use Rattle.std.specs.Prelude.{All}
use Rattle.std.proofs.lemmas.List.Elements.{All-drop}
use Rattle.vh_params.specs.declared.command.Word.{Word}
use Rattle.vh_component.specs.declared.setup.Phase.{Phase}
use Rattle.vh_component.specs.declared.setup.Setup.{Setup}
use Rattle.vh_plugin.specs.Class.{Class, State as Held}
use Rattle.vh_journal.specs.declared.entry.Entry.{Entry}
use Rattle.vh_session.specs.Content.{Content}
use Rattle.vh_meaning.specs.Scene.{Scene}
use Rattle.vh_meaning.specs.Values.{values_at}
use Rattle.vh_meaning.specs.World.{world, after}
use Rattle.vh_meaning.specs.Rendering.{seen_at, of_all, seen_before, last_values}
use Rattle.vh_core.specs.declared.event.Event.{Event}
use Rattle.vh_core.specs.declared.event.Event.TheVariants.{Put, Audio, Back, Flush}
use Rattle.vh_core.specs.declared.kept.Kept.{Kept}
use Rattle.vh_core.specs.declared.sent.Sent.{Sent}
use Rattle.vh_core.specs.declared.stage.Plan.{Plan}
use Rattle.vh_core.specs.declared.stage.Room.{Room}
use Rattle.vh_core.specs.State.{Setting, scene_in, State, seen}
use Rattle.vh_core.specs.Accepting.{sent_by}
use Rattle.vh_core.specs.Steps.{take_in, render, settle, tell, given, always, next, is_at_end}
use Rattle.vh_core.specs.Run.{stepped}
use Rattle.vh_core.specs.Playing.{AreAlike, HaveStates, setting_by, IsPlayable, ArePlayable}
use Rattle.vh_core.specs.Stage.{IsRoom}
use Rattle.vh_core.specs.Kept.{return_of, interleaved, samples_of, state_in, run_in, states_at}
use Rattle.vh_core.specs.Machine.{IsMachine}
use Rattle.vh_core.proofs.Interleaved.{IsFew}
use Rattle.vh_core.proofs.Always.{same_state}
use Rattle.vh_core.proofs.Moved.{HasGoneOn, HasEnded, seen_alike, audio_is, audio_whole, flush_is, taken_playable}
use Rattle.vh_core.proofs.Players.{alike_same}
use Rattle.vh_core.proofs.Standing.{IsUpToDate, run_moved, machine_moved}

-- behind a sample what is shown is what is seen before the next
pub seen_at_pos : (scene : Scene) (h : List Entry) (pos s : ℕ) → pos ≡ suc s → of_all scene (seen_at scene (world scene [] h pos) (values_at scene h s)) ≡ seen_before scene [] h pos
seen_at_pos scene h pos s is =
    ap (λ (n : ℕ). of_all scene (seen_at scene (world scene [] h n) (values_at scene h s))) is ∙ sym (ap (seen_before scene [] h) is)

-- what is seen while it goes on, and behind the flush
pub seen_going : (setting : Setting) (state : State) → state.flushed ≡ false → seen setting state ≡ seen_before (scene_in setting) setting.input state.journal state.pos
seen_going setting state going = ap (λ (t : Bool). cond t (last_values (scene_in setting) setting.input state.journal) (seen_before (scene_in setting) setting.input state.journal state.pos)) going

pub seen_last : (setting : Setting) (state : State) → state.flushed ≡ true → seen setting state ≡ last_values (scene_in setting) setting.input state.journal
seen_last setting state flushed = ap (λ (t : Bool). cond t (last_values (scene_in setting) setting.input state.journal) (seen_before (scene_in setting) setting.input state.journal state.pos)) flushed

module _ {P : Type 0} (class_of : ℕ → Class) (code : P → ℕ) (state : P → Held) (phase : P → Phase) (setup : P → Setup) (session : Content) (few : IsFew session.channels) (plan : Plan) (before room : Room) (olds news : List P) (old new : Kept)
    (machine : IsMachine class_of code state phase setup session plan before olds old) (alike : AreAlike code phase setup olds news) (spacious : IsRoom session room) where
  abbrev setting : Setting
  setting = setting_by class_of code session plan.firsts.items olds

  abbrev scene : Scene
  scene = scene_in setting

  module _ (count most more frames : ℕ) (going : old.flushed ≡ false) (all : count ≡ min most (length old.inbox.items)) (rest : more ≡ min frames (session.length - old.pos))
      (gone : HasGoneOn setting count more old new) (states : HaveStates state news (world scene [] new.journal.items new.pos)) where
    goes : state_in session.channels new ≡ next setting always (Audio most frames) (state_in session.channels old)
    goes = audio_is setting old new few machine.current.values count most more frames going all rest machine.current.whole gone

    pub audio_run : run_in code session plan news new ≡ stepped class_of (Audio most frames) (run_in code session plan olds old)
    audio_run = run_moved class_of code state phase setup session plan (Audio most frames) olds news old new alike goes

    pub audio_machine : IsMachine class_of code state phase setup session plan room news new
    audio_machine = machine_moved class_of code state phase setup session plan (Audio most frames) olds news old new alike goes before room machine spacious (record {
      states = subst (λ (t : Bool). HaveStates state news (cond t (after scene [] new.journal.items scene.length) (world scene [] new.journal.items new.pos))) (sym (gone.flushed ∙ going)) states;
      values = gone.values;
      whole = audio_whole setting old new few machine.current.values count most more frames going all rest machine.current.whole gone;
      waits = subst (λ (l : List Sent). All (λ sent. IsPlayable (length session.nodes) sent.command) l) (sym gone.inbox)
          (All-drop (λ (sent : Sent). IsPlayable (length session.nodes) sent.command) count old.inbox.items machine.current.waits);
      taken = subst (λ (h : List Entry). ArePlayable (length session.nodes) h) (sym gone.journal)
          (taken_playable count (length session.nodes) old.pos old.journal.items old.inbox.items machine.current.taken machine.current.waits);
    })

  module _ (going : old.flushed ≡ false) (end : old.pos ≡ session.length) (ended : HasEnded setting old new) (states : HaveStates state news (after scene [] new.journal.items session.length)) where
    ends : state_in session.channels new ≡ next setting always Flush (state_in session.channels old)
    ends = flush_is setting old new few machine.current.values going end ended

    pub flush_run : run_in code session plan news new ≡ stepped class_of Flush (run_in code session plan olds old)
    flush_run = run_moved class_of code state phase setup session plan Flush olds news old new alike ends

    pub flush_machine : IsMachine class_of code state phase setup session plan room news new
    flush_machine = machine_moved class_of code state phase setup session plan Flush olds news old new alike ends before room machine spacious (record {
      states = subst (λ (t : Bool). HaveStates state news (cond t (after scene [] new.journal.items scene.length) (world scene [] new.journal.items new.pos))) (sym ended.flushed) states;
      values = ended.values;
      whole = subst (λ l. samples_of (interleaved session.channels l) ≡ l) (sym ended.frames) machine.current.whole;
      waits = subst (λ (l : List Sent). All (λ sent. IsPlayable (length session.nodes) sent.command) l) (sym ended.inbox)
          (All-drop (λ (sent : Sent). IsPlayable (length session.nodes) sent.command) (length old.inbox.items) old.inbox.items machine.current.waits);
      taken = subst (λ (h : List Entry). ArePlayable (length session.nodes) h) (sym ended.journal)
          (taken_playable (length old.inbox.items) (length session.nodes) old.pos old.journal.items old.inbox.items machine.current.taken machine.current.waits);
    })

-- where an event does nothing
module _ {P : Type 0} (class_of : ℕ → Class) (code : P → ℕ) (state : P → Held) (phase : P → Phase) (setup : P → Setup) (session : Content) (plan : Plan) (processors : List P) (kept : Kept) where
  abbrev here : Setting
  here = setting_by class_of code session plan.firsts.items processors

  abbrev now : State
  now = state_in session.channels kept

  pub audio_none : (most frames : ℕ) → kept.flushed ≡ true → run_in code session plan processors kept ≡ stepped class_of (Audio most frames) (run_in code session plan processors kept)
  audio_none most frames flushed =
      run_moved class_of code state phase setup session plan (Audio most frames) processors processors kept kept (alike_same code phase setup processors)
      (sym (ap (λ (t : Bool). cond t now (tell here always (seen here now) (render here frames (take_in most now)))) flushed))

  pub flush_none : is_at_end here now ≡ false → run_in code session plan processors kept ≡ stepped class_of Flush (run_in code session plan processors kept)
  flush_none none =
      run_moved class_of code state phase setup session plan Flush processors processors kept kept (alike_same code phase setup processors)
      (sym (ap (λ (t : Bool). cond t (tell here always (seen here now) (settle here (take_in (length kept.inbox.items) now))) now) none))

-- what no put and no return changes
pub record IsQuiet (old new : Kept) : Type 0 where
  pub journal : new.journal.items ≡ old.journal.items
  pub pos : new.pos ≡ old.pos
  pub frames : new.frames.items ≡ old.frames.items
  pub flushed : new.flushed ≡ old.flushed
  pub values : new.values.items ≡ old.values.items

module _ {P : Type 0} (class_of : ℕ → Class) (code : P → ℕ) (state : P → Held) (phase : P → Phase) (setup : P → Setup) (session : Content) (plan : Plan) (room : Room) (processors : List P) (old new : Kept)
    (machine : IsMachine class_of code state phase setup session plan room processors old) (quiet : IsQuiet old new) where
  abbrev over : Setting
  over = setting_by class_of code session plan.firsts.items processors

  same_seen : seen over (state_in session.channels new) ≡ seen over (state_in session.channels old)
  same_seen = seen_alike over (state_in session.channels new) (state_in session.channels old) quiet.flushed quiet.journal quiet.pos

  same_states : states_at over (state_in session.channels new) ≡ states_at over (state_in session.channels old)
  same_states =
      let scene = scene_in over in
      let at : Bool → List Entry → ℕ → ℕ → Held = λ t h pos. cond t (after scene [] h scene.length) (world scene [] h pos) in
      ap (λ t. at t new.journal.items new.pos) quiet.flushed ∙ ap (λ h. at old.flushed h new.pos) quiet.journal ∙ ap (at old.flushed old.journal.items) quiet.pos

  still_current : All (λ sent. IsPlayable (length session.nodes) sent.command) new.inbox.items → IsUpToDate state over processors new
  still_current waits = record {
    states = subst (HaveStates state processors) (sym same_states) machine.current.states;
    values = quiet.values ∙ machine.current.values ∙ sym same_seen;
    whole = subst (λ l. samples_of (interleaved session.channels l) ≡ l) (sym quiet.frames) machine.current.whole;
    waits = waits;
    taken = subst (λ (h : List Entry). ArePlayable (length session.nodes) h) (sym quiet.journal) machine.current.taken;
  }

  module _ (event : Event) (is : state_in session.channels new ≡ next over always event (state_in session.channels old)) (waits : All (λ sent. IsPlayable (length session.nodes) sent.command) new.inbox.items) where
    pub quiet_run : run_in code session plan processors new ≡ stepped class_of event (run_in code session plan processors old)
    quiet_run = run_moved class_of code state phase setup session plan event processors processors old new (alike_same code phase setup processors) is

    pub quiet_machine : IsMachine class_of code state phase setup session plan room processors new
    quiet_machine = machine_moved class_of code state phase setup session plan event processors processors old new (alike_same code phase setup processors) is room room machine machine.room_is (still_current waits)

-- an editor put a word
pub put_is : (setting : Setting) (channels editor : ℕ) (word : Word) (old new : Kept) → IsQuiet old new
    → new.puts.items ≡ old.puts.items ++ (editor, word) ∷ [] → new.inbox.items ≡ old.inbox.items ++ sent_by setting.session.nodes old.puts.items editor word
    → new.returns.items ≡ old.returns.items → new.controllers.items ≡ old.controllers.items
    → state_in channels new ≡ next setting always (Put editor word) (state_in channels old)
put_is setting channels editor word old new quiet puts inbox returns controllers =
    same_state (state_in channels new) (next setting always (Put editor word) (state_in channels old)) puts inbox quiet.journal quiet.pos (ap (interleaved channels) quiet.frames) quiet.flushed (ap (map return_of) returns)
    (ap (λ (l : List ℕ). replicate (length l) false) quiet.values) controllers

-- so many came back
pub back_is : (setting : Setting) (channels count : ℕ) (old new : Kept) → IsQuiet old new
    → new.puts.items ≡ old.puts.items → new.inbox.items ≡ old.inbox.items
    → map return_of new.returns.items ≡ drop count (map return_of old.returns.items) → new.controllers.items ≡ given (take count (map return_of old.returns.items)) old.controllers.items
    → state_in channels new ≡ next setting always (Back count) (state_in channels old)
back_is setting channels count old new quiet puts inbox returns controllers =
    same_state (state_in channels new) (next setting always (Back count) (state_in channels old)) puts inbox quiet.journal quiet.pos (ap (interleaved channels) quiet.frames) quiet.flushed returns
    (ap (λ (l : List ℕ). replicate (length l) false) quiet.values) controllers

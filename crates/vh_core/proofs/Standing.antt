-- A machine behind an event.
use Rattle.std.proofs.Common.{◌≡◌, ◌∙◌, ℕ, List, length, map, sym, ap, subst}
use Rattle.std.specs.Prelude.{All, Result, Ok, Err, OnErr}
use Rattle.vh_component.specs.declared.setup.Phase.{Phase}
use Rattle.vh_component.specs.declared.setup.Setup.{Setup}
use Rattle.vh_plugin.specs.Class.{Class, State as Held}
use Rattle.vh_session.specs.Content.{Content}
use Rattle.vh_core.specs.declared.event.Event.{Event}
use Rattle.vh_core.specs.declared.kept.Kept.{Kept}
use Rattle.vh_core.specs.declared.sent.Sent.{Sent}
use Rattle.vh_core.specs.declared.stage.Plan.{Plan}
use Rattle.vh_core.specs.declared.stage.Room.{Room}
use Rattle.vh_core.specs.State.{Setting, State, seen}
use Rattle.vh_core.specs.Steps.{always, next}
use Rattle.vh_core.specs.Run.{Run, stepped}
use Rattle.vh_core.specs.Sound.{IsSound}
use Rattle.vh_core.specs.Playing.{AreAlike, HaveStates, setting_by, IsPlayable, ArePlayable}
use Rattle.vh_core.specs.Stage.{IsRoom}
use Rattle.vh_core.specs.Kept.{interleaved, samples_of, state_in, run_in, states_at, IsCurrent, IsSameKept}
use Rattle.vh_core.specs.Machine.{IsMachine}
use Rattle.vh_core.proofs.Moved.{same_kept}
use Rattle.vh_core.proofs.Players.{players_on, setting_on}
use Rattle.vh_core.proofs.Sound.{sound_next}

-- what holds at any rate holds on an error
pub on_err : {T E P : Type 0} (result : Result T E) → P → OnErr result P
on_err (Ok value) holds = tt
on_err (Err error) holds = holds

-- what is current of what a machine keeps, where its processors are these
pub record IsUpToDate {P : Type 0} (state : P → Held) (setting : Setting) (processors : List P) (kept : Kept) : Type 0 where
  pub states : HaveStates state processors (states_at setting (state_in setting.session.channels kept))
  pub values : kept.values.items ≡ seen setting (state_in setting.session.channels kept)
  pub whole : samples_of (interleaved setting.session.channels kept.frames.items) ≡ kept.frames.items
  pub waits : All (λ sent. IsPlayable (length setting.session.nodes) sent.command) kept.inbox.items
  pub taken : ArePlayable (length setting.session.nodes) kept.journal.items

module _ {P : Type 0} (class_of : ℕ → Class) (code : P → ℕ) (state : P → Held) (phase : P → Phase) (setup : P → Setup) (session : Content) (plan : Plan) where
  -- an event went by, over the same processors
  module _ (event : Event) (olds news : List P) (old new : Kept) (alike : AreAlike code phase setup olds news)
      (is : state_in session.channels new ≡ next (setting_by class_of code session plan.firsts.items olds) always event (state_in session.channels old)) where
    pub run_moved : run_in code session plan news new ≡ stepped class_of event (run_in code session plan olds old)
    run_moved =
        let made : List ℕ → State → Run = λ codes s. record { session = session; codes = codes; firsts = plan.firsts.items; state = s } in
        ap (λ codes. made codes (state_in session.channels new)) alike.codes ∙ ap (made (map code olds)) is

    pub current_moved : IsCurrent class_of code state session plan olds old → IsUpToDate state (setting_by class_of code session plan.firsts.items olds) news new → IsCurrent class_of code state session plan news new
    current_moved current now =
        let setting = setting_by class_of code session plan.firsts.items olds in
        let same : setting_by class_of code session plan.firsts.items news ≡ setting = setting_on class_of code phase setup session plan.firsts.items olds news alike in
        record {
          sound = subst (λ (s : Setting). IsSound s (state_in session.channels new)) (sym same)
              (sound_next setting event (state_in session.channels old) (state_in session.channels new) (always, is) current.sound);
          states = subst (λ (s : Setting). HaveStates state news (states_at s (state_in session.channels new))) (sym same) now.states;
          values = now.values ∙ ap (λ (s : Setting). seen s (state_in session.channels new)) (sym same);
          whole = now.whole;
          waits = now.waits;
          taken = now.taken;
        }

    pub machine_moved : (before room : Room) → IsMachine class_of code state phase setup session plan before olds old → IsRoom session room → IsUpToDate state (setting_by class_of code session plan.firsts.items olds) news new
        → IsMachine class_of code state phase setup session plan room news new
    machine_moved before room machine spacious now = record {
      players = players_on class_of code phase setup session olds news machine.players alike;
      plan_is = machine.plan_is;
      room_is = spacious;
      current = current_moved machine.current now;
    }

  -- nothing changed but room
  module _ (processors : List P) (old new : Kept) (same : IsSameKept old new) where
    pub run_same : run_in code session plan processors new ≡ run_in code session plan processors old
    run_same = ap (λ (s : State). record { session = session; codes = map code processors; firsts = plan.firsts.items; state = s }) (same_kept session.channels old new same)

    pub machine_same : (room : Room) → IsMachine class_of code state phase setup session plan room processors old → IsMachine class_of code state phase setup session plan room processors new
    machine_same room machine =
        let setting = setting_by class_of code session plan.firsts.items processors in
        let current = machine.current in
        let is = same_kept session.channels old new same in
        record {
          players = machine.players;
          plan_is = machine.plan_is;
          room_is = machine.room_is;
          current = record {
            sound = subst (IsSound setting) (sym is) current.sound;
            states = subst (λ (s : State). HaveStates state processors (states_at setting s)) (sym is) current.states;
            values = same.values ∙ current.values ∙ ap (seen setting) (sym is);
            whole = ap (λ l. samples_of (interleaved session.channels l)) same.frames ∙ current.whole ∙ sym same.frames;
            waits = subst (λ (l : List Sent). All (λ sent. IsPlayable (length session.nodes) sent.command) l) (sym same.inbox) current.waits;
            taken = subst (ArePlayable (length session.nodes)) (sym same.journal) current.taken;
          };
        }

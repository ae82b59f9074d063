-- Events one after another, and what callers see of a machine.
use Rattle.std.proofs.Common.{◌≡◌, ◌∙◌, ℕ, ◌+◌, ◌≤◌, Bool, true, false, cond, List, [], ◌∷◌, ◌++◌, length, take, get_or, ◌<◌, refl, sym, ap, subst, arith}
use Rattle.std.proofs.lemmas.List.{length-append, take_more}
use Rattle.std.proofs.lemmas.List.Elements.{All-replicate}
use Rattle.vh_component.specs.declared.setup.Phase.{Phase}
use Rattle.vh_component.specs.declared.setup.Setup.{Setup}
use Rattle.vh_plugin.specs.Class.{Class, State as Held}
use Rattle.vh_session.specs.Content.{Content}
use Rattle.vh_core.specs.declared.event.Event.{Event}
use Rattle.vh_core.specs.declared.event.Event.TheVariants.{Put, Audio, Back, Flush}
use Rattle.vh_core.specs.declared.kept.Kept.{Kept}
use Rattle.vh_core.specs.declared.stage.Plan.{Plan}
use Rattle.vh_core.specs.declared.stage.Room.{Room}
use Rattle.vh_core.specs.State.{Setting, State, seen}
use Rattle.vh_core.specs.Steps.{take_in, render, settle, tell, always, is_at_end, next}
use Rattle.vh_core.specs.Run.{Run, setting_in, stepped, through}
use Rattle.vh_core.specs.Sound.{IsSound}
use Rattle.vh_core.specs.Kept.{run_in, samples_of}
use Rattle.vh_core.specs.Machine.{IsMachine}
use Rattle.vh_core.proofs.Sound.{all_back}

through_push : (class_of : ℕ → Class) (events : List Event) (event : Event) (run : Run) → through class_of (events ++ event ∷ []) run ≡ stepped class_of event (through class_of events run)
through_push class_of [] event run = refl
through_push class_of (first ∷ events) event run = through_push class_of events event (stepped class_of first run)

pub through_next : (class_of : ℕ → Class) (events : List Event) (i : ℕ) (event : Event) (run : Run) → event ≡ get_or events i event → i < length events
    → through class_of (take (i + 1) events) run ≡ stepped class_of event (through class_of (take i events) run)
through_next class_of events i event run is within =
    ap (λ (l : List Event). through class_of l run) (take_more events i event within ∙ ap (λ (e : Event). take i events ++ e ∷ []) (sym is)) ∙ through_push class_of (take i events) event run

puts_next : (setting : Setting) (event : Event) (state : State) → length (next setting always event state).puts ≤ length state.puts + 1
puts_next setting (Put editor word) state = let long = length-append state.puts ((editor, word) ∷ []) in omega (arith, long)
puts_next setting (Audio count frames) state =
    let after = tell setting always (seen setting state) (render setting frames (take_in count state)) in
    elim state.flushed as (λ (t : Bool). length (cond t state after).puts ≤ length state.puts + 1) [
      | true ↦ omega arith
      | false ↦ omega arith
    ]
puts_next setting (Back count) state = omega arith
puts_next setting Flush state =
    let after = tell setting always (seen setting state) (settle setting (take_in (length state.inbox) state)) in
    elim (is_at_end setting state) as (λ (t : Bool). length (cond t after state).puts ≤ length state.puts + 1) [
      | true ↦ omega arith
      | false ↦ omega arith
    ]

-- an event is one put at most
pub puts_stepped : (class_of : ℕ → Class) (event : Event) (run : Run) → length (stepped class_of event run).state.puts ≤ length run.state.puts + 1
puts_stepped class_of event run = puts_next (setting_in class_of run) event run.state

-- what callers see of a machine
module _ {P : Type 0} (class_of : ℕ → Class) (code : P → ℕ) (state : P → Held) (phase : P → Phase) (setup : P → Setup) (session : Content) (plan : Plan) (room : Room) (processors : List P) (kept : Kept) (run : Run)
    (view_is : run_in code session plan processors kept ≡ run) (machine : IsMachine class_of code state phase setup session plan room processors kept) where
  pub sound_seen : IsSound (setting_in class_of run) run.state
  sound_seen = subst (λ (r : Run). IsSound (setting_in class_of r) r.state) view_is machine.current.sound

  pub values_seen : kept.values.items ≡ seen (setting_in class_of run) run.state
  values_seen = subst (λ (r : Run). kept.values.items ≡ seen (setting_in class_of r) r.state) view_is machine.current.values

  pub frames_seen : kept.frames.items ≡ samples_of run.state.frames
  frames_seen = subst (λ (r : Run). kept.frames.items ≡ samples_of r.state.frames) view_is (sym machine.current.whole)

  pub controllers_seen : run.state.returns ≡ [] → kept.controllers.items ≡ seen (setting_in class_of run) run.state
  controllers_seen = subst (λ (r : Run). r.state.returns ≡ [] → kept.controllers.items ≡ seen (setting_in class_of r) r.state) view_is (λ returned.
      let here = run_in code session plan processors kept in
      all_back (setting_in class_of here) here.state machine.current.sound.values returned (All-replicate (λ (flag : Bool). flag ≡ false) (length kept.values.items) false refl))

-- The machine over processors.
use Rattle.std.specs.Prelude.{◌≡◌, ◌<◌, ℕ, List, length, slice_index_or}
use Rattle.vh_component.specs.declared.setup.Phase.{Phase}
use Rattle.vh_component.specs.declared.setup.Setup.{Setup}
use Rattle.vh_plugin.specs.Class.{Class, State}
use Rattle.vh_session.specs.Content.{Content}
use Rattle.vh_meaning.specs.Scene.{class_at, firsts_at}
use Rattle.vh_legal.specs.Values.{AreFirsts}
use Rattle.vh_core.specs.declared.kept.Kept.{Kept}
use Rattle.vh_core.specs.declared.stage.Plan.{Plan}
use Rattle.vh_core.specs.declared.stage.Room.{Room}
use Rattle.vh_core.specs.State.{scene_in}
use Rattle.vh_core.specs.Playing.{ArePlayers, setting_by}
use Rattle.vh_core.specs.Stage.{IsPlan, IsRoom}
use Rattle.vh_core.specs.Kept.{IsCurrent}

-- processors that can play a session: one of each node's class, in its first state and at its first values
pub record AreReady {P : Type 0} (class_of : ℕ → Class) (code : P → ℕ) (state : P → State) (values : P → List ℕ) (phase : P → Phase) (setup : P → Setup) (session : Content) (firsts : List ℕ) (processors : List P) : Type 0 where
  pub players : ArePlayers class_of code phase setup session processors
  pub firsts_are : AreFirsts session.nodes firsts
  pub starts : (node : ℕ) (d : P) → node < length processors → state (slice_index_or processors node d) ≡ (class_at (scene_in (setting_by class_of code session firsts processors)) node).start
  pub first : (node : ℕ) (d : P) → node < length processors → values (slice_index_or processors node d) ≡ firsts_at (scene_in (setting_by class_of code session firsts processors)) node

-- what it is made of plays the session, and it is current
pub record IsMachine {P : Type 0} (class_of : ℕ → Class) (code : P → ℕ) (state : P → State) (phase : P → Phase) (setup : P → Setup) (session : Content) (plan : Plan) (room : Room) (processors : List P) (kept : Kept) : Type 0 where
  pub players : ArePlayers class_of code phase setup session processors
  pub plan_is : IsPlan session plan
  pub room_is : IsRoom session room
  pub current : IsCurrent class_of code state session plan processors kept

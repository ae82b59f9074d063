-- What processors play, and from which states.
use Rattle.std.specs.Prelude.{◌≡◌, ◌≤◌, ◌<◌, ◌^◌, ⊤, ℕ, Bool, true, List, length, map, slice_index_or, All}
use Rattle.std.specs.List.{list_any}
use Rattle.vh_component.specs.declared.setup.Phase.{Phase}
use Rattle.vh_component.specs.declared.setup.Phase.TheVariants.{Processing}
use Rattle.vh_component.specs.declared.setup.Setup.{Setup}
use Rattle.vh_params.specs.declared.command.Command.{Command}
use Rattle.vh_params.specs.declared.command.Command.TheVariants.{Begin, Perform, End, Tell}
use Rattle.vh_params.specs.Nodes.{node_at}
use Rattle.vh_plugin.specs.Class.{Class, Param, State, param_of}
use Rattle.vh_journal.specs.declared.entry.Entry.{Entry}
use Rattle.vh_session.specs.Content.{Content}
use Rattle.vh_session.specs.declared.wire.End.TheVariants.{Node as AtNode}
use Rattle.vh_session.specs.declared.wire.Wire.{Wire}
use Rattle.vh_meaning.specs.Mix.{reaches}
use Rattle.vh_core.specs.State.{Setting}
use Rattle.vh_core.specs.Run.{setting_of}

-- of a node: an aux wire reaches it
abbrev pub has_aux : List Wire → ℕ → Bool
has_aux wires node = list_any (reaches (AtNode node) true) wires

-- a processor of a node's class that plays, set up for the session's channels; and an aux wire reaches the node only
-- where the class has the bus
pub record IsPlayer (class : Class) (phase : Phase) (setup : Setup) (params : List Param) (channels : ℕ) (aux : Bool) : Type 0 where
  pub params_are : class.params ≡ params
  pub plays : phase ≡ Processing
  pub channels_are : setup.channels ≡ channels
  pub some : 1 ≤ setup.max
  pub bus : aux ≡ true → class.aux ≡ true

-- one for each node of a session
pub record ArePlayers {P : Type 0} (class_of : ℕ → Class) (code : P → ℕ) (phase : P → Phase) (setup : P → Setup) (session : Content) (processors : List P) : Type 0 where
  pub long : length processors ≡ length session.nodes
  pub each : (node : ℕ) (d : P) → node < length processors
      → IsPlayer (class_of (code (slice_index_or processors node d))) (phase (slice_index_or processors node d)) (setup (slice_index_or processors node d))
      (map param_of (node_at session.nodes node).params) session.channels (has_aux session.wires node)

-- the same, but for their states and values
pub record AreAlike {P : Type 0} (code : P → ℕ) (phase : P → Phase) (setup : P → Setup) (old new : List P) : Type 0 where
  pub codes : map code new ≡ map code old
  pub phases : map phase new ≡ map phase old
  pub setups : map setup new ≡ map setup old

-- they are in these states
abbrev pub HaveStates : {P : Type 0} → (P → State) → List P → (ℕ → State) → Type 0
HaveStates {P} state processors states = (node : ℕ) (d : P) → node < length processors → state (slice_index_or processors node d) ≡ states node

-- what they mean over a session, with these first values and the empty input
abbrev pub setting_by : {P : Type 0} → (ℕ → Class) → (P → ℕ) → Content → List ℕ → List P → Setting
setting_by class_of code session firsts processors = setting_of class_of session (map code processors) firsts

-- a command that one of so many nodes can take
abbrev pub IsPlayable : ℕ → Command → Type 0
IsPlayable count (Begin node id) = ⊤
IsPlayable count (Perform node id value) = value ≤ 2 ^ 24
IsPlayable count (End node id) = ⊤
IsPlayable count (Tell node words) = node < count

abbrev pub ArePlayable : ℕ → List Entry → Type 0
ArePlayable count entries = All (λ entry. IsPlayable count entry.command) entries

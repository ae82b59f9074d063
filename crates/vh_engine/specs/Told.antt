-- What entries at a block's first sample come to.
use Rattle.std.specs.Prelude.{◌≡◌, ◌≤◌, ◌<◌, ℕ, List, length, map, slice_index_or, All}
use Rattle.vh_lane.specs.declared.lane.Lane.{Lane}
use Rattle.vh_params.specs.declared.command.Command.{Command}
use Rattle.vh_params.specs.declared.command.Command.TheVariants.{Begin, Perform, End, Tell}
use Rattle.vh_plugin.specs.Class.{Class}
use Rattle.vh_journal.specs.declared.entry.Entry.{Entry}
use Rattle.vh_meaning.specs.Scene.{Scene}
use Rattle.vh_meaning.specs.Steps.{value_now}
use Rattle.vh_engine.specs.declared.control.Control.{Control}
use Rattle.vh_engine.specs.Controls.{touch_of, line_of, touch_through, IsControl, IsSame}
use Rattle.vh_engine.specs.Nodes.{AreOf}
use Rattle.vh_engine.specs.Staged.{AreBoards, board_at}

-- the values of parameters at a sample
abbrev pub values_now_of : List (ℕ × ℕ × Lane) → List Control → ℕ → List ℕ
values_now_of lanes controls sample = map (λ control. value_now (line_of lanes control) (touch_of control) sample) controls

-- a parameter took entries
pub record IsTaken (lanes : List (ℕ × ℕ × Lane)) (node : ℕ) (entries : List Entry) (old new : Control) : Type 0 where
  pub touch : touch_of new ≡ touch_through (line_of lanes old) old.steps node old.id entries (touch_of old)
  pub same : IsSame old new
  pub sent : new.sent ≡ old.sent

-- so each of a node's
pub record AreTaken (lanes : List (ℕ × ℕ × Lane)) (node : ℕ) (entries : List Entry) (old new : List Control) : Type 0 where
  pub long : length new ≡ length old
  pub each : (k : ℕ) (d : Control) → k < length old → IsTaken lanes node entries (slice_index_or old k d) (slice_index_or new k d)

-- and so of each node
pub record HaveTaken (lanes : List (ℕ × ℕ × Lane)) (entries : List Entry) (old new : List (List Control)) : Type 0 where
  pub long : length new ≡ length old
  pub each : (node : ℕ) → node < length old → AreTaken lanes node entries (board_at old node) (board_at new node)

-- a command is on one of so many nodes
abbrev pub node_of : Command → ℕ
node_of (Begin node id) = node
node_of (Perform node id value) = node
node_of (End node id) = node
node_of (Tell node words) = node

abbrev pub IsOnNode : ℕ → Command → Type 0
IsOnNode count command = node_of command < count

-- each node's parameters are its class's, in range, with room for so many entries, and no more than `most`
pub record AreReady (class_of : ℕ → Class) (codes : List ℕ) (lanes room most : ℕ) (boards : List (List Control)) : Type 0 where
  pub long : length boards ≡ length codes
  pub of : (node d : ℕ) → node < length codes → AreOf (class_of (slice_index_or codes node d)).params (board_at boards node)
  pub each : (node : ℕ) → node < length codes → All (IsControl lanes room) (board_at boards node)
  pub few : (node : ℕ) → node < length codes → length (board_at boards node) ≤ most

-- a scene is of these classes, codes, lanes and parameters
pub record IsStage (class_of : ℕ → Class) (codes : List ℕ) (scene : Scene) (lanes : List (ℕ × ℕ × Lane)) (boards : List (List Control)) : Type 0 where
  pub classes : scene.class_of ≡ class_of
  pub codes_are : scene.codes ≡ codes
  pub boards_are : AreBoards scene lanes boards

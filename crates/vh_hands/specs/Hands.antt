-- What the editors' holders have of the controllers.
use Rattle.std.specs.Prelude.{◌≡◌, ◌≤◌, ◌<◌, ◌+◌, ◌-◌, ℕ, List, ◌∷◌, length, map, All, Vec}
use Rattle.std.specs.List.{sum_by}
use Rattle.std.specs.declared.alloc.Global.{Global}
use Rattle.vh_params.specs.Nodes.{Node}
use Rattle.vh_params.specs.declared.command.Word.{Word}
use Rattle.vh_gesture.specs.Rules.{Counts}
use Rattle.vh_gesture.specs.Scripts.{accepted, counts_after}
use Rattle.vh_counted.specs.declared.object.Counted.{Counted}
use Rattle.vh_counted.specs.declared.object.Holder.{Holder}
use Rattle.vh_counted.specs.declared.object.Opened.{Opened}
use Rattle.vh_counted.specs.Held.{value_of_opened}
use Rattle.vh_counted.specs.Steps.{total}
use Rattle.vh_instance.specs.Band.{controller_object, controller_table, kept_beside, kept_by_editor, objects_of}
use Rattle.vh_instance.specs.Seats.{Seat, opener_seat, row_seats, holders_at, AreHeld, Has}

-- what an editor has at its script's end
abbrev pub at_script_end : List Node → List Word → Counts
at_script_end nodes script = counts_after (accepted nodes script)

-- the references of an editor's holder of a node's controller: those that it holds at its script's end, and its thread's
abbrev pub in_hand : List Node → ℕ → List Word → ℕ
in_hand nodes node script = (at_script_end nodes script).held node + 1

-- the holds of it, of 64, that it didn't make
abbrev pub not_held : List Node → ℕ → List Word → ℕ
not_held nodes node script = 64 - (at_script_end nodes script).holds node

-- Of each node's controller the editors' holders have together a reference for each that an editor holds at its
-- script's end and one for each editor's thread, and room for the holds that the editors didn't make, of 64 each.
pub record AreInHand (nodes : List Node) (scripts : List (List Word)) (rows : List (List Seat)) : Type 0 where
  pub references : (node : ℕ) → node < length nodes → sum_by (λ seat. total seat.numbers) (holders_at rows node) ≡ sum_by (in_hand nodes node) scripts
  pub room : (node : ℕ) → node < length nodes → sum_by (λ seat. seat.numbers.room) (holders_at rows node) ≡ sum_by (not_held nodes node) scripts

-- each opener has one reference at each interface of its controller, and no room
abbrev pub HaveTheirOwn : {C : Type 0} → List (Opened C) → Type 0
HaveTheirOwn edits = All (Has controller_table (kept_beside 0) 0) (map opener_seat edits)

-- Controllers as they are made for so many editors, of whom each has a holder of each controller, with two references and
-- room for 64 adds.
pub record AreForEditors {C : Type 0} (editors : ℕ) (controllers : List (Counted C)) (edits : List (Opened C)) (rows : List (Vec (Holder C) Global)) : Type 0 where
  pub few : editors ≤ 8
  pub objects : All (λ object. object ≡ controller_object editors) (objects_of controllers)
  pub references : HaveTheirOwn edits
  pub as_many : length rows ≡ editors
  pub holders : All (λ row. All (Has controller_table kept_by_editor 64) row) (map row_seats rows)
  pub held : AreHeld (objects_of controllers) (map opener_seat edits ∷ map row_seats rows)

-- what the controllers are is as before
abbrev pub AreSameValues : {C : Type 0} → List (Opened C) → List (Opened C) → Type 0
AreSameValues old new = map value_of_opened new ≡ map value_of_opened old

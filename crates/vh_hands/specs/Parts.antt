-- How the editors' holders are gathered and parted off anew.
use Rattle.std.specs.Prelude.{◌*◌, ℕ, List, [], ◌∷◌}
use Rattle.vh_params.specs.Nodes.{Node}
use Rattle.vh_params.specs.declared.command.Word.{Word}
use Rattle.vh_counted.specs.Steps.{split_part}
use Rattle.vh_instance.specs.Band.{by_node, controller_object, controller_table, kept_beside}
use Rattle.vh_instance.specs.Seats.{Seat, AreTogether, Has}
use Rattle.vh_hands.specs.Hands.{in_hand, not_held}

-- a whole opener, with two references at IEditController and 64 adds for each of so many editors
pub record IsGathered (editors : ℕ) (opener : Seat) : Type 0 where
  pub held : AreTogether (controller_object editors) (opener ∷ [])
  pub references : Has controller_table (kept_beside (2 * editors)) (64 * editors) opener

-- an editor's holder of a node's controller at its script's end
abbrev pub part_for : ℕ → List Node → ℕ → List Word → Seat
part_for editors nodes node script = record { object = controller_object editors; numbers = split_part 2 (in_hand nodes node script) (not_held nodes node script) }

-- its holders of the first nodes, so many
abbrev pub row_for : ℕ → List Node → ℕ → List Word → List Seat
row_for editors nodes count script = by_node count (λ node. part_for editors nodes node script)

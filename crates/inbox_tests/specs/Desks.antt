-- What the tests need of a desk.
use Rattle.std.specs.Prelude.{◌≡◌, List}
use Rattle.vh_params.specs.Nodes.{Node}
use Rattle.vh_gesture.specs.Tables.{IsOf}
use Rattle.vh_inbox.specs.Values.{TableId, AtDesk}

-- the desk is one of this inbox, and its table one of these nodes
abbrev pub IsDeskOf : TableId → List Node → AtDesk → Type 0
IsDeskOf inbox nodes desk = (desk.inbox ≡ inbox) × IsOf nodes desk.table

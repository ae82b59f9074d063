-- What a desk keeps.
use Rattle.std.specs.Prelude.{◌≡◌, length, slice_index}
use Rattle.std.specs.Arc.{arc_value}
use Rattle.crossbeam_queue.specs.Passes.{view, IsPassOf, ruled_capacity}
use Rattle.vh_inbox.specs.declared.desk.Desk.TheInside.{Inside}
use Rattle.vh_inbox.specs.Lists.{first_sent}
use Rattle.vh_inbox.specs.Rule.{desk_view}
use Rattle.vh_inbox.specs.Values.{AtDesk}

abbrev pub desk_of : Inside → AtDesk
desk_of desk = record {
  inbox = desk.pass.table_id;
  capacity = ruled_capacity (arc_value desk.line);
  quotas = (view desk.pass).quotas;
  number = desk.number;
  list = first_sent (view desk.pass).lists;
  refused = desk.refused;
  table = desk.gestures;
}

pub record IsDesk (desk : Inside) : Type 0 where
  pub pass : IsPassOf (arc_value desk.line) desk.pass
  pub knows : view desk.pass ≡ desk_view (view desk.pass).quotas desk.number (first_sent (view desk.pass).lists)
  pub next : desk.next ≡ length (first_sent (view desk.pass).lists)
  pub quota : desk.quota ≡ slice_index (view desk.pass).quotas desk.number

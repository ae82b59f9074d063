-- What the drain keeps.
use Rattle.std.specs.Prelude.{◌≡◌, true}
use Rattle.std.specs.Arc.{arc_value}
use Rattle.crossbeam_queue.specs.Passes.{view, IsPassOf, ruled_capacity}
use Rattle.vh_inbox.specs.declared.drain.Drain.TheInside.{Inside}
use Rattle.vh_inbox.specs.Values.{AtDrain}

abbrev pub drain_of : Inside → AtDrain
drain_of drain = record {
  inbox = drain.pass.table_id;
  capacity = ruled_capacity (arc_value drain.line);
  quotas = (view drain.pass).quotas;
  taken = (view drain.pass).taken;
  lists = (view drain.pass).lists;
}

pub record IsDrain (drain : Inside) : Type 0 where
  pub pass : IsPassOf (arc_value drain.line) drain.pass
  pub drains : (view drain.pass).drains ≡ true

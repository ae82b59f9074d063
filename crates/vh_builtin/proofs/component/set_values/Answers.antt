use Rattle.vh_builtin.specs.Kinds.{kind_number}
use Rattle.vh_builtin.specs.Held.{held_set, held_valued}
use Rattle.vh_builtin.proofs.component.set_values.Goals as goal

pub returns-clause-set : goal.returns-clause-set
returns-clause-set c = held_set (kind_number c.args.kind) _ c.args.bytes.now c.args.values.now c.take_held.new.values c.take_held.result c.writable.ensures.ids c.requires c.take_held.ensures

pub returns-clause-valued : goal.returns-clause-valued
returns-clause-valued c = held_valued (kind_number c.args.kind) _ c.args.bytes.now c.args.values.now c.take_held.new.values c.take_held.result c.writable.ensures.ids c.requires c.take_held.ensures

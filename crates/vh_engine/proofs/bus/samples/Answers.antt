use Rattle.std.proofs.Common.{rules, ◌≡◌, ◌≤◌, ◌∙◌, length, ℕ, ◌<◌, List, [], sym, ap, subst, arith, Vec, ℤ}
use Rattle.std.specs.declared.alloc.Global.{Global}
use Rattle.std.proofs.lemmas.List.{length-take-le, length-map}
use Rattle.vh_session.specs.declared.wire.End.{End}
use Rattle.vh_engine.specs.Buses.{rows_of, row_at, IsSource, HaveRoom}
use Rattle.vh_engine.proofs.Rows.{row_room}
use Rattle.vh_engine.proofs.bus.samples.Goals as goal

pub slice_bounds-result-end : goal.slice_bounds-result-end
slice_bounds-result-end c =
    let within : c.in-Node.node < length c.args.rows.now = subst (λ (end : End). IsSource (length c.args.rows.now) end) c.in-Node.is c.requires.source in
    let room = row_room c.args.rows.now c.in-Node.node (length c.args.ins.now) c.index-rows-node.result c.requires.room within c.index-rows-node.is in
    sym (length-take-le (length c.args.ins.now) c.deref.result.now (subst (λ (xs : List ℤ). length c.args.ins.now ≤ length xs) (sym c.deref.ensures.value) room))

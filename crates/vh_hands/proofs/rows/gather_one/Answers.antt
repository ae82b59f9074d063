use Rattle.std.proofs.Common.{◌∙◌, ◌+◌, ◌<◌, length, drop, map, get_or, arith}
use Rattle.vh_counted.specs.Held.{object_of}
use Rattle.vh_instance.specs.Seats.{opener_seat, holder_seat, row_seats, last_holders}
use Rattle.vh_instance.proofs.Ends.{row_same, row_some, one_taken, with_last, first_of, second_of, some_of, joined_together}
use Rattle.vh_hands.proofs.Cuts.{capacities_same}
use Rattle.vh_hands.proofs.Gathering.{left_next, references_next}
use Rattle.vh_hands.proofs.rows.gather_one.Goals as goal

pub take_last-requires : goal.take_last-requires
take_last-requires g c =
    let rows = c.loop-row.row-items in
    let row = get_or rows c.loop-row.row-index c.row-item.result in
    let sized = c.loop-row.invariant.taken.size in
    let lt : c.loop-row.row-index < length c.args.rows.now = omega (arith, sized) in
    omega (arith, row.ok.0, row_some c.args.rows.now rows c.loop-row.row-index c.row-item.result c.loop-row.invariant.taken lt c.requires.some)

pub join_open-requires-clause-of_this : goal.join_open-requires-clause-of_this
join_open-requires-clause-of_this g c = first_of (object_of c.args.object.now) (opener_seat c.loop-row.opener) (last_holders (map row_seats (drop c.loop-row.row-index c.args.rows.now))) c.loop-row.invariant.held

pub join_open-requires-clause-other_too : goal.join_open-requires-clause-other_too
join_open-requires-clause-other_too g c =
    let k = c.loop-row.row-index in
    let sized = c.loop-row.invariant.taken.size in
    let lt : k < length c.args.rows.now = omega (arith, sized) in
    second_of (object_of c.args.object.now) (opener_seat c.loop-row.opener) (holder_seat c.take_last.result) (last_holders (map row_seats (drop (k + 1) c.args.rows.now)))
    (with_last (object_of c.args.object.now) (opener_seat c.loop-row.opener) c.args.rows.now c.loop-row.row-items k c.row-item.result c.take_last.new.self c.take_last.result c.loop-row.invariant.taken lt c.take_last.ensures.items c.loop-row.invariant.held)

pub join_open-requires-clause-some : goal.join_open-requires-clause-some
join_open-requires-clause-some g c =
    let k = c.loop-row.row-index in
    let sized = c.loop-row.invariant.taken.size in
    let lt : k < length c.args.rows.now = omega (arith, sized) in
    some_of (object_of c.args.object.now) (opener_seat c.loop-row.opener) (holder_seat c.take_last.result) (last_holders (map row_seats (drop (k + 1) c.args.rows.now)))
    (with_last (object_of c.args.object.now) (opener_seat c.loop-row.opener) c.args.rows.now c.loop-row.row-items k c.row-item.result c.take_last.new.self c.take_last.result c.loop-row.invariant.taken lt c.take_last.ensures.items c.loop-row.invariant.held)

pub loop-row-preserved : goal.loop-row-preserved
loop-row-preserved g c =
    let k = c.loop-row.row-index in
    let old = c.args.rows.now in
    let rows = c.loop-row.row-items in
    let object = object_of c.args.object.now in
    let opener = opener_seat c.loop-row.opener in
    let new = opener_seat c.join_open.new.o in
    let invariant = c.loop-row.invariant in
    let taken = invariant.taken in
    let sized = taken.size in
    let lt : k < length old = omega (arith, sized) in
    let there : k < length rows = omega (arith, sized, lt) in
    let held = with_last object opener old rows k c.row-item.result c.take_last.new.self c.take_last.result taken lt c.take_last.ensures.items invariant.held in
    record {
      taken = one_taken old rows k (get_or rows k c.row-item.result) c.take_last.new.self c.take_last.result taken lt (row_same old rows k c.row-item.result taken lt) c.take_last.ensures.items;
      capacities = capacities_same rows k c.take_last.new.self c.row-item.result there c.take_last.ensures.capacity ∙ invariant.capacities;
      held = joined_together object opener new (holder_seat c.take_last.result) (last_holders (map row_seats (drop (k + 1) old))) held c.join_open.ensures.object c.join_open.ensures.kept;
      left = left_next object opener new old rows k c.row-item.result c.take_last.new.self c.take_last.result taken lt c.take_last.ensures.items invariant.held invariant.left;
      references = references_next object opener new old rows k c.row-item.result c.take_last.new.self c.take_last.result taken lt c.take_last.ensures.items invariant.held invariant.left c.join_open.ensures.joined invariant.references;
      value = c.join_open.ensures.value ∙ invariant.value;
    }

use Rattle.std.proofs.Common.{◌≡◌, ◌+◌, ◌-◌, ◌*◌, ◌<◌, length, map, get_or, ◌∙◌, arith}
use Rattle.std.proofs.lemmas.List.{get_or_default}
use Rattle.vh_counted.specs.Held.{object_of}
use Rattle.vh_instance.specs.Seats.{Seat, opener_seat, holder_seat}
use Rattle.vh_instance.proofs.Ends.{first_of}
use Rattle.vh_instance.proofs.Parted.{row_alike, row_has_room, one_put}
use Rattle.vh_instance.proofs.Places.{positions_of, edits_some, edit_parted, editor_has}
use Rattle.vh_instance.proofs.controller.part_all.Goals as goal

pub part-requires-clause-of_this : goal.part-requires-clause-of_this
part-requires-clause-of_this g c = first_of (object_of c.args.object.now) (opener_seat c.loop-row.opener) c.loop-row.invariant.put.seats c.loop-row.invariant.put.held

pub part-requires-clause-more : goal.part-requires-clause-more
part-requires-clause-more g c =
    let left = length c.args.rows.now - c.loop-row.row-index in
    let put = c.loop-row.invariant.put in
    let sized = put.size in
    let size = positions_of c.args.object.now.object.cap c.loop-row.opener.numbers (map (λ (seat : Seat). seat.numbers) put.seats) put.held.whole in
    let some = edits_some (2 * left) (64 * left) (opener_seat c.loop-row.opener) c.loop-row.invariant.references size in
    let lt : c.loop-row.row-index < length c.args.rows.now = omega (arith, sized) in
    omega (arith, some, lt)

pub push_reserved-requires : goal.push_reserved-requires
push_reserved-requires g c =
    let rows = c.loop-row.row-items in
    let put = c.loop-row.invariant.put in
    let sized = put.size in
    let lt : c.loop-row.row-index < length c.args.rows.now = omega (arith, sized) in
    let row = get_or rows c.loop-row.row-index c.row-item.result in
    omega (arith, row.ok.0, row_has_room (object_of c.args.object.now) (opener_seat c.loop-row.opener) c.args.rows.now rows c.loop-row.row-index c.row-item.result put lt c.requires.room)

pub loop-row-preserved : goal.loop-row-preserved
loop-row-preserved g c =
    let k = c.loop-row.row-index in
    let old = c.args.rows.now in
    let rows = c.loop-row.row-items in
    let put = c.loop-row.invariant.put in
    let sized = put.size in
    let lt : k < length old = omega (arith, sized) in
    let within : k < length rows = omega (arith, sized, lt) in
    let row = get_or rows k c.row-item.result in
    let left = length old - k in
    let rest = length old - (k + 1) in
    let size = positions_of c.args.object.now.object.cap c.loop-row.opener.numbers (map (λ (seat : Seat). seat.numbers) put.seats) put.held.whole in
    let given : 2 * left ≡ 2 * rest + 2 = omega (arith, lt) in
    let room : 64 * left ≡ 64 * rest + 64 = omega (arith, lt) in
    record {
      put = one_put (object_of c.args.object.now) (opener_seat c.loop-row.opener) (opener_seat c.part.new.o) old rows k row c.push_reserved.new.self c.part.result put lt
          (row_alike (object_of c.args.object.now) (opener_seat c.loop-row.opener) old rows k c.row-item.result put lt) (get_or_default rows k c.row-item.result row within)
          c.push_reserved.ensures.items c.push_reserved.ensures.capacity (editor_has (holder_seat c.part.result) c.part.ensures.part) c.part.ensures.kept c.part.ensures.object c.part.ensures.part_object;
      references = edit_parted (2 * left) (64 * left) (opener_seat c.loop-row.opener) c.loop-row.invariant.references (2 * rest) (64 * rest) (opener_seat c.part.new.o) size given room c.part.ensures.rest;
      value = c.part.ensures.value ∙ c.loop-row.invariant.value;
    }

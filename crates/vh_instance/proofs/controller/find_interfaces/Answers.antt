use Rattle.std.proofs.Common.{◌≡◌, ℕ, ◌+◌, ◌*◌, ◌-◌, ◌<◌, [], List, sym, ap, subst, ◌∙◌, arith}
use Rattle.vh_ids.specs.declared.interface.Interface.{Interface}
use Rattle.vh_ids.specs.declared.interface.Interface.TheVariants.{EditController, ConnectionPoint}
use Rattle.vh_ids.specs.Interfaces.{iid_of}
use Rattle.vh_counted.specs.declared.object.Object.{Object}
use Rattle.vh_counted.specs.Objects.{IsWhole}
use Rattle.vh_query.specs.Found.{found_from}
use Rattle.vh_instance.specs.Seats.{opener_seat, Has}
use Rattle.vh_instance.specs.Band.{controller_table, kept_beside}
use Rattle.vh_instance.proofs.Places.{positions_of, edit_one}
use Rattle.vh_instance.proofs.controller.find_interfaces.Goals as goal

pub add_reference-requires-clause-listed : goal.add_reference-requires-clause-listed
add_reference-requires-clause-listed g c = (2, ap (λ (table : List Interface). found_from 0 table (iid_of EditController)) c.of_controller-table.ensures.interfaces)

pub add_reference-requires-2-clause-listed : goal.add_reference-requires-2-clause-listed
add_reference-requires-2-clause-listed g c = (3, ap (λ (table : List Interface). found_from 0 table (iid_of ConnectionPoint)) c.of_controller-table.ensures.interfaces)

pub loop-preserved : goal.loop-preserved
loop-preserved g c =
    let editors = c.args.editors in
    let count = c.loop.counter in
    let invariant = c.loop.invariant in
    let cap = c.args.object.now.object.cap in
    let cap_is : cap ≡ 2 + 66 * editors = ap (λ (o : Object). o.cap) c.requires.object in
    let some : 0 < 66 * editors - count = omega (arith, c.loop-test.true) in
    let size = positions_of (2 + 66 * editors) c.loop.opener.numbers [] invariant.whole in
    let room : 66 * editors - count - 1 ≡ 66 * editors - (count + 1) = omega arith in
    record {
      references = subst (λ (r : ℕ). Has controller_table (kept_beside (count + 1)) r (opener_seat c.add_open.new.o)) room
          (edit_one cap count (66 * editors - count) (opener_seat c.loop.opener) (opener_seat c.add_open.new.o) c.add_open.result invariant.references some size c.add_open.ensures.step);
      whole = subst (λ (n : ℕ). IsWhole n c.add_open.new.o.numbers) cap_is (c.add_open.ensures.kept [] (subst (λ (n : ℕ). IsWhole n c.loop.opener.numbers) (sym cap_is) invariant.whole));
      object = c.add_open.ensures.object ∙ invariant.object;
      value = c.add_open.ensures.value ∙ invariant.value;
    }

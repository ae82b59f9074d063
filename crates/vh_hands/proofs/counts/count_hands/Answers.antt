use Rattle.std.proofs.Common.{◌∙◌, ℕ, ◌+◌, ◌-◌, ◌*◌, ◌<◌, [], length, take, refl, arith}
use Rattle.std.specs.List.{sum_by}
use Rattle.vh_counted.specs.Held.{object_of}
use Rattle.vh_instance.specs.Seats.{opener_seat}
use Rattle.vh_instance.proofs.Ends.{first_of}
use Rattle.vh_hands.specs.Hands.{in_hand, not_held}
use Rattle.vh_hands.proofs.Counting as counting
use Rattle.vh_hands.proofs.Places.{has_same, edit_at}
use Rattle.vh_hands.proofs.counts.count_hands.Goals as goal

pub add_holds-requires-clause-of_this : goal.add_holds-requires-clause-of_this
add_holds-requires-clause-of_this g c = first_of (object_of c.args.object.now) (opener_seat c.loop-editor.opener) [] c.loop-editor.invariant.held

pub overflow_add-holds : goal.overflow_add-holds
overflow_add-holds g c =
    let nodes = g.E.Worked.nodes c.args.editors.now in
    let scripts = g.E.Worked.scripts c.args.editors.now in
    let k = c.loop-editor.editor in
    let node = c.args.node in
    let end = c.count-editor-end.ensures in
    let test : k < c.count-editor-end.result = c.loop-editor-test.true in
    let lt : k < length scripts = omega (arith, test, end) in
    let counts = c.gestures-gestures.ensures.counts in
    let holds_are = c.holds-holds.ensures ∙ counts.holds node in
    let most = counting.few nodes node scripts k c.holds-holds.result _ lt holds_are refl in
    record { fits = omega (arith, most) }

pub release_drops-requires-clause-of_this : goal.release_drops-requires-clause-of_this
release_drops-requires-clause-of_this g c = c.add_holds.ensures.object ∙ first_of (object_of c.args.object.now) (opener_seat c.loop-editor.opener) [] c.loop-editor.invariant.held

pub release_drops-requires-clause-some : goal.release_drops-requires-clause-some
release_drops-requires-clause-some g c =
    let nodes = g.E.Worked.nodes c.args.editors.now in
    let scripts = g.E.Worked.scripts c.args.editors.now in
    let k = c.loop-editor.editor in
    let node = c.args.node in
    let holds = c.holds-holds.result in
    let end = c.count-editor-end.ensures in
    let test : k < c.count-editor-end.result = c.loop-editor-test.true in
    let lt : k < length scripts = omega (arith, test, end) in
    let counts = c.gestures-gestures.ensures.counts in
    let holds_are = c.holds-holds.ensures ∙ counts.holds node in
    let held_is = c.held-held.ensures ∙ counts.held node in
    let given : ℕ = 2 * (length scripts - k) + sum_by (in_hand nodes node) (take k scripts) in
    let room : ℕ = 64 * (length scripts - k) + sum_by (not_held nodes node) (take k scripts) in
    let few = counting.some_room nodes node scripts k holds c.held-held.result lt holds_are held_is in
    let some = counting.some_references nodes node scripts k holds c.held-held.result lt holds_are held_is in
    let added = c.add_holds.ensures.references given (room - holds) (has_same given given room (room - holds + holds) (opener_seat c.loop-editor.opener) refl (omega (arith, few)) c.loop-editor.invariant.references) in
    let at = edit_at (given + holds) (room - holds) (opener_seat c.add_holds.new.opener) added in
    omega (arith, at, some)

pub loop-editor-preserved : goal.loop-editor-preserved
loop-editor-preserved g c =
    let nodes = g.E.Worked.nodes c.args.editors.now in
    let scripts = g.E.Worked.scripts c.args.editors.now in
    let k = c.loop-editor.editor in
    let node = c.args.node in
    let holds = c.holds-holds.result in
    let held = c.held-held.result in
    let end = c.count-editor-end.ensures in
    let test : k < c.count-editor-end.result = c.loop-editor-test.true in
    let lt : k < length scripts = omega (arith, test, end) in
    let counts = c.gestures-gestures.ensures.counts in
    let holds_are = c.holds-holds.ensures ∙ counts.holds node in
    let held_is = c.held-held.ensures ∙ counts.held node in
    let given : ℕ = 2 * (length scripts - k) + sum_by (in_hand nodes node) (take k scripts) in
    let room : ℕ = 64 * (length scripts - k) + sum_by (not_held nodes node) (take k scripts) in
    let given_next : ℕ = 2 * (length scripts - (k + 1)) + sum_by (in_hand nodes node) (take (k + 1) scripts) in
    let room_next : ℕ = 64 * (length scripts - (k + 1)) + sum_by (not_held nodes node) (take (k + 1) scripts) in
    let few = counting.some_room nodes node scripts k holds held lt holds_are held_is in
    let added = c.add_holds.ensures.references given (room - holds) (has_same given given room (room - holds + holds) (opener_seat c.loop-editor.opener) refl (omega (arith, few)) c.loop-editor.invariant.references) in
    record {
      references = c.release_drops.ensures.references given_next room_next
          (has_same (given + holds) (given_next + (1 + holds - held)) (room - holds) room_next (opener_seat c.add_holds.new.opener)
          (counting.references_next nodes node scripts k holds held lt holds_are held_is) (counting.room_next nodes node scripts k holds held lt holds_are held_is) added);
      held = counting.alone (object_of c.args.object.now) (opener_seat c.release_drops.new.opener)
          (c.release_drops.ensures.object ∙ c.add_holds.ensures.object ∙ first_of (object_of c.args.object.now) (opener_seat c.loop-editor.opener) [] c.loop-editor.invariant.held) c.release_drops.ensures.whole;
      value = c.release_drops.ensures.value ∙ c.add_holds.ensures.value ∙ c.loop-editor.invariant.value;
    }

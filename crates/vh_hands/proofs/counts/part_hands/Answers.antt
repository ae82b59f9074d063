use Rattle.std.proofs.Common.{◌≡◌, ◌∙◌, ◌+◌, ◌-◌, ◌<◌, List, [], ◌∷◌, ◌++◌, length, map, take, drop, get_or, set, refl, sym, ap, arith}
use Rattle.std.specs.Prelude.{Vec}
use Rattle.std.specs.List.{sum_by}
use Rattle.std.specs.declared.alloc.Global.{Global}
use Rattle.std.proofs.lemmas.List.{length-map, map-set, map_more}
use Rattle.vh_params.specs.declared.command.Word.{Word}
use Rattle.vh_counted.specs.Held.{object_of}
use Rattle.vh_counted.specs.declared.object.Holder.{Holder}
use Rattle.vh_instance.specs.Seats.{Seat, opener_seat, holder_seat, row_seats}
use Rattle.vh_instance.proofs.Ends.{first_of}
use Rattle.vh_instance.proofs.Places.{positions_of}
use Rattle.vh_hands.specs.Hands.{in_hand, not_held}
use Rattle.vh_hands.specs.Parts.{part_for, row_for}
use Rattle.vh_hands.proofs.Counting as counting
use Rattle.vh_hands.proofs.Cuts.{left_at, one_more, capacities_same, parted_together}
use Rattle.vh_hands.proofs.Handing.{row_more, row_size}
use Rattle.vh_hands.proofs.Places.{has_same, edit_at, edits_within, edit_split}
use Rattle.vh_hands.proofs.counts.part_hands.Goals as goal

-- there is a script for each row
as_many : {C : Type 0} (rows : List (Vec (Holder C) Global)) (of : List Word → List Seat) (scripts : List (List Word)) → map row_seats rows ≡ map of scripts → length rows ≡ length scripts
as_many {C} rows of scripts same = sym (length-map rows (λ (row : Vec (Holder C) Global). row_seats row)) ∙ ap length same ∙ length-map scripts of

pub overflow_add-references : goal.overflow_add-references
overflow_add-references g c =
    let nodes = g.E.Worked.nodes c.args.editors.now in
    let scripts = g.E.Worked.scripts c.args.editors.now in
    let k = c.loop-editor.editor in
    let node = c.args.node in
    let count = as_many c.args.rows.now (row_for (length scripts) nodes node) scripts c.requires.rows in
    let lt : k < length scripts = omega (arith, c.loop-editor-test.true, count) in
    let counts = c.gestures-gestures.ensures.counts in
    let held_is = c.held-references.ensures ∙ counts.held node in
    let most = counting.within nodes node scripts k _ c.held-references.result lt refl held_is in
    let few = counting.few nodes node scripts k _ c.held-references.result lt refl held_is in
    record { fits = omega (arith, most, few) }

pub overflow_sub-room : goal.overflow_sub-room
overflow_sub-room g c =
    let nodes = g.E.Worked.nodes c.args.editors.now in
    let scripts = g.E.Worked.scripts c.args.editors.now in
    let k = c.loop-editor.editor in
    let node = c.args.node in
    let count = as_many c.args.rows.now (row_for (length scripts) nodes node) scripts c.requires.rows in
    let lt : k < length scripts = omega (arith, c.loop-editor-test.true, count) in
    let counts = c.gestures-gestures.ensures.counts in
    counting.few nodes node scripts k c.holds-room.result _ lt (c.holds-room.ensures ∙ counts.holds node) refl

pub part-part-requires-clause-of_this : goal.part-part-requires-clause-of_this
part-part-requires-clause-of_this g c =
    let nodes = g.E.Worked.nodes c.args.editors.now in
    let scripts = g.E.Worked.scripts c.args.editors.now in
    first_of (object_of c.args.object.now) (opener_seat c.loop-editor.opener) (map (part_for (length scripts) nodes c.args.node) (take c.loop-editor.editor scripts)) c.loop-editor.invariant.held

pub part-part-requires-clause-held : goal.part-part-requires-clause-held
part-part-requires-clause-held g c =
    let nodes = g.E.Worked.nodes c.args.editors.now in
    let scripts = g.E.Worked.scripts c.args.editors.now in
    let k = c.loop-editor.editor in
    let node = c.args.node in
    let count = as_many c.args.rows.now (row_for (length scripts) nodes node) scripts c.requires.rows in
    let lt : k < length scripts = omega (arith, c.loop-editor-test.true, count) in
    let counts = c.gestures-gestures.ensures.counts in
    let held_is = c.held-references.ensures ∙ counts.held node in
    let left = counting.references_left nodes node scripts k _ c.held-references.result lt refl held_is in
    let at = edit_at (sum_by (in_hand nodes node) (drop k scripts)) (sum_by (not_held nodes node) (drop k scripts)) (opener_seat c.loop-editor.opener) c.loop-editor.invariant.references in
    omega (arith, at, left)

pub part-part-requires-clause-more : goal.part-part-requires-clause-more
part-part-requires-clause-more g c =
    let nodes = g.E.Worked.nodes c.args.editors.now in
    let scripts = g.E.Worked.scripts c.args.editors.now in
    let k = c.loop-editor.editor in
    let node = c.args.node in
    let count = as_many c.args.rows.now (row_for (length scripts) nodes node) scripts c.requires.rows in
    let lt : k < length scripts = omega (arith, c.loop-editor-test.true, count) in
    let counts = c.gestures-gestures.ensures.counts in
    let held_is = c.held-references.ensures ∙ counts.held node in
    let left = counting.references_left nodes node scripts k _ c.held-references.result lt refl held_is in
    let at = edit_at (sum_by (in_hand nodes node) (drop k scripts)) (sum_by (not_held nodes node) (drop k scripts)) (opener_seat c.loop-editor.opener) c.loop-editor.invariant.references in
    let all = edits_within c.loop-editor.opener.numbers (positions_of (object_of c.args.object.now).cap c.loop-editor.opener.numbers _ c.loop-editor.invariant.held.whole) in
    omega (arith, at, left, all)

pub push_reserved-requires : goal.push_reserved-requires
push_reserved-requires g c =
    let nodes = g.E.Worked.nodes c.args.editors.now in
    let scripts = g.E.Worked.scripts c.args.editors.now in
    let k = c.loop-editor.editor in
    let node = c.args.node in
    let rows = c.loop-editor.rows in
    let d = c.index-rows-editor.result in
    let count = as_many c.args.rows.now (row_for (length scripts) nodes node) scripts c.requires.rows in
    let size = c.loop-editor.auto.rows in
    let lt : k < length scripts = omega (arith, c.loop-editor-test.true, count) in
    let there : k < length rows = omega (arith, c.loop-editor-test.true, size) in
    let f = row_for (length scripts) nodes node in
    let now = sym (counting.seats_at rows k d there) ∙ left_at f (row_for (length scripts) nodes (node + 1)) scripts (map row_seats rows) k [] lt c.loop-editor.invariant.rows (row_seats d) in
    counting.has_place rows c.args.rows.now (f (get_or scripts k [])) node k d there c.loop-editor.invariant.capacities now (row_size (length scripts) nodes node (get_or scripts k [])) c.requires.room

pub loop-editor-preserved : goal.loop-editor-preserved
loop-editor-preserved g c =
    let nodes = g.E.Worked.nodes c.args.editors.now in
    let scripts = g.E.Worked.scripts c.args.editors.now in
    let k = c.loop-editor.editor in
    let node = c.args.node in
    let rows = c.loop-editor.rows in
    let object = object_of c.args.object.now in
    let opener = c.loop-editor.opener in
    let invariant = c.loop-editor.invariant in
    let holds = c.holds-room.result in
    let held = c.held-references.result in
    let d = c.index-rows-editor.result in
    let count = as_many c.args.rows.now (row_for (length scripts) nodes node) scripts c.requires.rows in
    let size = c.loop-editor.auto.rows in
    let lt : k < length scripts = omega (arith, c.loop-editor-test.true, count) in
    let there : k < length rows = omega (arith, c.loop-editor-test.true, size) in
    let counts = c.gestures-gestures.ensures.counts in
    let holds_are = c.holds-room.ensures ∙ counts.holds node in
    let held_is = c.held-references.ensures ∙ counts.held node in
    let f = row_for (length scripts) nodes node in
    let h = row_for (length scripts) nodes (node + 1) in
    let script = get_or scripts k [] in
    let others = map (part_for (length scripts) nodes node) (take k scripts) in
    let mine = first_of object (opener_seat opener) others invariant.held in
    let part = counting.part_is nodes node scripts k holds held lt holds_are held_is (holder_seat c.part-part.result) (c.part-part.ensures.part_object ∙ mine ∙ c.requires.object) c.part-part.ensures.part in
    let was = sym (counting.seats_at rows k d there) ∙ left_at f h scripts (map row_seats rows) k [] lt invariant.rows (row_seats d) in
    let new : row_seats c.push_reserved.new.self ≡ h script =
    counting.row_pushed c.push_reserved.new.self (get_or rows k d) c.part-part.result c.push_reserved.ensures.items
    ∙ ap (λ (seats : List Seat). seats ++ holder_seat c.part-part.result ∷ []) was ∙ ap (λ (seat : Seat). f script ++ seat ∷ []) part ∙ sym (row_more (length scripts) nodes node script) in
    let references = sum_by (in_hand nodes node) (drop (k + 1) scripts) in
    let room = sum_by (not_held nodes node) (drop (k + 1) scripts) in
    record {
      rows = map-set (λ row. row_seats row) rows k c.push_reserved.new.self ∙ ap (λ (seats : List Seat). set (map row_seats rows) k seats) new ∙ one_more f h scripts (map row_seats rows) k [] lt invariant.rows;
      capacities = capacities_same rows k c.push_reserved.new.self d there c.push_reserved.ensures.capacity ∙ invariant.capacities;
      references = edit_split references room (held + 1) (64 - holds) (opener_seat opener) (opener_seat c.part-part.new.o)
          (has_same (sum_by (in_hand nodes node) (drop k scripts)) (references + (held + 1)) (sum_by (not_held nodes node) (drop k scripts)) (room + (64 - holds)) (opener_seat opener)
          (counting.references_left nodes node scripts k holds held lt holds_are held_is) (counting.room_left nodes node scripts k holds held lt holds_are held_is) invariant.references)
          (positions_of object.cap opener.numbers _ invariant.held.whole) c.part-part.ensures.rest;
      held = parted_together object (opener_seat opener) (opener_seat c.part-part.new.o) (holder_seat c.part-part.result) others (map (part_for (length scripts) nodes node) (take (k + 1) scripts)) invariant.held
          c.part-part.ensures.kept c.part-part.ensures.object c.part-part.ensures.part_object
          (map_more (part_for (length scripts) nodes node) scripts k [] lt ∙ ap (λ (seat : Seat). others ++ seat ∷ []) (sym part));
      value = c.part-part.ensures.value ∙ invariant.value;
    }

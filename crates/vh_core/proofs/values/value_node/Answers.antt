use Rattle.std.proofs.Common.{◌∙◌, ℕ, ◌≤◌, ◌^◌, List, length, Vec, sym, ap, subst, arith}
use Rattle.std.specs.Prelude.{All}
use Rattle.std.specs.Vec.{with_items}
use Rattle.std.specs.declared.alloc.Global.{Global}
use Rattle.std.proofs.lemmas.List.{with_items_is}
use Rattle.vh_session.specs.Names.{content_of}
use Rattle.vh_meaning.specs.Scene.{scene_of}
use Rattle.vh_meaning.specs.Values.{values_at}
use Rattle.vh_core.proofs.Rooms.{row_at, row_other, row_is, room_with_values}
use Rattle.vh_core.proofs.values.value_node.Goals as goal

pub returns-clause-values : goal.returns-clause-values
returns-clause-values c = λ class_of codes are.
    let count = c.requires.room.values in
    let there = c.requires.node in
    let row = c.index_mut-given.result.now in
    row_at c.args.room.now.values.items c.args.node (with_items row c.put_values.new.given) (omega (arith, count, there))
    ∙ with_items_is row c.put_values.new.given (c.put_values.auto.given ∙ c.deref_mut.ensures.len) ∙ c.put_values.ensures.values class_of codes are
    ∙ ap (λ (firsts : List ℕ). values_at (scene_of class_of codes firsts (content_of c.args.session.now)) c.args.entries.now c.args.sample c.args.node) c.deref.ensures.value

pub returns-clause-others : goal.returns-clause-others
returns-clause-others c = λ other apart. row_other c.args.room.now.values.items c.args.node other (with_items c.index_mut-given.result.now c.put_values.new.given) apart

pub returns-clause-within : goal.returns-clause-within
returns-clause-within c =
    let count = c.requires.room.values in
    let there = c.requires.node in
    let row = c.index_mut-given.result.now in
    let written = with_items_is row c.put_values.new.given (c.put_values.auto.given ∙ c.deref_mut.ensures.len) in
    subst (All (λ value. value ≤ 2 ^ 24)) (sym (row_at c.args.room.now.values.items c.args.node (with_items row c.put_values.new.given) (omega (arith, count, there)) ∙ written)) c.put_values.ensures.within

pub returns-clause-room : goal.returns-clause-room
returns-clause-room c =
    let room = c.args.room.now in
    let node = c.args.node in
    let count = c.requires.room.values in
    let there = c.requires.node in
    let row = c.index_mut-given.result.now in
    let written = with_items_is row c.put_values.new.given (c.put_values.auto.given ∙ c.deref_mut.ensures.len) in
    room_with_values (content_of c.args.session.now) room node (with_items row c.put_values.new.given) c.requires.room there
    (ap length written ∙ c.put_values.auto.given ∙ ap length c.deref_mut.ensures.value ∙ ap (λ (v : Vec ℕ Global). length v.items) c.index_mut-given.ensures.value
    ∙ ap length (row_is room.values.items node _ (omega (arith, count, there))) ∙ c.requires.room.each node there)

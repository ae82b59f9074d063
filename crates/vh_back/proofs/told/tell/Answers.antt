use Rattle.std.proofs.Common.{◌≤◌, ◌^◌, ℕ, List, length, set, get_or, refl, sym, ap, subst, ◌∙◌, arith}
use Rattle.std.proofs.lemmas.Bool.{leb-true}
use Rattle.vh_counted.specs.declared.object.Opened.{Opened}
use Rattle.vh_counted.specs.Held.{value_of_opened, with_value}
use Rattle.vh_back.specs.declared.item.Item.{Item}
use Rattle.vh_back.specs.Items.{parameter, is_within, value_for}
use Rattle.vh_back.specs.Follows.{of_openers, AreFollowed}
use Rattle.vh_back.proofs.Telling.{below_none, kept_map, echo_told, none_told, one_as_before}
use Rattle.vh_back.proofs.told.tell.Goals as goal

pub returns-then-node-edits-clause-values : goal.returns-then-node-edits-clause-values
returns-then-node-edits-clause-values g c =
    let at = c.in-Echo in
    let edits : List (Opened g.row.C.Denot) = c.args.edits.now in
    let d : Opened g.row.C.Denot = c.index-edits-node.result in
    let edit : Opened g.row.C.Denot = with_value c.set_normalized.new.self (get_or edits at.node d) in
    let values = rw c.value_mut.ensures.value at c.set_normalized.ensures.values in
    subst (λ (item : Item). AreFollowed g.C.Controller.class_of (λ one. value_for one item) (of_openers g.C.Controller.code edits) (of_openers g.C.Controller.values edits) (of_openers g.C.Controller.values (set edits at.node edit))) (sym at.is)
    (echo_told g.C.Controller.class_of g.C.Controller.code g.C.Controller.values g.met.C.Controller.lawful g.met.C.Controller.valued edits at.node at.id at.value at.after at.last edit d c.if-node-edits.true
    (leb-true at.value (2 ^ 24) (ap is_within (sym at.is) ∙ c.requires)) values)

pub returns-then-node-edits-clause-same : goal.returns-then-node-edits-clause-same
returns-then-node-edits-clause-same g c =
    let node : ℕ = c.in-Echo.node in
    let edits : List (Opened g.row.C.Denot) = c.args.edits.now in
    let d : Opened g.row.C.Denot = c.index-edits-node.result in
    one_as_before g.C.Controller.code g.C.Controller.mode edits node (with_value c.set_normalized.new.self (get_or edits node d)) d c.if-node-edits.true
    (c.set_normalized.ensures.code ∙ ap g.C.Controller.code c.value_mut.ensures.value) (c.set_normalized.ensures.mode ∙ ap g.C.Controller.mode c.value_mut.ensures.value) refl refl

pub returns-else-node-edits-clause-values : goal.returns-else-node-edits-clause-values
returns-else-node-edits-clause-values g c =
    let at = c.in-Echo in
    let edits : List (Opened g.row.C.Denot) = c.args.edits.now in
    let beyond : length edits ≤ at.node = c.if-node-edits.false in
    none_told g.C.Controller.class_of g.C.Controller.code g.C.Controller.values g.met.C.Controller.lawful g.met.C.Controller.valued edits (λ one. value_for one c.args.item)
    (λ node id within. ap (value_for (parameter node id)) at.is ∙ below_none at.node at.id at.value at.after at.last node id (omega arith)) (of_openers g.C.Controller.values edits) refl

pub returns-then-node-edits-2-clause-values : goal.returns-then-node-edits-2-clause-values
returns-then-node-edits-2-clause-values g c =
    let node : ℕ = c.in-Reply.reply.node in
    let edits : List (Opened g.row.C.Denot) = c.args.edits.now in
    let d : Opened g.row.C.Denot = c.index-edits-node-then-node-edits-2.result in
    let edit : Opened g.row.C.Denot = with_value c.notify.new.self (get_or edits node d) in
    none_told g.C.Controller.class_of g.C.Controller.code g.C.Controller.values g.met.C.Controller.lawful g.met.C.Controller.valued edits (λ one. value_for one c.args.item)
    (λ other id within. ap (value_for (parameter other id)) c.in-Reply.is) (of_openers g.C.Controller.values (set edits node edit))
    (kept_map (λ (e : Opened g.row.C.Denot). g.C.Controller.values (value_of_opened e)) edits node edit d c.if-node-edits-2.true
    (c.notify.ensures.values ∙ ap g.C.Controller.values c.value_mut-then-node-edits-2.ensures.value))

pub returns-then-node-edits-2-clause-same : goal.returns-then-node-edits-2-clause-same
returns-then-node-edits-2-clause-same g c =
    let node : ℕ = c.in-Reply.reply.node in
    let edits : List (Opened g.row.C.Denot) = c.args.edits.now in
    let d : Opened g.row.C.Denot = c.index-edits-node-then-node-edits-2.result in
    let value = c.value_mut-then-node-edits-2.ensures.value in
    one_as_before g.C.Controller.code g.C.Controller.mode edits node (with_value c.notify.new.self (get_or edits node d)) d c.if-node-edits-2.true
    (c.notify.ensures.code ∙ ap g.C.Controller.code value) (c.notify.ensures.mode ∙ ap g.C.Controller.mode value) refl refl

pub returns-else-node-edits-2-clause-values : goal.returns-else-node-edits-2-clause-values
returns-else-node-edits-2-clause-values g c =
    let edits : List (Opened g.row.C.Denot) = c.args.edits.now in
    none_told g.C.Controller.class_of g.C.Controller.code g.C.Controller.values g.met.C.Controller.lawful g.met.C.Controller.valued edits (λ one. value_for one c.args.item)
    (λ other id within. ap (value_for (parameter other id)) c.in-Reply.is) (of_openers g.C.Controller.values edits) refl

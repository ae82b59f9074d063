use Rattle.std.proofs.Common.{◌≡◌, ◌∙◌, ℕ, ◌≤◌, List, ◌++◌, length, take, drop, map, sym, ap, subst}
use Rattle.std.specs.Prelude.{All, Vec, vec_capacity}
use Rattle.std.specs.declared.alloc.Global.{Global}
use Rattle.vh_counted.specs.declared.object.Holder.{Holder}
use Rattle.vh_counted.specs.declared.object.Opened.{Opened}
use Rattle.vh_counted.specs.Held.{value_of_opened}
use Rattle.vh_back.specs.Follows.{of_openers}
use Rattle.vh_hands.specs.Hands.{HaveTheirOwn}
use Rattle.vh_hands.specs.Following.{HaveFollowed}
use Rattle.vh_hands.proofs.Gathering.{openers_count, rows_long}
use Rattle.vh_hands.proofs.Values.{written, as_roomy, meant_same}
use Rattle.vh_hands.proofs.hands.Hands.hand_out.Goals as goal

pub hand_out_all-requires-clause-openers : goal.hand_out_all-requires-clause-openers
hand_out_all-requires-clause-openers g c =
    let self = c.args.self.now in
    let items = self.edits.items in
    let new = c.gather_all.new.edits in
    let size : length new ≡ self.edits.len = c.gather_all.auto.edits ∙ ap length c.deref_mut.ensures.value ∙ sym self.edits.ok.0 in
    ap length (c.deref_mut-3.ensures.value ∙ written self.edits.len new items size) ∙ size ∙ self.edits.ok.0
    ∙ openers_count _ self.controllers.items items self.holders.items c.requires.made ∙ ap length (sym c.deref-2.ensures.value)

pub hand_out_all-requires-clause-room : goal.hand_out_all-requires-clause-room
hand_out_all-requires-clause-room g c =
    let self = c.args.self.now in
    let rows = self.holders.items in
    let new = c.gather_all.new.rows in
    let size : length new ≡ self.holders.len = c.gather_all.auto.rows ∙ ap length c.deref_mut-2.ensures.value ∙ sym self.holders.ok.0 in
    let Roomy : ℕ → List ℕ → Type 0 = λ n caps. All (λ (room : ℕ). n ≤ room) caps in
    let capacities : map vec_capacity c.deref_mut-4.result.now ≡ map vec_capacity rows =
    ap (λ (rs : List (Vec (Holder g.row.C.Denot) Global)). map vec_capacity rs) (c.deref_mut-4.ensures.value ∙ written self.holders.len new rows size)
    ∙ c.gather_all.ensures.capacities ∙ ap (λ (rs : List (Vec (Holder g.row.C.Denot) Global)). map vec_capacity rs) c.deref_mut-2.ensures.value in
    subst (λ (n : ℕ). Roomy n (map vec_capacity c.deref_mut-4.result.now)) (ap length (sym c.deref-2.ensures.value))
    (subst (Roomy (length self.controllers.items)) (sym capacities) (as_roomy (length self.controllers.items) rows (rows_long _ self.controllers.items self.edits.items rows c.requires.made)))

pub returns-clause-openers : goal.returns-clause-openers
returns-clause-openers g c =
    let self = c.args.self.now in
    let items = self.edits.items in
    let one = c.gather_all.new.edits in
    let two = c.hand_out_all.new.edits in
    let size : length one ≡ self.edits.len = c.gather_all.auto.edits ∙ ap length c.deref_mut.ensures.value ∙ sym self.edits.ok.0 in
    let between = take self.edits.len (one ++ drop (length one) items) in
    let first : c.deref_mut-3.result.now ≡ one = c.deref_mut-3.ensures.value ∙ written self.edits.len one items size in
    let sizes : length two ≡ self.edits.len = c.hand_out_all.auto.edits ∙ ap length first ∙ size in
    subst HaveTheirOwn (sym (written self.edits.len two between sizes)) c.hand_out_all.ensures.openers

pub returns-clause-following : goal.returns-clause-following
returns-clause-following g c = λ firsts following.
    let class_of = g.C.Controller.class_of in
    let code = g.C.Controller.code in
    let values = g.C.Controller.values in
    let self = c.args.self.now in
    let items = self.edits.items in
    let one = c.gather_all.new.edits in
    let two = c.hand_out_all.new.edits in
    let size : length one ≡ self.edits.len = c.gather_all.auto.edits ∙ ap length c.deref_mut.ensures.value ∙ sym self.edits.ok.0 in
    let between = take self.edits.len (one ++ drop (length one) items) in
    let first : c.deref_mut-3.result.now ≡ one = c.deref_mut-3.ensures.value ∙ written self.edits.len one items size in
    let sizes : length two ≡ self.edits.len = c.hand_out_all.auto.edits ∙ ap length first ∙ size in
    let all = take self.edits.len (two ++ drop (length two) between) in
    let values_of : List (Opened g.row.C.Denot) → List g.row.C.Denot = λ edits. map value_of_opened edits in
    let same : values_of all ≡ values_of items = ap values_of (written self.edits.len two between sizes) ∙ c.hand_out_all.ensures.values ∙ ap values_of first ∙ c.gather_all.ensures.values ∙ ap values_of c.deref_mut.ensures.value in
    subst (λ (codes : List ℕ). HaveFollowed class_of codes firsts (of_openers values all) self.follower) (sym (meant_same code all items same))
    (subst (λ (vs : List (List ℕ)). HaveFollowed class_of (of_openers code items) firsts vs self.follower) (sym (meant_same values all items same)) following)

use Rattle.std.proofs.Common.{rules, ◌≡◌, ◌∙◌, ◌==◌, ◌&&◌, ◌<◌, true, false, length, get_or, sym, subst}
use Rattle.std.specs.List.{list_any}
use Rattle.std.proofs.lemmas.List.{take_all}
use Rattle.std.proofs.lemmas.List.Folds.{list_any_at}
use Rattle.vh_session.specs.declared.draft.LaneDraft.{LaneDraft}
use Rattle.vh_session.specs.Entry.{LaneText}
use Rattle.vh_session.specs.View.{lane_text}
use Rattle.vh_session.proofs.Lists.{list_any_map}
use Rattle.vh_session.proofs.draft.Draft.has_lane.Goals as goal

pub returns-then-lane-id : goal.returns-then-lane-id
returns-then-lane-id c =
    let lanes = c.args.self.now.lanes.items in
    let i = c.loop-lane.lane-index in
    let d = c.lane-item.result in
    let lt : i < length lanes = search rules in
    let found : ((get_or lanes i d).node == c.args.node) && ((get_or lanes i d).id == c.args.id) ≡ true = search rules in
    sym (list_any_map (λ (lane : LaneText). (lane.node == c.args.node) && (lane.id == c.args.id)) lane_text lanes
    ∙ list_any_at (λ (lane : LaneDraft). (lane.node == c.args.node) && (lane.id == c.args.id)) lanes i d lt found)

pub returns : goal.returns
returns c =
    let lanes = c.args.self.now.lanes.items in
    let none = subst (λ ls. list_any (λ (lane : LaneDraft). (lane.node == c.args.node) && (lane.id == c.args.id)) ls ≡ false) (take_all c.loop-lane.lane-index lanes (search rules)) c.loop-lane.invariant in
    sym (list_any_map (λ (lane : LaneText). (lane.node == c.args.node) && (lane.id == c.args.id)) lane_text lanes ∙ none)

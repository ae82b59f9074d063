use Rattle.std.proofs.Common.{rules, ◌<◌, ◌≤◌, length, get_or, subst, sym, List}
use Rattle.vh_text.specs.declared.token.Token.{Token}
use Rattle.vh_text.proofs.Spans.{within_line}
use Rattle.vh_text.proofs.cut.slices.Goals as goal

pub slice_bounds-push-count : goal.slice_bounds-push-count
slice_bounds-push-count c =
    let i = c.loop-token.token-index in
    let d : Token = record { from = 0; to = 0 } in
    let lt = subst (λ (ts : List Token). i < length ts) c.requires c.loop-token-test.true in
    subst (λ (ts : List Token). (get_or ts i d).from ≤ (get_or ts i d).to) (sym c.requires) (within_line c.args.line.now i d lt).0

pub slice_bounds-push-start : goal.slice_bounds-push-start
slice_bounds-push-start c =
    let i = c.loop-token.token-index in
    let d : Token = record { from = 0; to = 0 } in
    let lt = subst (λ (ts : List Token). i < length ts) c.requires c.loop-token-test.true in
    let le = subst (λ (ts : List Token). (get_or ts i d).from ≤ (get_or ts i d).to) (sym c.requires) (within_line c.args.line.now i d lt).0 in
    search rules

pub slice_bounds-push-end : goal.slice_bounds-push-end
slice_bounds-push-end c =
    let i = c.loop-token.token-index in
    let d : Token = record { from = 0; to = 0 } in
    let lt = subst (λ (ts : List Token). i < length ts) c.requires c.loop-token-test.true in
    let le = subst (λ (ts : List Token). (get_or ts i d).to ≤ length c.args.line.now) (sym c.requires) (within_line c.args.line.now i d lt).1 in
    search rules

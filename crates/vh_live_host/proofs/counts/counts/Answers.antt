use Rattle.std.proofs.Common.{◌≡◌, ◌∙◌, ℕ, List, [], ◌∷◌, ◌++◌, length, get_or, sym, ap, arith}
use Rattle.std.proofs.lemmas.List.FromFn.{map-range_with_len_more}
use Rattle.vh_params.specs.Nodes.{nodes_of}
use Rattle.vh_legal.specs.Legal.{scripts_of}
use Rattle.vh_answers.specs.declared.report.EditorCounts.{EditorCounts}
use Rattle.vh_live_host.proofs.Counted.{counted, counted_to, all_counted}
use Rattle.vh_live_host.proofs.counts.counts.Goals as goal

pub returns : goal.returns
returns c = λ session legal refused.
    let entries = c.args.entries.now in
    let all : c.loop-editor.editor ≡ length c.args.refused.now = omega arith in
    c.loop-editor.invariant ∙ ap (counted_to entries c.args.refused.now) all
    ∙ all_counted (nodes_of session.nodes) (scripts_of session) entries c.args.refused.now refused legal.played

pub loop-editor-preserved : goal.loop-editor-preserved
loop-editor-preserved c =
    let entries = c.args.entries.now in
    let refused = c.args.refused.now in
    let editor = c.loop-editor.editor in
    let of : ℕ → EditorCounts = λ accepted. record { accepted = accepted; refused = get_or refused editor 0 } in
    c.in_ok-push.ensures.items ∙ ap (λ (counts : List EditorCounts). counts ++ of c.entries_by.result ∷ []) c.loop-editor.invariant
    ∙ ap (λ n. counted_to entries refused editor ++ of n ∷ []) c.entries_by.ensures
    ∙ sym (map-range_with_len_more (counted entries refused) 0 editor editor (omega arith))

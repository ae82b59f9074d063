use Rattle.std.proofs.Common.{◌≡◌, ◌∙◌, ℕ, length, [], ◌∷◌, true, cond, sym, ap}
use Rattle.vh_params.specs.Nodes.{nodes_of}
use Rattle.vh_params.specs.declared.command.Word.TheVariants.{Edit}
use Rattle.vh_core.specs.declared.sent.Sent.{Sent}
use Rattle.vh_core.specs.Accepting.{edits_by, sent_by}
use Rattle.vh_core.specs.Heard.{is_heard}
use Rattle.vh_core.proofs.Heard.{sent_is, none_sent}
use Rattle.vh_core.proofs.accept.sent_by.Goals as goal

pub returns-then-not-hear : goal.returns-then-not-hear
returns-then-not-hear c =
    sym (none_sent (nodes_of c.args.nodes.now) c.args.puts.now c.args.editor c.args.word.now c.in_ok-gestures.gestures c.table_counts.ensures c.in_ok-gestures.ensures.table (sym c.if-not-hear.ensures.heard))

pub returns-in-Edit : goal.returns-in-Edit
returns-in-Edit c =
    let nodes = nodes_of c.args.nodes.now in
    let editor = c.args.editor in
    let command = c.in-Edit.command in
    let heard : is_heard nodes c.in_ok-gestures.gestures (Edit command) ≡ true = sym (c.if-not-hear.ensures.heard ∙ ap (is_heard nodes c.in_ok-gestures.gestures) c.in-Edit.is) in
    let sent : ℕ → Sent = λ n. record { editor = editor; seq = n; command = command } in
    ap (λ n. sent n ∷ []) c.in_ok-gestures.ensures.edits
    ∙ sym (ap (sent_by nodes c.args.puts.now editor) c.in-Edit.is
    ∙ sent_is nodes c.args.puts.now editor command c.in_ok-gestures.gestures c.table_counts.ensures c.in_ok-gestures.ensures.table
    ∙ ap (λ t. cond t (sent (length (edits_by nodes editor c.args.puts.now)) ∷ []) []) heard)

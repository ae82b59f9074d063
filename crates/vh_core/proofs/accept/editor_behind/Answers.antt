use Rattle.std.proofs.Common.{◌≡◌, ◌∙◌, ◌+◌, ◌∷◌, length, drop, refl, sym, ap, subst, arith}
use Rattle.std.proofs.lemmas.List.{length-replicate}
use Rattle.vh_params.specs.Nodes.{nodes_of}
use Rattle.vh_gesture.specs.Scripts.{commands}
use Rattle.vh_gesture.specs.Tables.{IsOf, one_reference, accepted_by, table_after}
use Rattle.vh_core.specs.Accepting.{words_by}
use Rattle.vh_core.proofs.Heard.{all_named, put_table, put_edits}
use Rattle.vh_core.proofs.Queues.{drop_at}
use Rattle.vh_core.proofs.accept.editor_behind.Goals as goal

pub loop-put-init : goal.loop-put-init
loop-put-init c =
    let nodes = nodes_of c.args.nodes.now in
    let words = words_by nodes c.args.editor c.args.puts.now in
    let fresh = c.in_ok-gestures.ensures in
    let all = ap (λ t. length (commands (accepted_by nodes t words))) fresh ∙ ap length (c.table_gives_edits.ensures nodes words (all_named nodes c.args.editor c.args.puts.now)) in
    record {
      of = subst (IsOf nodes) (sym fresh) (record { count = length-replicate (length nodes) one_reference; keys = refl });
      table = ap (λ t. table_after nodes t words) fresh;
      edits = omega (arith, all);
      few = omega arith;
    }

pub loop-put-preserved : goal.loop-put-preserved
loop-put-preserved c =
    let nodes = nodes_of c.args.nodes.now in
    let editor = c.args.editor in
    let table = c.loop-put.gestures in
    let put = c.put-item.result in
    let rest = drop (c.loop-put.put-index + 1) c.args.puts.now in
    let left : drop c.loop-put.put-index c.args.puts.now ≡ put ∷ rest = drop_at c.args.puts.now c.loop-put.put-index put c.put-item.is c.loop-put-test.true in
    let next = put_edits nodes editor table put rest in
    let heard = ap (λ t. length (commands (accepted_by nodes t (words_by nodes editor rest)))) c.hear_put-edits.ensures.table in
    let before = ap (λ l. length (commands (accepted_by nodes table (words_by nodes editor l)))) left in
    let edits = c.hear_put-edits.ensures.edits in
    let all = c.loop-put.invariant.edits in
    let few = c.loop-put.invariant.few in
    let one = c.hear_put-edits.ensures.few in
    record {
      of = c.hear_put-edits.ensures.nodes;
      table =
          ap (λ t. table_after nodes t (words_by nodes editor rest)) c.hear_put-edits.ensures.table
          ∙ put_table nodes editor table put rest
          ∙ ap (λ l. table_after nodes table (words_by nodes editor l)) (sym left)
          ∙ c.loop-put.invariant.table;
      edits = omega (arith, next, heard, before, edits, all);
      few = omega (arith, few, one);
    }

use Rattle.std.proofs.Common.{List, sym, ap, subst, arith}
use Rattle.vh_params.specs.Nodes.{Node}
use Rattle.vh_session.specs.Content.{Content}
use Rattle.vh_journal_text.specs.Keeps.{AreThere}
use Rattle.vh_live_host.proofs.Replied.{few_entries}
use Rattle.vh_live_host.proofs.Finished.{few_editors}
use Rattle.vh_live_host.proofs.results.Results.new.Goals as goal

pub print-requires : goal.print-requires
print-requires g c =
    let are = c.requires.played.3 in
    subst (λ (nodes : List Node). AreThere nodes c.args.done.now.entries.now) (sym (ap (λ (content : Content). content.nodes) are.session_is))
    (c.legal_reads_back.ensures c.requires.played.0 c.args.done.now.entries.now are.legal).there

pub counts-requires-clause-entries : goal.counts-requires-clause-entries
counts-requires-clause-entries g c =
    let are = c.requires.played.3 in
    let few = few_entries _ _ c.args.done.now.entries.now (c.legal_reads_back.ensures c.requires.played.0 c.args.done.now.entries.now are.legal).rules in
    omega (arith, few)

pub counts-requires-clause-editors : goal.counts-requires-clause-editors
counts-requires-clause-editors g c =
    let are = c.requires.played.3 in
    let few = few_editors c.requires.played.0 c.args.done.now.refused.now are.refused_are in
    omega (arith, few)

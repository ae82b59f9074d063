use Rattle.std.proofs.Common.{◌∙◌, ap, arith}
use Rattle.std.proofs.lemmas.Bool.{eqb-true}
use Rattle.std.proofs.lemmas.List.{take_all}
use Rattle.vh_params.specs.Nodes.{nodes_of}
use Rattle.vh_legal.specs.Values.{param_count}
use Rattle.journal_tests.proofs.legal.are_firsts.Goals as goal

pub returns : goal.returns
returns c holds = record {
  each = eqb-true _ _ holds ∙ c.params_before.ensures ∙ ap param_count (take_all c.len.result (nodes_of c.args.nodes.now) (omega (arith, c.len.ensures.count)));
  within = λ k d lt. c.loop-first.invariant k d (omega (arith, lt, c.loop-first-test.false));
}

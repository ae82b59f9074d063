use Rattle.std.proofs.Common.{◌≡◌, ◌%◌, ◌<◌, ◌≤◌, inl, sym, ap, subst, arith}
use Rattle.std.specs.Prelude.{sum}
use Rattle.std.proofs.lemmas.Bool.{eqb-true, eq-eqb}
use Rattle.vh_legal.specs.Blocks.{IsTurn}
use Rattle.vh_legal.proofs.Turns.{at_turn, turn_at, past_end, short_turn}
use Rattle.vh_legal.proofs.blocks.is_at_block.Goals as goal

pub returns-then-sample-samples : goal.returns-then-sample-samples
returns-then-sample-samples c =
    let past : c.args.samples ≤ c.args.sample = omega (arith, c.if-sample-samples.true) in
    (λ is. inl (eqb-true c.args.sample c.args.samples is), λ at. eq-eqb c.args.sample c.args.samples (past_end c.args.samples c.args.pattern.now c.args.sample past at))

pub total-requires : goal.total-requires
total-requires c = let short = short_turn c.args.pattern.now c.requires in omega (arith, short.1)

pub nonzero_rem-sample : goal.nonzero_rem-sample
nonzero_rem-sample c = let short = short_turn c.args.pattern.now c.requires in omega (arith, short.0, c.total.ensures)

pub returns : goal.returns
returns c =
    let pattern = c.args.pattern.now in
    let s = c.args.sample in
    let within : s < c.args.samples = omega (arith, c.if-sample-samples.false) in
    let same : s % c.total.result ≡ s % sum pattern = ap (λ n. s % n) c.total.ensures in
    (λ is. at_turn c.args.samples pattern s c.requires within (subst (IsTurn pattern) same (c.is_turn.ensures.0 is)), λ at. c.is_turn.ensures.1 (subst (IsTurn pattern) (sym same) (turn_at c.args.samples pattern s c.requires within at)))

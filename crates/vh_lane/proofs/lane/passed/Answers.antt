use Rattle.std.proofs.Common.{ℕ, leb, arith, rules}
use Rattle.std.proofs.lemmas.Bool.{leb-true, leb-false}
use Rattle.std.proofs.lemmas.List.Sorted.{IsPartitionPoint-from_clause, IsPartitionedBy-leb}
use Rattle.vh_lane.proofs.Segments.{no_fall}
use Rattle.vh_lane.proofs.lane.passed.Goals as goal

pub returns : goal.returns
returns c =
    let parted = IsPartitionedBy-leb (λ (p : ℕ × ℕ). p.0) _ c.args.s (no_fall c.args.breaks.now c.requires) in
    let point = IsPartitionPoint-from_clause (λ (p : ℕ × ℕ). leb p.0 c.args.s) _ _ c.partition_point.ensures.partitioned parted (λ a r q k. search rules) in
    record {
      most = c.partition_point.ensures.bound;
      before = λ i d lt. leb-true _ _ (point.0 i d (omega arith) lt);
      after = λ i d le within. leb-false _ _ (point.1 i d le within);
    }

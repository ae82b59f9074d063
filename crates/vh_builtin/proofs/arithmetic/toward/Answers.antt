use Rattle.std.proofs.Common.{rules, ◌≡◌, ◌^◌, pos, neg_ℤ, ◌+ℤ◌, ◌*ℤ◌, w32, w64, arith}
use mir.Val.{to_z, of_z}
use Rattle.vh_num.specs.Samples.{floor_div}
use Rattle.vh_builtin.specs.Ranges.{IsSample}
use Rattle.vh_builtin.proofs.Shares.{pole_is_sample}
use Rattle.vh_builtin.proofs.arithmetic.toward.Goals as goal

pub raised-requires : goal.raised-requires
raised-requires c =
    let z : to_z w32 (of_z w32 c.args.from) ≡ c.args.from = search rules in
    let moved : to_z w64 (of_z w64 c.by_unit.result) ≡ floor_div ((c.args.to +ℤ neg_ℤ c.args.from) *ℤ pos c.args.part) (2 ^ 24) = search rules in
    let is : IsSample c.args.from = search rules in
    let too : IsSample c.args.to = search rules in
    rw z (rw moved (pole_is_sample c.args.from c.args.to c.args.part (2 ^ 24) c.requires (omega arith) is too))

use Rattle.std.proofs.Common.{rules, ◌≡◌, ◌^◌, pos, ◌*ℤ◌, w32}
use mir.Val.{SFits, to_z, of_z}
use Rattle.std.proofs.lemmas.Int.{to_z-of_z}
use Rattle.vh_num.specs.Samples.{floor_div}
use Rattle.vh_builtin.specs.Ranges.{IsSample}
use Rattle.vh_builtin.proofs.Powers.{cut_is_sample}
use Rattle.vh_builtin.proofs.crusher.crush.Goals as goal

pub overflow_mul-result : goal.overflow_mul-result
overflow_mul-result c =
    let quotient : to_z w32 (of_z w32 c.cut.result) ≡ floor_div c.args.x (2 ^ c.args.bits) = search rules in
    let unit : to_z w32 (of_z w32 c.args.unit) ≡ pos (2 ^ c.args.bits) = search rules in
    let x : IsSample c.args.x = search rules in
    let is = cut_is_sample c.args.x c.args.bits c.requires.bits x in
    rw quotient (rw unit (search (rules, is)))

pub returns : goal.returns
returns c =
    let quotient : to_z w32 (of_z w32 c.cut.result) ≡ floor_div c.args.x (2 ^ c.args.bits) = search rules in
    let unit : to_z w32 (of_z w32 c.args.unit) ≡ pos (2 ^ c.args.bits) = search rules in
    let x : IsSample c.args.x = search rules in
    let is = cut_is_sample c.args.x c.args.bits c.requires.bits x in
    let fits : SFits w32 (floor_div c.args.x (2 ^ c.args.bits) *ℤ pos (2 ^ c.args.bits)) = search (rules, is) in
    rw quotient (rw unit (to_z-of_z w32 _ fits))

use Rattle.std.proofs.Common.{◌≡◌, ◌∙◌, List, length, ℤ, sym, ap}
use Rattle.vh_engine.specs.Buses.{rows_of, sources_of}
use Rattle.vh_engine.proofs.Mixing.{length_mixed}
use Rattle.vh_engine.proofs.block.mix_out.Goals as goal

pub copy_from_slice-requires : goal.copy_from_slice-requires
copy_from_slice-requires c =
    let ins = c.args.ins.now in
    c.requires.outs ∙ sym (ap (λ (l : List ℤ). length l) c.mix.ensures.mix ∙ length_mixed (length ins) (sources_of ins (rows_of c.args.rows.now) (length ins) c.args.ends.now))

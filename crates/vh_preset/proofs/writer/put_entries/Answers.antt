use Rattle.vh_preset.proofs.Written.{entries_step, place_step}
use Rattle.vh_preset.proofs.writer.put_entries.Goals as goal

pub loop-part-preserved : goal.loop-part-preserved
loop-part-preserved c = record {
  file = entries_step c.args.file.now.items c.loop-part.file.items c.put_entry.new.file.items c.args.parts.now c.loop-part.part-index c.loop-part.at _ c.loop-part-test.true c.loop-part.invariant.place c.loop-part.invariant.file c.in_ok-put_entry.ensures;
  place = place_step c.args.parts.now c.loop-part.part-index c.loop-part.at _ c.loop-part-test.true c.loop-part.invariant.place;
}

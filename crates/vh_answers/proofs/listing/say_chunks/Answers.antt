use Rattle.std.proofs.Common.{rules, ap}
use Rattle.vh_answers.specs.Listing.{chunks_text}
use Rattle.vh_answers.proofs.Told.{goes_on, breaks_off, next_at}
use Rattle.vh_answers.proofs.listing.say_chunks.Goals as goal

pub returns-in_err-say_chunk : goal.returns-in_err-say_chunk
returns-in_err-say_chunk g c =
    breaks_off _ _ _ _ _ _ _ c.from_residual.result c.say_chunk.result _ (search rules) c.in_err-say_chunk.was c.loop-entry.invariant
    (ap chunks_text (next_at c.args.entries.now c.loop-entry.entry-index _ c.loop-entry-test.true)) c.say_chunk.ensures

pub loop-entry-preserved : goal.loop-entry-preserved
loop-entry-preserved g c =
    goes_on _ _ _ _ _ _ _ c.say_chunk.result _ c.in_ok-say_chunk.was c.loop-entry.invariant
    (ap chunks_text (next_at c.args.entries.now c.loop-entry.entry-index _ c.loop-entry-test.true)) c.say_chunk.ensures

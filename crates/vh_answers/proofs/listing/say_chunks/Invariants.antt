use Rattle.std.proofs.Common.{drop}
use Rattle.vh_answers.specs.Outside.{voice}
use Rattle.vh_answers.specs.Listing.{chunks_text}
use Rattle.vh_answers.proofs.Told.{IsOnTheWay}
use Rattle.vh_answers.proofs.listing.say_chunks.Given as goal

abbrev pub invariant-loop-entry : goal.invariant-loop-entry
invariant-loop-entry g l = IsOnTheWay (voice g.Y.Say l.fn.say) (voice g.Y.Say l.say) (chunks_text l.entries) (chunks_text (drop l.entry-index l.entries))

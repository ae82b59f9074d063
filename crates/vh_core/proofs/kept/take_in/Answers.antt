use Rattle.std.proofs.Common.{◌≡◌, ◌∙◌, suc, ◌+◌, ◌-◌, ◌++◌, ap, arith, map, take}
use Rattle.std.proofs.Common.{◌∷◌}
use Rattle.vh_core.specs.Steps.{entry_at}
use Rattle.vh_core.proofs.Queues.{drop_next, take_next}
use Rattle.vh_core.proofs.kept.take_in.Goals as goal

pub loop-preserved : goal.loop-preserved
loop-preserved c =
    let items = c.loop.inbox.items in
    let rest = c.pop_front.new.self.items in
    let first = c.in-Some.sent in
    let left = c.args.count - c.loop.counter in
    let next = c.args.count - (c.loop.counter + 1) in
    let is : items ≡ first ∷ rest = c.in-Some.ensures.items in
    let more : left ≡ suc next = omega arith in
    record {
      room = omega (arith, c.push_reserved.ensures.len, c.push_reserved.ensures.capacity, c.loop.invariant.room);
      inbox = drop_next items rest first left next is more ∙ c.loop.invariant.inbox;
      journal =
          ap (λ j. j ++ map (entry_at c.args.sample) (take next rest)) c.push_reserved.ensures.items
          ∙ take_next (entry_at c.args.sample) items rest first c.loop.journal.items left next is more
          ∙ c.loop.invariant.journal;
    }

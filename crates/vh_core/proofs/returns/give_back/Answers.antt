use Rattle.std.proofs.Common.{◌≡◌, ◌∙◌, suc, ◌+◌, ◌-◌, [], ◌∷◌, ap, sym, arith, map, take}
use Rattle.vh_core.specs.Kept.{return_of}
use Rattle.vh_core.specs.Steps.{given}
use Rattle.vh_core.proofs.Queues.{drop_next}
use Rattle.vh_core.proofs.Told.{given_append}
use Rattle.vh_core.proofs.returns.give_back.Goals as goal

pub loop-preserved : goal.loop-preserved
loop-preserved c =
    let items = map return_of c.loop.returns.items in
    let rest = map return_of c.pop_front.new.self.items in
    let first = return_of c.in-Some.back in
    let left = c.args.count - c.loop.counter in
    let next = c.args.count - (c.loop.counter + 1) in
    let is : items ≡ first ∷ rest = ap (map return_of) c.in-Some.ensures.items in
    let more : left ≡ suc next = omega arith in
    record {
      returns = drop_next items rest first left next is more ∙ c.loop.invariant.returns;
      controllers =
          ap (given (take next rest)) c.give.ensures
          ∙ sym (given_append (first ∷ []) (take next rest) c.loop.controllers)
          ∙ ap (λ n. given (take n (first ∷ rest)) c.loop.controllers) (sym more)
          ∙ ap (λ l. given (take left l) c.loop.controllers) (sym is)
          ∙ c.loop.invariant.controllers;
    }

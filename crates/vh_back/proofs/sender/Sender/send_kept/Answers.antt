use Rattle.std.proofs.Common.{◌+◌, ◌≤◌, ℕ, List, sym, subst}
use Rattle.vh_back.specs.declared.item.Item.{Item}
use Rattle.vh_back.specs.Inner.{IsKept}
use Rattle.vh_back.proofs.Keeping.{kept_rest}
use Rattle.vh_back.proofs.sender.Sender.send_kept.Goals as goal

pub invariant_of-self : goal.invariant_of-self
invariant_of-self c =
    let moved = c.send.ensures.moved in
    record {
      kept = kept_rest c.self.inside.params c.self.inside.tells moved.0 c.send.new.kept.items (subst (λ (items : List Item). IsKept c.self.inside.params c.self.inside.tells items) moved.2 c.self.invariant.kept);
      room = subst (λ (n : ℕ). c.self.inside.params + c.self.inside.tells ≤ n) (sym c.send.ensures.capacity) c.self.invariant.room;
    }

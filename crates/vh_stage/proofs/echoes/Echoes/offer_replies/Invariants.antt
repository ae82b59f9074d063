use Rattle.std.proofs.Common.{◌≡◌, ◌≤◌, ◌-◌, ◌++◌, length, drop}
use Rattle.vh_back.specs.declared.item.Parameter.{Parameter as Which}
use Rattle.vh_back.specs.Items.{replies as told_in, last_value}
use Rattle.vh_back.specs.Ends.{offered}
use Rattle.vh_stage.proofs.echoes.Echoes.offer_replies.Given as goal

abbrev pub decreases-loop-self : goal.decreases-loop-self
decreases-loop-self l = length l.replies - l.self.told

abbrev pub invariant-loop-self : goal.invariant-loop-self
invariant-loop-self l = record {
  within : l.self.told ≤ length l.replies;
  left : told_in (offered l.self.sender) ++ drop l.self.told l.replies ≡ told_in (offered l.fn.self.sender) ++ drop (length (told_in (offered l.fn.self.sender))) l.replies;
  follow : (which : Which) → last_value (offered l.self.sender) which ≡ last_value (offered l.fn.self.sender) which;
  echoed : l.self.echoed.items ≡ l.fn.self.echoed.items;
  parameters : l.self.parameters.items ≡ l.fn.self.parameters.items;
  ring : l.self.sender.ring ≡ l.fn.self.sender.ring;
  tells : l.self.sender.tells ≡ l.fn.self.sender.tells;
}

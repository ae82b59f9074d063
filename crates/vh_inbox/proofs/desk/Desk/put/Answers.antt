use Rattle.std.proofs.Common.{rules}
use Rattle.vh_inbox.proofs.Rules.{put_rule}
use Rattle.vh_inbox.proofs.desk.Desk.put.Goals as goal

pub push_as-requires-clause-rule : goal.push_as-requires-clause-rule
push_as-requires-clause-rule g c = put_rule _ _ _ _ _ _ c.self.invariant.knows c.self.invariant.next (search rules)

use Rattle.std.proofs.Common.{sym, ◌∙◌}
use Rattle.vh_back.specs.Items.{is_within}
use Rattle.vh_back.proofs.Keeping.{first_passes, none_first}
use Rattle.vh_back.proofs.sender.send.Goals as goal

pub push-requires : goal.push-requires
push-requires c =
    first_passes is_within c.loop-item.kept.items c.in-Some.item (sym (c.copied.ensures ∙ c.front.ensures) ∙ c.in-Some.is) c.loop-item.invariant.within

pub returns-clause-full : goal.returns-clause-full
returns-clause-full c = λ some. absurd (none_first c.loop-item.kept.items (sym (c.copied.ensures ∙ c.front.ensures) ∙ c.in_default.is) some)

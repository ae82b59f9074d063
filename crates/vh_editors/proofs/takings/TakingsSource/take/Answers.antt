use Rattle.std.proofs.Common.{map}
use Rattle.vh_inbox.specs.Values.{entry_at}
use Rattle.vh_editors.proofs.Gathering.{all_at}
use Rattle.vh_editors.proofs.takings.TakingsSource.take.Goals as goal

pub returns-clause-added : goal.returns-clause-added
returns-clause-added g c = (map (entry_at c.args.at) c.take_all.ensures.journal.0, c.take_all.ensures.journal.1, all_at c.args.at c.take_all.ensures.journal.0)

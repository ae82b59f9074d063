use Rattle.std.proofs.Common.{rules}
use Rattle.std.proofs.lemmas.Fn.{filter_same}
use Rattle.vh_files.specs.Shelf.{has_other_name}
use Rattle.vh_files.proofs.shelf.forget.Goals as goal

pub returns : goal.returns
returns c = filter_same _ (has_other_name c.args.name.now) _ (λ named kept f' called. search rules) _ _ c.retain.ensures.filtered

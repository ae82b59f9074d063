use Rattle.std.proofs.Common.{◌≡◌, drop}
use Rattle.vh_files.specs.Shelf.{key_in}
use Rattle.vh_files.proofs.shelf.key_of.Given as goal

abbrev pub invariant-loop-named : goal.invariant-loop-named
invariant-loop-named l = key_in (drop l.named-index l.names) l.name ≡ key_in l.names l.name

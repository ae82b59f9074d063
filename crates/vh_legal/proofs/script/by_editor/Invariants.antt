use Rattle.std.proofs.Common.{◌≡◌, take}
use Rattle.vh_legal.specs.Legal.{by_editor}
use Rattle.vh_legal.proofs.script.by_editor.Given as goal

abbrev pub invariant-loop-entry : goal.invariant-loop-entry
invariant-loop-entry l = l.own.items ≡ by_editor l.editor (take l.entry-index l.entries)

use Rattle.std.proofs.Common.{ℕ, ◌<◌, slice_index_or}
use Rattle.vh_journal.specs.declared.entry.Entry.{Entry as Stored}
use Rattle.vh_params.specs.Nodes.{nodes_of}
use Rattle.vh_stage.specs.Carried.{IsOn}
use Rattle.vh_stage.proofs.carried.are_on.Given as goal

abbrev pub invariant-loop-entry : goal.invariant-loop-entry
invariant-loop-entry l = (i : ℕ) (d : Stored) → i < l.entry-index → IsOn (nodes_of l.nodes) (slice_index_or l.entries i d).command

use Rattle.std.proofs.Common.{ℕ, ◌<◌}
use Rattle.vh_params.specs.Nodes.{nodes_of}
use Rattle.vh_legal.specs.Legal.{HasPlayed, script_at, scripts_of}
use Rattle.vh_legal.proofs.legal.is_legal.Given as goal

abbrev pub invariant-loop-editor : goal.invariant-loop-editor
invariant-loop-editor l = (k : ℕ) → k < l.editor → HasPlayed (nodes_of l.session.nodes) (script_at (scripts_of l.session) k) k l.entries

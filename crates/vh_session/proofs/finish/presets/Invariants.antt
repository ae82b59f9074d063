use Rattle.std.proofs.Common.{◌≡◌, ◌++◌, ◌+◌, map, length}
use Rattle.vh_session.specs.Content.{presets_from}
use Rattle.vh_session.specs.Parts.{preset_text}
use Rattle.vh_session.specs.View.{preset_of}
use Rattle.vh_session.proofs.finish.presets.Given as goal

abbrev pub invariant-loop-mark : goal.invariant-loop-mark
invariant-loop-mark l = (l.node + length l.mark-iterator.rest.items ≡ length l.fn.marks.items)
    × (map preset_text l.presets.items ++ presets_from l.node (map preset_of l.mark-iterator.rest.items) ≡ presets_from 0 (map preset_of l.fn.marks.items))

use Rattle.std.proofs.Common.{◌≡◌, map, take, None}
use Rattle.std.specs.Prelude.{◌==◌}
use Rattle.std.specs.List.{find}
use Rattle.vh_session.specs.Parts.{preset_text}
use Rattle.vh_reading.proofs.presets.file_of.Given as goal

abbrev pub invariant-loop-preset : goal.invariant-loop-preset
invariant-loop-preset l = find (λ preset. preset.0 == l.node) (map preset_text (take l.preset-index l.session.presets.items)) ≡ None
